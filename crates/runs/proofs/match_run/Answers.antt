-- What is left of the run compares with what is left of q as the run does with q, at each turn.
-- where the branch's ways meet, the octet meant stands at p
use Prim.Native.Nat.{◌-◌, ◌<◌}
use native.Mathlib.Omega.{arith}
use mathlib.Core.Path.{refl, sym, ◌∙◌}
use mathlib.Core.Logic.{⊎_elim}
use borrow.Author.Tests.{not-true, not-false}
use Rattle.values.specs.Rest.{Meant}
use Rattle.values.proofs.Meant.{at_plain, behind_backslash}
use Rattle.runs.proofs.Matching.{match_more, match_differs, match_stop, match_none, match_end}
use Rattle.runs.proofs.match_run.Goals as goal
use Rattle.runs.proofs.match_run.Goals.{then-s-h-eq92+else-p-e, else-s-h-eq92}

pub loop-k-init : goal.loop-k-init
loop-k-init c =
    record {
      forward = omega arith;
      inside = omega (arith, c.requires.0);
      within = omega arith;
      left = refl;
      alike = refl;
    }

pub bounds-s-h : goal.bounds-s-h
bounds-s-h c = omega arith

pub next-p-requires : goal.next-p-requires
next-p-requires c = omega arith

pub returns-then-p-e : goal.returns-then-p-e
returns-then-p-e c =
    let pre' = c.requires in
    let backslash = c.if-s-h-eq92.true in
    let lone = behind_backslash c.loop-k-test.true pre'.1 backslash c.next-p.ensures in
    match_none c.loop-k.invariant pre'.2 lone refl pre'.0 c.if-p-e.true

pub bounds-s-j : goal.bounds-s-j
bounds-s-j c =
    let m : Meant c.args.s.now c.args.e.0 c.loop-k.k.0 c.if-s-h-eq92.p.0 × (c.if-s-h-eq92.p.0 < c.args.e.0) =
    elim c.if-s-h-eq92.branch [
      | then-s-h-eq92+else-p-e w ↦
          rw w.p-is (behind_backslash c.loop-k-test.true c.requires.1 w.if-s-h-eq92.true w.next-p.ensures, w.if-p-e.false)
      | else-s-h-eq92 w ↦ rw w.p-is (at_plain c.loop-k-test.true c.requires.1 w.if-s-h-eq92.false, c.loop-k-test.true)
    ]
    in
    omega (arith, m.1)

pub returns-then-c-eq32 : goal.returns-then-c-eq32
returns-then-c-eq32 c =
    let m : Meant c.args.s.now c.args.e.0 c.loop-k.k.0 c.if-s-h-eq92.p.0 × (c.if-s-h-eq92.p.0 < c.args.e.0) =
    elim c.if-s-h-eq92.branch [
      | then-s-h-eq92+else-p-e w ↦
          rw w.p-is (behind_backslash c.loop-k-test.true c.requires.1 w.if-s-h-eq92.true w.next-p.ensures, w.if-p-e.false)
      | else-s-h-eq92 w ↦ rw w.p-is (at_plain c.loop-k-test.true c.requires.1 w.if-s-h-eq92.false, c.loop-k-test.true)
    ]
    in
    let loop' = c.loop-k in
    let pre' = c.requires in
    match_stop loop'.invariant pre'.2 m.0 refl m.1 c.if-c-eq32.true

pub next-after-requires : goal.next-after-requires
next-after-requires c =
    let m : Meant c.args.s.now c.args.e.0 c.loop-k.k.0 c.if-s-h-eq92.p.0 × (c.if-s-h-eq92.p.0 < c.args.e.0) =
    elim c.if-s-h-eq92.branch [
      | then-s-h-eq92+else-p-e w ↦
          rw w.p-is (behind_backslash c.loop-k-test.true c.requires.1 w.if-s-h-eq92.true w.next-p.ensures, w.if-p-e.false)
      | else-s-h-eq92 w ↦ rw w.p-is (at_plain c.loop-k-test.true c.requires.1 w.if-s-h-eq92.false, c.loop-k-test.true)
    ]
    in
    omega (arith, m.1)

pub skip-requires : goal.skip-requires
skip-requires c =
    let pre' = c.requires in
    let m : Meant c.args.s.now c.args.e.0 c.loop-k.k.0 c.if-s-h-eq92.p.0 × (c.if-s-h-eq92.p.0 < c.args.e.0) =
    elim c.if-s-h-eq92.branch [
      | then-s-h-eq92+else-p-e w ↦
          rw w.p-is (behind_backslash c.loop-k-test.true c.requires.1 w.if-s-h-eq92.true w.next-p.ensures, w.if-p-e.false)
      | else-s-h-eq92 w ↦ rw w.p-is (at_plain c.loop-k-test.true c.requires.1 w.if-s-h-eq92.false, c.loop-k-test.true)
    ]
    in
    record { ordered = omega (arith, c.next-after.ensures, m.1); inside = pre'.1 }

pub returns-then-not-agrees : goal.returns-then-not-agrees
returns-then-not-agrees c =
    let m : Meant c.args.s.now c.args.e.0 c.loop-k.k.0 c.if-s-h-eq92.p.0 × (c.if-s-h-eq92.p.0 < c.args.e.0) =
    elim c.if-s-h-eq92.branch [
      | then-s-h-eq92+else-p-e w ↦
          rw w.p-is (behind_backslash c.loop-k-test.true c.requires.1 w.if-s-h-eq92.true w.next-p.ensures, w.if-p-e.false)
      | else-s-h-eq92 w ↦ rw w.p-is (at_plain c.loop-k-test.true c.requires.1 w.if-s-h-eq92.false, c.loop-k-test.true)
    ]
    in
    let loop' = c.loop-k in
    let pre' = c.requires in
    let differs = sym c.agrees.ensures ∙ not-true _ c.if-not-agrees.true-raw in
    match_differs loop'.invariant pre'.2 m.0 m.1 c.if-c-eq32.false differs
    (rw c.next-after.ensures at c.skip.ensures)

pub overflow_add-i : goal.overflow_add-i
overflow_add-i c = omega arith

pub loop-k-smaller : goal.loop-k-smaller
loop-k-smaller c =
    let m : Meant c.args.s.now c.args.e.0 c.loop-k.k.0 c.if-s-h-eq92.p.0 × (c.if-s-h-eq92.p.0 < c.args.e.0) =
    elim c.if-s-h-eq92.branch [
      | then-s-h-eq92+else-p-e w ↦
          rw w.p-is (behind_backslash c.loop-k-test.true c.requires.1 w.if-s-h-eq92.true w.next-p.ensures, w.if-p-e.false)
      | else-s-h-eq92 w ↦ rw w.p-is (at_plain c.loop-k-test.true c.requires.1 w.if-s-h-eq92.false, c.loop-k-test.true)
    ]
    in
    omega (arith, m.0.from)

pub loop-k-preserved : goal.loop-k-preserved
loop-k-preserved c =
    let m : Meant c.args.s.now c.args.e.0 c.loop-k.k.0 c.if-s-h-eq92.p.0 × (c.if-s-h-eq92.p.0 < c.args.e.0) =
    elim c.if-s-h-eq92.branch [
      | then-s-h-eq92+else-p-e w ↦
          rw w.p-is (behind_backslash c.loop-k-test.true c.requires.1 w.if-s-h-eq92.true w.next-p.ensures, w.if-p-e.false)
      | else-s-h-eq92 w ↦ rw w.p-is (at_plain c.loop-k-test.true c.requires.1 w.if-s-h-eq92.false, c.loop-k-test.true)
    ]
    in
    let loop' = c.loop-k in
    let pre' = c.requires in
    let agreed = sym c.agrees.ensures ∙ not-false _ c.if-not-agrees.false-raw in
    rw c.next-after.ensures (match_more loop'.invariant pre'.2 m.0 m.1 c.if-c-eq32.false agreed)

pub returns : goal.returns
returns c =
    let pre' = c.requires in
    match_end c.loop-k.invariant pre'.2 refl pre'.0 c.loop-k-test.false
