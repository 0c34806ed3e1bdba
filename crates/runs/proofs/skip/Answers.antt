-- The loop skips octets of the one kind, and stops at the first of the other kind or at the end.
-- where the branch's ways meet, the octet meant stands at p
use Prim.Native.Nat.{◌-◌, ◌<◌}
use native.Mathlib.Omega.{arith}
use mathlib.Core.Path.{refl}
use mathlib.Core.Logic.{⊎_elim}
use borrow.Author.Tests.{not-true, not-false}
use Rattle.values.specs.Rest.{Meant}
use Rattle.values.proofs.Meant.{at_plain, behind_backslash}
use Rattle.runs.proofs.Skipping.{skip, skip_stop, skip_none, skipped}
use Rattle.runs.proofs.skip.Goals as goal
use Rattle.runs.proofs.skip.Goals.{then-s-here-eq92+else-p-e, else-s-here-eq92}

pub loop-k-init : goal.loop-k-init
loop-k-init c = record { forward = omega arith; inside = omega arith; left = refl }

pub bounds-s-here : goal.bounds-s-here
bounds-s-here c = omega arith

pub next-p-requires : goal.next-p-requires
next-p-requires c = omega arith

pub returns-then-p-e : goal.returns-then-p-e
returns-then-p-e c =
    let backslash = c.if-s-here-eq92.true in
    let lone = behind_backslash c.loop-k-test.true c.requires.inside backslash c.next-p.ensures in
    skip_none c.loop-k.invariant lone c.if-p-e.true

pub bounds-s-at : goal.bounds-s-at
bounds-s-at c =
    let m : Meant c.args.s.now c.args.e.0 c.loop-k.k.0 c.if-s-here-eq92.p.0 × (c.if-s-here-eq92.p.0 < c.args.e.0) =
    elim c.if-s-here-eq92.branch [
      | then-s-here-eq92+else-p-e w ↦
          rw w.p-is (behind_backslash c.loop-k-test.true c.requires.inside w.if-s-here-eq92.true w.next-p.ensures, w.if-p-e.false)
      | else-s-here-eq92 w ↦ rw w.p-is (at_plain c.loop-k-test.true c.requires.inside w.if-s-here-eq92.false, c.loop-k-test.true)
    ]
    in
    omega (arith, m.1)

pub returns-then-s-at : goal.returns-then-s-at
returns-then-s-at c =
    let m : Meant c.args.s.now c.args.e.0 c.loop-k.k.0 c.if-s-here-eq92.p.0 × (c.if-s-here-eq92.p.0 < c.args.e.0) =
    elim c.if-s-here-eq92.branch [
      | then-s-here-eq92+else-p-e w ↦
          rw w.p-is (behind_backslash c.loop-k-test.true c.requires.inside w.if-s-here-eq92.true w.next-p.ensures, w.if-p-e.false)
      | else-s-here-eq92 w ↦ rw w.p-is (at_plain c.loop-k-test.true c.requires.inside w.if-s-here-eq92.false, c.loop-k-test.true)
    ]
    in
    skip_stop c.loop-k.invariant m.0 m.1 (not-true _ c.if-s-at.true)

pub next-k-requires : goal.next-k-requires
next-k-requires c =
    let m : Meant c.args.s.now c.args.e.0 c.loop-k.k.0 c.if-s-here-eq92.p.0 × (c.if-s-here-eq92.p.0 < c.args.e.0) =
    elim c.if-s-here-eq92.branch [
      | then-s-here-eq92+else-p-e w ↦
          rw w.p-is (behind_backslash c.loop-k-test.true c.requires.inside w.if-s-here-eq92.true w.next-p.ensures, w.if-p-e.false)
      | else-s-here-eq92 w ↦ rw w.p-is (at_plain c.loop-k-test.true c.requires.inside w.if-s-here-eq92.false, c.loop-k-test.true)
    ]
    in
    omega (arith, m.1)

pub loop-k-smaller : goal.loop-k-smaller
loop-k-smaller c =
    let m : Meant c.args.s.now c.args.e.0 c.loop-k.k.0 c.if-s-here-eq92.p.0 × (c.if-s-here-eq92.p.0 < c.args.e.0) =
    elim c.if-s-here-eq92.branch [
      | then-s-here-eq92+else-p-e w ↦
          rw w.p-is (behind_backslash c.loop-k-test.true c.requires.inside w.if-s-here-eq92.true w.next-p.ensures, w.if-p-e.false)
      | else-s-here-eq92 w ↦ rw w.p-is (at_plain c.loop-k-test.true c.requires.inside w.if-s-here-eq92.false, c.loop-k-test.true)
    ]
    in
    omega (arith, m.0.from)

pub loop-k-preserved : goal.loop-k-preserved
loop-k-preserved c =
    let m : Meant c.args.s.now c.args.e.0 c.loop-k.k.0 c.if-s-here-eq92.p.0 × (c.if-s-here-eq92.p.0 < c.args.e.0) =
    elim c.if-s-here-eq92.branch [
      | then-s-here-eq92+else-p-e w ↦
          rw w.p-is (behind_backslash c.loop-k-test.true c.requires.inside w.if-s-here-eq92.true w.next-p.ensures, w.if-p-e.false)
      | else-s-here-eq92 w ↦ rw w.p-is (at_plain c.loop-k-test.true c.requires.inside w.if-s-here-eq92.false, c.loop-k-test.true)
    ]
    in
    rw c.next-k.ensures (skip c.loop-k.invariant m.0 m.1 (not-false _ c.if-s-at.false))

pub returns : goal.returns
returns c = skipped c.loop-k.invariant c.loop-k-test.false
