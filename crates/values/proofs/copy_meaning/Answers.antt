-- What is put already and what is left to put make the whole meaning at each turn.
-- where the branch's ways meet, the octet meant stands at p
use Prim.Native.Nat.{◌-◌, ◌<◌}
use native.Mathlib.Omega.{arith}
use mathlib.Core.Logic.{⊎_elim}
use Rattle.kinds.proofs.Putting.{begin, onto, finish, octet, octet_room}
use Rattle.values.specs.Rest.{Meant}
use Rattle.values.proofs.Meant.{at_plain, behind_backslash, none_left, octet_step}
use Rattle.values.proofs.copy_meaning.Goals as goal
use Rattle.values.proofs.copy_meaning.Goals.{then-s-here-eq92+else-p-e, else-s-here-eq92}

pub loop-k-init : goal.loop-k-init
loop-k-init c = (c.requires.0.ordered, begin _ _ _ c.requires.1)

pub bounds-s-here : goal.bounds-s-here
bounds-s-here c = omega arith

pub next-p-requires : goal.next-p-requires
next-p-requires c = omega arith

pub shape_of-out-then-p-e : goal.shape_of-out-then-p-e
shape_of-out-then-p-e c = omega arith

pub returns-then-p-e : goal.returns-then-p-e
returns-then-p-e c =
    let backslash = c.if-s-here-eq92.true in
    let lone = behind_backslash c.loop-k-test.true c.requires.0.inside backslash c.next-p.ensures in
    finish (onto (lone.none c.if-p-e.true) c.loop-k.invariant.1)

pub bounds-s-j : goal.bounds-s-j
bounds-s-j c =
    let m : Meant c.args.s.now c.args.part.to.0 c.loop-k.k.0 c.if-s-here-eq92.p.0 × (c.if-s-here-eq92.p.0 < c.args.part.to.0) =
    elim c.if-s-here-eq92.branch [
      | then-s-here-eq92+else-p-e w ↦
          rw w.p-is (behind_backslash c.loop-k-test.true c.requires.0.inside w.if-s-here-eq92.true w.next-p.ensures, w.if-p-e.false)
      | else-s-here-eq92 w ↦ rw w.p-is (at_plain c.loop-k-test.true c.requires.0.inside w.if-s-here-eq92.false, c.loop-k-test.true)
    ]
    in
    omega (arith, m.1)

pub bounds-out-i : goal.bounds-out-i
bounds-out-i c =
    let m : Meant c.args.s.now c.args.part.to.0 c.loop-k.k.0 c.if-s-here-eq92.p.0 × (c.if-s-here-eq92.p.0 < c.args.part.to.0) =
    elim c.if-s-here-eq92.branch [
      | then-s-here-eq92+else-p-e w ↦
          rw w.p-is (behind_backslash c.loop-k-test.true c.requires.0.inside w.if-s-here-eq92.true w.next-p.ensures, w.if-p-e.false)
      | else-s-here-eq92 w ↦ rw w.p-is (at_plain c.loop-k-test.true c.requires.0.inside w.if-s-here-eq92.false, c.loop-k-test.true)
    ]
    in
    octet_room (onto (octet_step m.0 m.1) c.loop-k.invariant.1)

pub next-k-requires : goal.next-k-requires
next-k-requires c =
    let m : Meant c.args.s.now c.args.part.to.0 c.loop-k.k.0 c.if-s-here-eq92.p.0 × (c.if-s-here-eq92.p.0 < c.args.part.to.0) =
    elim c.if-s-here-eq92.branch [
      | then-s-here-eq92+else-p-e w ↦
          rw w.p-is (behind_backslash c.loop-k-test.true c.requires.0.inside w.if-s-here-eq92.true w.next-p.ensures, w.if-p-e.false)
      | else-s-here-eq92 w ↦ rw w.p-is (at_plain c.loop-k-test.true c.requires.0.inside w.if-s-here-eq92.false, c.loop-k-test.true)
    ]
    in
    omega (arith, m.1)

pub loop-k-smaller : goal.loop-k-smaller
loop-k-smaller c =
    let m : Meant c.args.s.now c.args.part.to.0 c.loop-k.k.0 c.if-s-here-eq92.p.0 × (c.if-s-here-eq92.p.0 < c.args.part.to.0) =
    elim c.if-s-here-eq92.branch [
      | then-s-here-eq92+else-p-e w ↦
          rw w.p-is (behind_backslash c.loop-k-test.true c.requires.0.inside w.if-s-here-eq92.true w.next-p.ensures, w.if-p-e.false)
      | else-s-here-eq92 w ↦ rw w.p-is (at_plain c.loop-k-test.true c.requires.0.inside w.if-s-here-eq92.false, c.loop-k-test.true)
    ]
    in
    omega (arith, m.0.from)

pub loop-k-preserved : goal.loop-k-preserved
loop-k-preserved c =
    let m : Meant c.args.s.now c.args.part.to.0 c.loop-k.k.0 c.if-s-here-eq92.p.0 × (c.if-s-here-eq92.p.0 < c.args.part.to.0) =
    elim c.if-s-here-eq92.branch [
      | then-s-here-eq92+else-p-e w ↦
          rw w.p-is (behind_backslash c.loop-k-test.true c.requires.0.inside w.if-s-here-eq92.true w.next-p.ensures, w.if-p-e.false)
      | else-s-here-eq92 w ↦ rw w.p-is (at_plain c.loop-k-test.true c.requires.0.inside w.if-s-here-eq92.false, c.loop-k-test.true)
    ]
    in
    rw (c.next-k.ensures, c.next-to.ensures) (omega (arith, m.1), octet (onto (octet_step m.0 m.1) c.loop-k.invariant.1))

pub shape_of-out : goal.shape_of-out
shape_of-out c = omega arith

pub returns : goal.returns
returns c =
    finish (onto (none_left c.args.s.now c.loop-k-test.false) c.loop-k.invariant.1)
