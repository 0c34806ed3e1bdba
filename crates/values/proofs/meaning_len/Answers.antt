-- The count and what is left make the whole length at each turn.
-- where the branch's ways meet, the octet meant stands at k
use Prim.Native.Nat.{◌-◌, ◌<◌}
use native.Mathlib.Omega.{arith}
use mathlib.Core.Path.{ap}
use mathlib.Core.Logic.{⊎_elim}
use lib.ListN.{length}
use Rattle.values.specs.Rest.{Meant}
use Rattle.values.proofs.Meant.{at_plain, behind_backslash, none_left, length_step, length_none}
use Rattle.values.proofs.meaning_len.Goals as goal
use Rattle.values.proofs.meaning_len.Goals.{then-s-i-eq92+else-k-e, else-s-i-eq92}

pub loop-k-init : goal.loop-k-init
loop-k-init c = omega arith

pub bounds-s-i : goal.bounds-s-i
bounds-s-i c = omega arith

pub next-k-requires : goal.next-k-requires
next-k-requires c = omega arith

pub returns-then-k-e : goal.returns-then-k-e
returns-then-k-e c =
    let backslash = c.if-s-i-eq92.true in
    let behind = c.next-k.ensures in
    let lone = behind_backslash {s = c.args.s.now} c.loop-k-test.true c.requires.inside backslash behind in
    omega (arith, length_none lone c.if-k-e.true)

pub overflow_add-n : goal.overflow_add-n
overflow_add-n c = omega arith

pub next-k-requires-in-loop-k : goal.next-k-requires-in-loop-k
next-k-requires-in-loop-k c =
    let m : Meant c.args.s.now c.args.part.to.0 c.loop-k.k.0 c.if-s-i-eq92.k.0 × (c.if-s-i-eq92.k.0 < c.args.part.to.0) =
    elim c.if-s-i-eq92.branch [
      | then-s-i-eq92+else-k-e w ↦
          rw w.k-is (behind_backslash c.loop-k-test.true c.requires.inside w.if-s-i-eq92.true w.next-k.ensures, w.if-k-e.false)
      | else-s-i-eq92 w ↦ rw w.k-is (at_plain c.loop-k-test.true c.requires.inside w.if-s-i-eq92.false, c.loop-k-test.true)
    ]
    in
    omega (arith, m.1)

pub loop-k-smaller : goal.loop-k-smaller
loop-k-smaller c =
    let m : Meant c.args.s.now c.args.part.to.0 c.loop-k.k.0 c.if-s-i-eq92.k.0 × (c.if-s-i-eq92.k.0 < c.args.part.to.0) =
    elim c.if-s-i-eq92.branch [
      | then-s-i-eq92+else-k-e w ↦
          rw w.k-is (behind_backslash c.loop-k-test.true c.requires.inside w.if-s-i-eq92.true w.next-k.ensures, w.if-k-e.false)
      | else-s-i-eq92 w ↦ rw w.k-is (at_plain c.loop-k-test.true c.requires.inside w.if-s-i-eq92.false, c.loop-k-test.true)
    ]
    in
    omega (arith, m.0.from)

pub loop-k-preserved : goal.loop-k-preserved
loop-k-preserved c =
    let m : Meant c.args.s.now c.args.part.to.0 c.loop-k.k.0 c.if-s-i-eq92.k.0 × (c.if-s-i-eq92.k.0 < c.args.part.to.0) =
    elim c.if-s-i-eq92.branch [
      | then-s-i-eq92+else-k-e w ↦
          rw w.k-is (behind_backslash c.loop-k-test.true c.requires.inside w.if-s-i-eq92.true w.next-k.ensures, w.if-k-e.false)
      | else-s-i-eq92 w ↦ rw w.k-is (at_plain c.loop-k-test.true c.requires.inside w.if-s-i-eq92.false, c.loop-k-test.true)
    ]
    in
    rw c.next-k-in-loop-k.ensures (omega (arith, m.0.from, length_step m.0 m.1))

pub returns : goal.returns
returns c = omega (arith, ap length (none_left c.args.s.now c.loop-k-test.false))
