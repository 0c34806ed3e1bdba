-- What is left of the meaning is put octet by octet.
-- where the branch's ways meet, the octet meant stands at p
use Prim.Native.Nat.{◌<◌}
use native.Mathlib.Omega.{arith}
use mathlib.Core.List.{[]}
use lib.ListN.{get_or}
use Rattle.tables.specs.Written.{escape_octet}
use Rattle.values.specs.Rest.{Meant}
use Rattle.values.proofs.Meant.{at_plain, behind_backslash}
use Rattle.putting.proofs.PutUpTo.{start as begun, slots, steps, ended}
use Rattle.putting.proofs.Escapes.{escaped_part, escaped_next, escaped_none, escaped_end}
use Rattle.putting.proofs.escaped.put_escaped.Goals as goal
use Rattle.putting.proofs.escaped.put_escaped.Goals.{then-s-here-eq92+else-p-e, else-s-here-eq92}

pub loop-k-init : goal.loop-k-init
loop-k-init c =
    begun (escaped_part c.args.s.now c.args.part.to.0) c.args.part.to.0 c.args.out.now
    c.args.at.0 c.args.part.from.0 c.requires.in_text.ordered c.requires.from_in_bounds

pub bounds-s-here : goal.bounds-s-here
bounds-s-here c =
    omega (arith, c.loop-k-test.true, c.requires.in_text.inside)

pub next-p-requires : goal.next-p-requires
next-p-requires c =
    omega (arith, c.loop-k-test.true, c.requires.in_text.inside)

pub shape_of-out-then-p-e : goal.shape_of-out-then-p-e
shape_of-out-then-p-e c =
    let loop' = c.loop-k in
    loop'.invariant.put.lengths

pub returns-then-p-e : goal.returns-then-p-e
returns-then-p-e c =
    let backslash = c.if-s-here-eq92.true in
    let lone = behind_backslash c.loop-k-test.true c.requires.in_text.inside backslash c.next-p.ensures in
    ended c.loop-k.invariant (escaped_none lone c.if-p-e.true)

pub bounds-s-i : goal.bounds-s-i
bounds-s-i c =
    let m : Meant c.args.s.now c.args.part.to.0 c.loop-k.k.0 c.if-s-here-eq92.p.0 × (c.if-s-here-eq92.p.0 < c.args.part.to.0) =
    elim c.if-s-here-eq92.branch [
      | then-s-here-eq92+else-p-e w ↦
          rw w.p-is (behind_backslash c.loop-k-test.true c.requires.in_text.inside w.if-s-here-eq92.true w.next-p.ensures, w.if-p-e.false)
      | else-s-here-eq92 w ↦ rw w.p-is (at_plain c.loop-k-test.true c.requires.in_text.inside w.if-s-here-eq92.false, c.loop-k-test.true)
    ]
    in
    omega (arith, m.1, c.requires.in_text.inside)

pub put_quoted-to-requires : goal.put_quoted-to-requires
put_quoted-to-requires c =
    let m : Meant c.args.s.now c.args.part.to.0 c.loop-k.k.0 c.if-s-here-eq92.p.0 × (c.if-s-here-eq92.p.0 < c.args.part.to.0) =
    elim c.if-s-here-eq92.branch [
      | then-s-here-eq92+else-p-e w ↦
          rw w.p-is (behind_backslash c.loop-k-test.true c.requires.in_text.inside w.if-s-here-eq92.true w.next-p.ensures, w.if-p-e.false)
      | else-s-here-eq92 w ↦ rw w.p-is (at_plain c.loop-k-test.true c.requires.in_text.inside w.if-s-here-eq92.false, c.loop-k-test.true)
    ]
    in
    let octets = escape_octet (get_or c.args.s.now c.if-s-here-eq92.p.0 0) [] in
    slots c.loop-k.invariant octets c.if-s-here-eq92.p.0 (escaped_next m.0 m.1)

pub next-k-requires : goal.next-k-requires
next-k-requires c =
    let m : Meant c.args.s.now c.args.part.to.0 c.loop-k.k.0 c.if-s-here-eq92.p.0 × (c.if-s-here-eq92.p.0 < c.args.part.to.0) =
    elim c.if-s-here-eq92.branch [
      | then-s-here-eq92+else-p-e w ↦
          rw w.p-is (behind_backslash c.loop-k-test.true c.requires.in_text.inside w.if-s-here-eq92.true w.next-p.ensures, w.if-p-e.false)
      | else-s-here-eq92 w ↦ rw w.p-is (at_plain c.loop-k-test.true c.requires.in_text.inside w.if-s-here-eq92.false, c.loop-k-test.true)
    ]
    in
    omega (arith, m.1, c.requires.in_text.inside)

pub loop-k-smaller : goal.loop-k-smaller
loop-k-smaller c =
    let m : Meant c.args.s.now c.args.part.to.0 c.loop-k.k.0 c.if-s-here-eq92.p.0 × (c.if-s-here-eq92.p.0 < c.args.part.to.0) =
    elim c.if-s-here-eq92.branch [
      | then-s-here-eq92+else-p-e w ↦
          rw w.p-is (behind_backslash c.loop-k-test.true c.requires.in_text.inside w.if-s-here-eq92.true w.next-p.ensures, w.if-p-e.false)
      | else-s-here-eq92 w ↦ rw w.p-is (at_plain c.loop-k-test.true c.requires.in_text.inside w.if-s-here-eq92.false, c.loop-k-test.true)
    ]
    in
    omega (arith, m.0.from, c.loop-k-test.true, c.next-k.ensures)

pub loop-k-preserved : goal.loop-k-preserved
loop-k-preserved c =
    let m : Meant c.args.s.now c.args.part.to.0 c.loop-k.k.0 c.if-s-here-eq92.p.0 × (c.if-s-here-eq92.p.0 < c.args.part.to.0) =
    elim c.if-s-here-eq92.branch [
      | then-s-here-eq92+else-p-e w ↦
          rw w.p-is (behind_backslash c.loop-k-test.true c.requires.in_text.inside w.if-s-here-eq92.true w.next-p.ensures, w.if-p-e.false)
      | else-s-here-eq92 w ↦ rw w.p-is (at_plain c.loop-k-test.true c.requires.in_text.inside w.if-s-here-eq92.false, c.loop-k-test.true)
    ]
    in
    let octets = escape_octet (get_or c.args.s.now c.if-s-here-eq92.p.0 0) [] in
    let loop' = c.loop-k in
    let put-quoted' = c.put_quoted-to in
    rw c.next-k.ensures
    (steps loop'.invariant octets c.if-s-here-eq92.p.0 (escaped_next m.0 m.1) m.1 put-quoted'.ensures)

pub shape_of-out : goal.shape_of-out
shape_of-out c = c.loop-k.invariant.put.lengths

pub returns : goal.returns
returns c =
    ended c.loop-k.invariant (escaped_end c.args.s.now c.loop-k-test.false)
