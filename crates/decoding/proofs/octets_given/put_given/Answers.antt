-- What is put already and what is still given make the whole at each turn.
use native.Mathlib.Omega.{arith}
use mathlib.Core.Path.{refl, sym, ap, ◌∙◌}
use Rattle.kinds.proofs.Putting.{begin, onto, finish, octet, octet_room}
use Rattle.extended.proofs.Given.{none_some}
use Rattle.units.proofs.Giving.{attribute_here}
use Rattle.decoding.specs.Measured.{octets_given}
use Rattle.decoding.proofs.Measuring.{still_given, octet_first, given_none}
use Rattle.decoding.proofs.octets_given.put_given.Goals as goal

pub loop-k-init : goal.loop-k-init
loop-k-init c =
    (c.requires.1, begin _ _ _ c.requires.2)

pub bounds-out-i : goal.bounds-out-i
bounds-out-i c =
    let loop' = c.loop-k in
    let given =
    attribute_here c.args.how c.args.s.now c.loop-k-test.true c.requires.0
    (sym c.is_attribute.ensures ∙ c.if-is_attribute.true) refl
    in
    octet_room (onto (octet_first given loop'.invariant.0) loop'.invariant.1)

pub next-to-requires : goal.next-to-requires
next-to-requires c =
    let loop' = c.loop-k in
    let given =
    attribute_here c.args.how c.args.s.now c.loop-k-test.true c.requires.0
    (sym c.is_attribute.ensures ∙ c.if-is_attribute.true) refl
    in
    omega (
      arith,
      octet_room (onto (octet_first given loop'.invariant.0) loop'.invariant.1),
      loop'.invariant.1.lengths,
      c.well_formed.1.1.1.1.1.0,
    )

pub next-k-requires : goal.next-k-requires
next-k-requires c = omega arith

pub loop-k-smaller-then-is_attribute : goal.loop-k-smaller-then-is_attribute
loop-k-smaller-then-is_attribute c = omega arith

pub loop-k-preserved-then-is_attribute : goal.loop-k-preserved-then-is_attribute
loop-k-preserved-then-is_attribute c =
    let loop' = c.loop-k in
    let given =
    attribute_here c.args.how c.args.s.now c.loop-k-test.true c.requires.0
    (sym c.is_attribute.ensures ∙ c.if-is_attribute.true) refl
    in
    rw (c.next-k.ensures, c.next-to.ensures)
    (still_given given loop'.invariant.0, octet (onto (octet_first given loop'.invariant.0) loop'.invariant.1))

pub returns-in-Done : goal.returns-in-Done
returns-in-Done c =
    let loop' = c.loop-k in
    let none = rw c.in-Done.is at c.unit-given.ensures in
    finish (onto (ap octets_given none.none) loop'.invariant.1)

pub returns-in-Wrong : goal.returns-in-Wrong
returns-in-Wrong c =
    let loop' = c.loop-k in
    let wrong = rw c.in-Wrong.is at c.unit-given.ensures in
    absurd (none_some (sym wrong.wrong ∙ loop'.invariant.0))

pub bounds-out-i-in-Gives : goal.bounds-out-i-in-Gives
bounds-out-i-in-Gives c =
    let loop' = c.loop-k in
    let given = rw c.in-Gives.is at c.unit-given.ensures in
    octet_room (onto (octet_first given loop'.invariant.0) loop'.invariant.1)

pub next-to-requires-in-Gives : goal.next-to-requires-in-Gives
next-to-requires-in-Gives c =
    let loop' = c.loop-k in
    let given = rw c.in-Gives.is at c.unit-given.ensures in
    omega (arith, octet_room (onto (octet_first given loop'.invariant.0) loop'.invariant.1), loop'.invariant.1.lengths, c.well_formed.1.1.1.1.1.0)

pub loop-k-smaller : goal.loop-k-smaller
loop-k-smaller c =
    let given = rw c.in-Gives.is at c.unit-given.ensures in
    omega (arith, given.onward, given.inside)

pub loop-k-preserved : goal.loop-k-preserved
loop-k-preserved c =
    let loop' = c.loop-k in
    let given = rw c.in-Gives.is at c.unit-given.ensures in
    rw c.next-to-in-Gives.ensures (still_given given loop'.invariant.0, octet (onto (octet_first given loop'.invariant.0) loop'.invariant.1))

pub returns : goal.returns
returns c =
    let none = given_none c.args.how c.args.s.now c.loop-k-test.false in
    finish (onto (ap octets_given none) c.loop-k.invariant.1)
