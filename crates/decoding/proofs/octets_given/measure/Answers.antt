-- What is counted and what is still given tell the same at each turn.
use native.Mathlib.Omega.{arith}
use mathlib.Core.Path.{refl, sym, ap, ◌∙◌}
use Rattle.units.proofs.Giving.{attribute_here}
use Rattle.decoding.specs.Measured.{measured}
use Rattle.decoding.proofs.Measuring.{count_on, given_none}
use Rattle.decoding.proofs.octets_given.measure.Goals as goal

pub loop-k-init : goal.loop-k-init
loop-k-init c = (omega arith, refl)

pub overflow_add-n : goal.overflow_add-n
overflow_add-n c = omega arith

pub next-k-requires : goal.next-k-requires
next-k-requires c = omega arith

pub loop-k-smaller-then-is_attribute : goal.loop-k-smaller-then-is_attribute
loop-k-smaller-then-is_attribute c = omega arith

pub loop-k-preserved-then-is_attribute : goal.loop-k-preserved-then-is_attribute
loop-k-preserved-then-is_attribute c =
    let loop' = c.loop-k in
    let attribute = sym c.is_attribute.ensures ∙ c.if-is_attribute.true in
    let given =
    attribute_here c.args.how c.args.s.now c.loop-k-test.true c.requires attribute
    c.next-k.ensures
    in
    (omega (arith, given.onward, loop'.invariant.0), rw c.behind-awaited.ensures (count_on given loop'.n loop'.awaited ∙ loop'.invariant.1))

pub returns-in-Done : goal.returns-in-Done
returns-in-Done c =
    let loop' = c.loop-k in
    let nothing' = c.nothing-awaited in
    let none = rw c.in-Done.is at c.unit-given.ensures in
    c.finished.ensures ∙ sym (ap (measured loop'.n loop'.awaited) none.none) ∙ rw nothing'.ensures at loop'.invariant.1

pub returns-in-Wrong : goal.returns-in-Wrong
returns-in-Wrong c =
    let loop' = c.loop-k in
    let nothing' = c.nothing-awaited in
    let wrong = rw c.in-Wrong.is at c.unit-given.ensures in
    sym (ap (measured loop'.n loop'.awaited) wrong.wrong) ∙ rw nothing'.ensures at loop'.invariant.1

pub overflow_add-n-in-Gives : goal.overflow_add-n-in-Gives
overflow_add-n-in-Gives c = omega arith

pub loop-k-smaller : goal.loop-k-smaller
loop-k-smaller c =
    let given = rw c.in-Gives.is at c.unit-given.ensures in
    omega (arith, given.onward, given.inside)

pub loop-k-preserved : goal.loop-k-preserved
loop-k-preserved c =
    let loop' = c.loop-k in
    let given = rw c.in-Gives.is at c.unit-given.ensures in
    (omega (arith, given.onward, loop'.invariant.0), rw c.behind-awaited-in-Gives.ensures (count_on given loop'.n loop'.awaited ∙ loop'.invariant.1))

pub returns : goal.returns
returns c =
    let loop' = c.loop-k in
    let nothing' = c.nothing-awaited in
    let none = given_none c.args.how c.args.s.now c.loop-k-test.false in
    c.finished-2.ensures ∙ sym (ap (measured loop'.n loop'.awaited) none) ∙ rw nothing'.ensures at loop'.invariant.1
