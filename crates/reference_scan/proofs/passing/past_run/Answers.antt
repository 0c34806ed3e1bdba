-- Each run that is passed keeps the state. Assumes nothing.
use borrow.Author.Rules.{rules}
use Rattle.reference_scan.proofs.Runs.{passed_within}
use Rattle.reference_scan.proofs.Between.{comes_none, comes_kept}
use Rattle.reference_scan.proofs.Commons.{either_keeps, authority_keeps, host_keeps, number_keeps, port_keeps, scheme_keeps, segment_keeps}
use Rattle.reference_scan.proofs.passing.past_run.Goals as goal

pub past_units-requires : goal.past_units-requires
past_units-requires c = (c.requires, c.if-q.true)

pub returns-then-q : goal.returns-then-q
returns-then-q c = c.past_units.ensures

pub returns-then-q-2 : goal.returns-then-q-2
returns-then-q-2 c =
    comes_kept
    (passed_within (either_keeps 6 10 authority_keeps host_keeps c.args.q c.if-q-2.true)
    c.past_each.ensures)

pub returns-then-q-3 : goal.returns-then-q-3
returns-then-q-3 c =
    comes_kept
    (passed_within (either_keeps 7 11 number_keeps port_keeps c.args.q c.if-q-3.true)
    c.past_each-then-q-3.ensures)

pub returns-then-q-eq1 : goal.returns-then-q-eq1
returns-then-q-eq1 c = rw c.if-q-eq1.true (comes_kept (passed_within scheme_keeps c.past_each-then-q-eq1.ensures))

pub returns-then-q-eq2 : goal.returns-then-q-eq2
returns-then-q-eq2 c = rw c.if-q-eq2.true (comes_kept (passed_within segment_keeps c.past_each-then-q-eq2.ensures))

pub returns : goal.returns
returns c = comes_none _ c.requires
