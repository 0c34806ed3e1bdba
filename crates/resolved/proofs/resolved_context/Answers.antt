-- A base over the limit is refused behind the edition alone, and else the table is asked.
use Rattle.std.proofs.lemmas.Result.{err_from_is_err_and}
use Rattle.table_check.proofs.EntryOutcomes.{state_refused, state_usable, in_older}
use Rattle.resolved.proofs.LinkContext.{over_limit, within_limit}
use Rattle.resolved.proofs.resolved_context.Goals as goal

pub returns-then-base-gt-LIMIT : goal.returns-then-base-gt-LIMIT
returns-then-base-gt-LIMIT c = over_limit c.if-base-gt-LIMIT.true c.refused_long.ensures

pub returns-in_err-state_of : goal.returns-in_err-state_of
returns-in_err-state_of c =
    let p = err_from_is_err_and c.from_residual.result c.from_residual.ensures.1 in
    rw (p.1, p.2) (within_limit c.if-base-gt-LIMIT.false (state_refused c.in_err-state_of.ensures))

pub context_at-requires : goal.context_at-requires
context_at-requires c =
    record { usable = in_older c.in_ok-state_of.ensures; base_len_bound = c.if-base-gt-LIMIT.false }

pub returns : goal.returns
returns c =
    within_limit c.if-base-gt-LIMIT.false (state_usable c.in_ok-state_of.ensures c.context_at.ensures)
