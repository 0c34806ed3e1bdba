-- A refused table is refused, and a link that is not there.
use Rattle.std.proofs.lemmas.Result.{err_from_is_err_and}
use Rattle.table_check.proofs.EntryOutcomes.{state_refused, in_older}
use Rattle.context.proofs.Anchored.{is_there, not_there}
use Rattle.context.proofs.context_of.Goals as goal

pub returns-in_err-state_of : goal.returns-in_err-state_of
returns-in_err-state_of c =
    let p = err_from_is_err_and c.from_residual.result c.from_residual.ensures.1 in
    rw (p.1, p.2) (record { outcome = λ base. state_refused c.in_err-state_of.ensures; within = tt })

pub returns-then-link-t : goal.returns-then-link-t
returns-then-link-t c = not_there c.in_ok-state_of.ensures c.if-link-t.true

pub anchor_of-requires : goal.anchor_of-requires
anchor_of-requires c =
    record { usable = in_older c.in_ok-state_of.ensures; link_lt_links = c.if-link-t.false }

pub returns : goal.returns
returns c = is_there c.in_ok-state_of.ensures c.anchor_of.ensures
