-- A refused table is refused, and on a usable one the value is copied.
use Rattle.std.proofs.lemmas.Result.{err_from_is_err_and}
use Rattle.table_check.proofs.EntryOutcomes.{state_refused, state_usable, in_older}
use Rattle.copy.proofs.value.Goals as goal

pub returns-in_err-state_of : goal.returns-in_err-state_of
returns-in_err-state_of c =
    let p = err_from_is_err_and c.from_residual.result c.from_residual.ensures.1 in
    rw (p.1, p.2) (state_refused c.in_err-state_of.ensures)

pub copy_at-requires : goal.copy_at-requires
copy_at-requires c = in_older c.in_ok-state_of.ensures

pub returns : goal.returns
returns c = state_usable c.in_ok-state_of.ensures c.copy_at.ensures
