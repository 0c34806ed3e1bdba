-- A number that is no edition's is refused, and any other tells the edition.
use native.Mathlib.Omega.{arith}
use Rattle.std.proofs.Common.{◌≡◌}
use Rattle.std.specs.Prelude.{Some, None}
use Rattle.std.proofs.lemmas.Result.{err_from_is_err_and}
use Rattle.answers.specs.declared.Refusal.TheVariants.{UnknownEdition}
use Rattle.outcomes.specs.InEdition.{unknown}
use Rattle.table_check.proofs.StatesAsked.{state_known}
use Rattle.table_check.proofs.state_of.Goals as goal

pub returns-in_err-known : goal.returns-in_err-known
returns-in_err-known c =
    let p = err_from_is_err_and c.from_residual.result c.from_residual.ensures.1 in
    let none : c.edition_of.result ≡ None = grind arith in
    let why : c.in_err-known.field-0.0 ≡ UnknownEdition = grind arith in
    rw (p.1, p.2, why) (unknown (rw none at c.edition_of.ensures))

pub returns : goal.returns
returns c =
    let some : c.edition_of.result ≡ Some c.in_ok-known.known = grind arith in
    let numbered = rw some at c.edition_of.ensures in
    state_known _ _ c.state_in.result numbered c.state_in.ensures
