-- A state names an edition, or is refused before all else.
use native.Mathlib.Omega.{arith}
use Rattle.std.proofs.Common.{◌≡◌}
use Rattle.std.specs.Prelude.{Some, None}
use Rattle.std.proofs.lemmas.Result.{err_from_is_err_and}
use Rattle.answers.specs.declared.Refusal.TheVariants.{UnknownEdition}
use Rattle.octets.proofs.Further.{asked_known, asked_unknown}
use Rattle.outcomes.specs.InEdition.{unknown, known}
use Rattle.feeding.proofs.finish.Goals as goal

pub returns-in_err-edition : goal.returns-in_err-edition
returns-in_err-edition c =
    let p = err_from_is_err_and c.from_residual.result c.from_residual.ensures.1 in
    let none : c.edition_of.result ≡ None = grind arith in
    let why : c.in_err-edition.field-0.0 ≡ UnknownEdition = grind arith in
    rw (p.1, p.2, why) (unknown (asked_unknown c.edition_of.ensures none))

pub returns : goal.returns
returns c =
    let some : c.edition_of.result ≡ Some c.in_ok-edition.edition = grind arith in
    known (asked_known c.edition_of.ensures some) c.finish_in.ensures
