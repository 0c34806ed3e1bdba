-- Far is refused before all else.
use native.Mathlib.Omega.{arith}
use mathlib.Core.Path.{◌≡◌, refl}
use lib.IntN.{ℤ}
use Rattle.std.specs.Prelude.{Some, None}
use Rattle.std.proofs.lemmas.Result.{err_from_is_err_and}
use Rattle.answers.specs.declared.Refusal.TheVariants.{OutOfRange}
use Rattle.catalogues.specs.Outcome.{out_of_range}
use Rattle.paces.specs.Paces.{IsPaces}
use Rattle.walking.proofs.Asked.{passed, far_told, within_told}
use Rattle.walking.proofs.walk.Goals as goal

pub walk_over-requires : goal.walk_over-requires
walk_over-requires c =
    let p = passed (λ (z : ℤ). IsPaces z c.paces_of.result) c.args.steps c.ranges.steps c.paces_of.ensures in
    let some : c.paces_of.result ≡ Some c.in_ok-asked.asked = grind arith in
    let a = within_told p some in
    omega (arith, a.inside, a.count)

pub returns-in_err-asked : goal.returns-in_err-asked
returns-in_err-asked c =
    let q = passed (λ (z : ℤ). IsPaces z c.paces_of.result) c.args.steps c.ranges.steps c.paces_of.ensures in
    let p = err_from_is_err_and c.from_residual.result c.from_residual.ensures.1 in
    let none : c.paces_of.result ≡ None = grind arith in
    let why : c.in_err-asked.field-0.0 ≡ OutOfRange = grind arith in
    record {
      walk = rw (p.1, p.2, why) (out_of_range (far_told q none));
      left_free = record { links = refl; params = refl; octets = refl };
    }
