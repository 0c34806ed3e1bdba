-- What is found as `title` is copied.
use native.Mathlib.Omega.{arith}
use Rattle.std.proofs.Common.{◌≡◌}
use Rattle.std.specs.Prelude.{Some, None}
use Rattle.std.proofs.lemmas.Result.{err_from_is_err_and}
use Rattle.answers.specs.declared.Refusal.TheVariants.{NotFound}
use Rattle.titles.proofs.PlainTitle.{no_plain, title_inside, plain_copied}
use Rattle.titles.proofs.plain_title.Goals as goal

pub returns-in_err-title : goal.returns-in_err-title
returns-in_err-title c =
    let p = err_from_is_err_and c.from_residual.result c.from_residual.ensures.1 in
    let none : c.first_of.result ≡ None = grind arith in
    let why : c.in_err-title.field-0.0 ≡ NotFound = grind arith in
    rw (p.1, p.2, why) (no_plain c.requires c.first_of.result c.first_of.ensures c.args.out.now none)

pub copy_part-requires : goal.copy_part-requires
copy_part-requires c =
    let some : c.first_of.result ≡ Some c.in_ok-title.title = grind arith in
    title_inside c.requires c.first_of.result c.first_of.ensures some

pub returns : goal.returns
returns c =
    let some : c.first_of.result ≡ Some c.in_ok-title.title = grind arith in
    plain_copied c.requires c.first_of.result c.first_of.ensures some c.copy_part.ensures
