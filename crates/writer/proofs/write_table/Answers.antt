-- Relations are asked, then whether the form fits, and then it is put.
use borrow.Author.Tests.{not-true, not-false}
use Rattle.std.proofs.lemmas.Result.{err_from_is_err_and}
use Rattle.writer.proofs.Answers.{unrelated_answer, over_answer, written_answer}
use Rattle.writer.proofs.write_table.Goals as goal

pub returns-then-not-all_related : goal.returns-then-not-all_related
returns-then-not-all_related c =
    unrelated_answer c.args.out.now (c.all_related.ensures.unrelated (not-true _ c.if-not-all_related.true-raw))

pub returns-in_err-fit_of : goal.returns-in_err-fit_of
returns-in_err-fit_of c =
    let related = c.all_related.ensures.related (not-false _ c.if-not-all_related.false-raw) in
    let p = err_from_is_err_and c.from_residual.result c.from_residual.ensures.1 in
    rw (p.1, p.2) (over_answer c.args.out.now related c.in_err-fit_of.ensures)

pub put_links-end-requires : goal.put_links-end-requires
put_links-end-requires c =
    record { usable = c.requires; params_in_bounds = c.in_ok-fit_of.ensures.1 }

pub returns : goal.returns
returns c =
    let related = c.all_related.ensures.related (not-false _ c.if-not-all_related.false-raw) in
    written_answer c.args.out.now related c.in_ok-fit_of.ensures c.put_links-end.ensures
