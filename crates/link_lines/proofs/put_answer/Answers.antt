-- The line is put by the answer: both buffers' octets, or the refusal's number.
use native.Mathlib.Omega.{arith}
use mathlib.Core.Path.{◌≡◌}
use lib.ListN.{length}
use borrow.Author.Rules.{rules}
use Rattle.link_lines.proofs.AnswerLine.{first_cut, second_cut, line_room}
use Rattle.link_lines.proofs.put_answer.Goals as goal

pub slice_bounds-put_line-end : goal.slice_bounds-put_line-end
slice_bounds-put_line-end c =
    first_cut c.args.target.now c.args.context.now c.requires.holds c.in-Ok.is

pub slice_bounds-put_line-end-in-Ok : goal.slice_bounds-put_line-end-in-Ok
slice_bounds-put_line-end-in-Ok c =
    second_cut c.args.target.now c.args.context.now c.requires.holds c.in-Ok.is

pub put_line-requires : goal.put_line-requires
put_line-requires c =
    line_room c.args.target.now c.args.context.now c.requires.holds c.in-Ok.is c.requires.context_in_bounds

pub copy_line-requires : goal.copy_line-requires
copy_line-requires c =
    let l = c.refused_line in
    let most : length l.result.octets ≡ 160 = search rules in
    (l.ensures.fits, omega (arith, most, l.ensures.fits.0, c.requires.context_in_bounds))

pub returns-in-Ok : goal.returns-in-Ok
returns-in-Ok c = rw c.in-Ok.is c.put_line.ensures

pub returns-in-Err : goal.returns-in-Err
returns-in-Err c =
    record {
      put = rw c.in-Err.is (rw c.refused_line.ensures.is at c.copy_line.ensures.put);
      upper_bound = c.copy_line.ensures.upper_bound;
    }
