-- The loop has put the first number and the numbers before the index.
use native.Mathlib.Omega.{arith}
use mathlib.Core.Path.{◌≡◌}
use borrow.Author.Rules.{rules}
use lib.ListN.{length, length-take}
use Rattle.columns.proofs.Columns.{column_first, column_more, line_whole}
use Rattle.columns.proofs.line_of.Goals as goal

pub with_number-l-requires : goal.with_number-l-requires
with_number-l-requires c = omega (arith, c.with_octets.ensures.end)

pub loop-n-init : goal.loop-n-init
loop-n-init c =
    let args = c.args in
    let labelled = c.with_octets.ensures in
    (omega (arith, labelled.end), column_first args.label.now args.first labelled.is c.with_number-l.ensures.grown)

pub loop-n-preserved : goal.loop-n-preserved
loop-n-preserved c =
    let l = c.loop-n in
    let args = c.args in (
      omega arith,
      column_more args.label.now args.first args.rest.now l.n-index l.invariant.1 (omega arith) c.with_number-l-in-loop-n.ensures.grown,
    )

pub returns : goal.returns
returns c =
    let l = c.loop-n in
    let args = c.args in
    let ended = c.with_octets-2.ensures in
    let room : length c.with_octets-2.result.octets ≡ 160 = search rules in
    record {
      is = line_whole args.label.now args.first args.rest.now l.n-index l.invariant.1 (omega arith) ended;
      fits = (omega (arith, ended.end), simp length-take (omega (arith, ended.end)));
    }
