-- Four columns, one behind another.
use native.Mathlib.Omega.{arith}
use mathlib.Core.List.{[], ◌∷◌}
use lib.ListN.{length-append}
use Rattle.columns.specs.Line.{tab}
use Rattle.answers.specs.Walk.{end_of}
use Rattle.walk_lines.proofs.Columns.{ended_put}
use Rattle.walk_lines.proofs.put_ended.Goals as goal

pub put_number-requires : goal.put_number-requires
put_number-requires c =
    let named = c.put_column-named.ensures.place in
    omega (arith, c.requires, c.put_word-worded.ensures.result_bound, c.put_number-numbered.ensures.result_bound, named, length-append c.args.uri.now (tab ∷ []))

pub returns : goal.returns
returns c =
    let args = c.args in
    let named = c.put_column-named.ensures.place in record {
      put = ended_put (end_of args.end) args.pack.0 args.uri.now args.steps c.put_word-worded.ensures.put c.put_number-numbered.ensures.put
          c.put_column-named.ensures c.put_number.ensures.put;
      upper_bound = omega (
        arith,
        c.requires,
        c.put_word-worded.ensures.result_bound,
        c.put_number-numbered.ensures.result_bound,
        c.put_number.ensures.result_bound,
        named,
        length-append args.uri.now (tab ∷ []),
      );
    }
