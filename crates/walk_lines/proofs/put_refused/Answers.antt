-- The word, and the number behind it.
use native.Mathlib.Omega.{arith}
use Rattle.octets.specs.Text.{octets}
use Rattle.answers.specs.Refusal.{refusal_number}
use Rattle.walk_lines.proofs.Columns.{first, refused_put}
use Rattle.walk_lines.proofs.put_refused.Goals as goal

pub returns : goal.returns
returns c =
    let word = first c.start.ensures (omega arith) c.put_column-worded.ensures in
    let number = rw c.into.ensures at c.put_number.ensures.put in
    record {
      put = refused_put (octets "refused") (refusal_number c.args.why) word.0 number;
      upper_bound = omega (arith, word.1, c.put_number.ensures.result_bound, c.requires);
    }
