-- The line's octets are the whole of the part that is put.
use native.Mathlib.Omega.{arith}
use mathlib.Core.Path.{ap, ◌∙◌}
use lib.ListN.{length}
use Rattle.columns.specs.LineHolds.{octets_of}
use Rattle.kinds.proofs.UpTo.{all_of}
use Rattle.link_lines.proofs.AnswerLine.{put_inside}
use Rattle.link_lines.proofs.copy_line.Goals as goal

pub put_part-requires : goal.put_part-requires
put_part-requires c =
    let cut = c.requires.0.1 in
    let e = c.up_to.ensures in
    let whole = all_of (octets_of c.args.from) {p = c.up_to.result} (e.0, e.1 ∙ cut) in
    record {
      in_text = record { ordered = omega (arith, e.0, e.1); inside = omega (arith, e.1, cut) };
      s_in_bounds = omega (arith, c.start.ensures, cut, ap length whole, c.requires.1);
    }

pub returns : goal.returns
returns c =
    let cut = c.requires.0.1 in
    let e = c.up_to.ensures in
    let whole = all_of (octets_of c.args.from) {p = c.up_to.result} (e.0, e.1 ∙ cut) in
    let p = rw (c.start.ensures, whole) at c.put_part.ensures in
    record {
      put = p;
      upper_bound = put_inside p (omega (arith, cut, c.requires.1));
    }
