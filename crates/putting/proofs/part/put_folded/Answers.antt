-- A part folded.
use native.Mathlib.Omega.{arith}
use mathlib.Core.Bool.{true}
use lib.Seq.{slice}
use Rattle.putting.proofs.Parts.{spelt_length}
use Rattle.putting.proofs.part.put_folded.Goals as goal

pub put_spelt-requires : goal.put_spelt-requires
put_spelt-requires c =
    let part = slice c.args.part.from.0 c.args.part.to.0 c.args.s.now in
    record {
      in_text = c.requires.in_text;
      s_in_bounds = omega (arith, c.requires.s_in_bounds, spelt_length true part);
    }
