-- The whole of the octets, and one behind them.
use native.Mathlib.Omega.{arith}
use mathlib.Core.Path.{ap}
use lib.ListN.{length}
use Rattle.kinds.proofs.UpTo.{all_of}
use Rattle.put_columns.proofs.Behind.{then}
use Rattle.put_columns.proofs.put_column.Goals as goal

pub put_part-behind-requires : goal.put_part-behind-requires
put_part-behind-requires c =
    let part = c.up_to.ensures in
    record {
      in_text = record { ordered = omega (arith, part); inside = omega (arith, part) };
      s_in_bounds = omega (arith, ap length (all_of c.args.s.now part), c.requires);
    }

pub put-requires : goal.put-requires
put-requires c =
    omega (arith, ap length (all_of c.args.s.now c.up_to.ensures), c.requires, c.put_part-behind.ensures.place)

pub returns : goal.returns
returns c =
    then (rw (all_of c.args.s.now c.up_to.ensures) at c.put_part-behind.ensures) c.put.ensures
