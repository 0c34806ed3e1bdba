-- The digits are the number's decimal ones, 20 at most.
use Prim.Native.Nat.{◌^◌, ◌<◌}
use native.Mathlib.Omega.{arith}
use lib.ListN.{length-append}
use borrow.Author.Rules.{rules}
use Rattle.columns.proofs.Fewest.{fewest_decimal, fewest_short}
use Rattle.put_columns.proofs.put_number.Goals as goal

pub put_column-requires : goal.put_column-requires
put_column-requires c =
    let d = c.decimal-k.ensures in
    let small : c.args.n < 2 ^ 64 = search rules in
    omega (arith, c.requires, d.in_bounds.1, fewest_short small d.len)

pub returns : goal.returns
returns c =
    let d = c.decimal-k.ensures in
    let small : c.args.n < 2 ^ 64 = search rules in
    let put = c.put_column.ensures in record {
      put = rw (d.digits, fewest_decimal d.len) at put;
      result_bound = omega (arith, put.place, simp length-append at put.place, d.in_bounds.1, fewest_short small d.len);
    }
