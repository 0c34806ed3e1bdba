-- A HTAB and the digits are put behind what the line holds; the digits are 20 at most.
use Prim.Native.Nat.{◌^◌, ◌<◌}
use native.Mathlib.Omega.{arith}
use borrow.Author.Rules.{rules}
use Rattle.columns.proofs.Columns.{grown_then}
use Rattle.columns.proofs.Fewest.{fewest_decimal, fewest_short}
use Rattle.columns.proofs.Line.with_number.Goals as goal

pub with_octets-requires-2 : goal.with_octets-requires-2
with_octets-requires-2 c =
    let d = c.decimal-k in
    let small : c.args.n < 2 ^ 64 = search rules in
    omega (arith, d.ensures.in_bounds.1, fewest_short small d.ensures.len)

pub returns : goal.returns
returns c =
    let d = c.decimal-k in
    let small : c.args.n < 2 ^ 64 = search rules in
    let put = grown_then c.with_octets.ensures c.with_octets-2.ensures in
    record {
      grown = rw (d.ensures.digits, fewest_decimal d.ensures.len) at put;
      len_bound = omega (arith, d.ensures.in_bounds.1, fewest_short small d.ensures.len);
    }
