-- A `%` and two hex digits, if there are three octets. Assumes nothing.
use Prim.Native.Nat.{◌+◌, ◌≤◌}
use native.Mathlib.Omega.{arith}
use mathlib.Core.Bool.{false≢true}
use lib.ListN.{length}
use Rattle.reference_scan.proofs.Triples.{triple}
use Rattle.reference_scan.proofs.passing.sees_triple.Goals as goal

pub returns-then-s-i-lt3 : goal.returns-then-s-i-lt3
returns-then-s-i-lt3 c = λ e. absurd (false≢true e)

pub returns : goal.returns
returns c =
    let a = c.before.before in
    let h : a.args.i + 3 ≤ length a.args.s.now = omega (arith, c.if-s-i-lt3.false, a.requires.0) in
    λ e. (h, triple a.args.s.now a.args.i h (rw (c.is_in.ensures, c.is_in-2.ensures) at e) a.args.q a.requires.1)
