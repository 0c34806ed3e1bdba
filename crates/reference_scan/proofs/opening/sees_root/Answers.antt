-- A slash and an octet of a path that is none, if there are two octets. Assumes nothing.
use Prim.Native.Nat.{◌+◌, ◌≤◌}
use native.Mathlib.Omega.{arith}
use mathlib.Core.Bool.{false≢true}
use lib.ListN.{length}
use Rattle.reference_scan.proofs.Openings.{root}
use Rattle.reference_scan.proofs.opening.sees_root.Goals as goal

pub returns-then-s-i-lt2 : goal.returns-then-s-i-lt2
returns-then-s-i-lt2 c = λ e. absurd (false≢true e)

pub returns : goal.returns
returns c =
    let a = c.before.before in
    let h : a.args.i + 2 ≤ length a.args.s.now = omega (arith, c.if-s-i-lt2.false, a.requires) in
    λ e. root a.args.s.now a.args.i h (rw c.is_path.ensures at e)
