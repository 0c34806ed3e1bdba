-- The loop stands outside of targets, behind all that it passed.
use Prim.Native.Nat.{◌-◌}
use native.Mathlib.Omega.{arith}
use borrow.Author.Rules.{rules}
use Rattle.part_scan.proofs.Stepping.{none_out, so_ends, out_further}
use Rattle.part_scan.proofs.outside.outside.Goals as goal

pub loop-last-init : goal.loop-last-init
loop-last-init c = none_out _ _ _ _ c.requires.0 c.requires.1

pub pass-requires : goal.pass-requires
pass-requires c = (c.loop-last.invariant.inside, c.loop-last.invariant.closed)

pub returns-in-End : goal.returns-in-End
returns-in-End c = so_ends c.loop-last.invariant c.pass.ensures c.in-End.is

pub returns-in-Halt : goal.returns-in-Halt
returns-in-Halt c = so_ends c.loop-last.invariant c.pass.ensures c.in-Halt.is

pub returns-in-Open : goal.returns-in-Open
returns-in-Open c = so_ends c.loop-last.invariant c.pass.ensures c.in-Open.is

pub loop-last-smaller : goal.loop-last-smaller
loop-last-smaller c =
    let f = out_further c.loop-last.invariant c.pass.ensures c.in-To.is in
    omega (arith, f.0, f.1.inside)

pub loop-last-preserved : goal.loop-last-preserved
loop-last-preserved c = (out_further c.loop-last.invariant c.pass.ensures c.in-To.is).1
