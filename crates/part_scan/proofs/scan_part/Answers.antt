-- Each move leads on from what has been passed.
use Prim.Native.Nat.{ℕ, ◌-◌}
use native.Mathlib.Omega.{arith}
use mathlib.Core.Path.{sym, subst}
use borrow.Author.Rules.{rules}
use Rattle.octets.specs.Editions.{further}
use Rattle.phases.specs.Spots.{Normal}
use Rattle.part_scan.proofs.Normals.{normal_is_normal}
use Rattle.part_scan.proofs.Moves.{SoFar, none_yet, goes_through, gets_stuck, gets_refused, is_further, so_further}
use Rattle.part_scan.proofs.scan_part.Goals as goal

pub loop-last-init : goal.loop-last-init
loop-last-init c =
    let a = c.args in
    let n = c.normal-spot in
    subst (λ (i : ℕ). SoFar (further a.edition) a.part.now a.base n.result n.result i) (sym c.start-c.ensures)
    (none_yet _ _ _ (subst Normal (sym n.ensures) (normal_is_normal a.from)))

pub go_on-requires : goal.go_on-requires
go_on-requires c = (c.loop-last.invariant.inside, c.requires, c.loop-last.invariant.is_normal)

pub returns-in-End : goal.returns-in-End
returns-in-End c =
    rw (← c.normal-spot.ensures) (goes_through c.loop-last.invariant c.go_on.ensures c.in-End.is)

pub returns-in-Halt : goal.returns-in-Halt
returns-in-Halt c =
    rw (← c.normal-spot.ensures) (gets_stuck c.loop-last.invariant c.go_on.ensures c.in-Halt.is)

pub returns-in-Unfit : goal.returns-in-Unfit
returns-in-Unfit c =
    rw (← c.normal-spot.ensures) (gets_refused c.loop-last.invariant c.go_on.ensures c.in-Unfit.is)

pub loop-last-smaller : goal.loop-last-smaller
loop-last-smaller c =
    let f = is_further c.loop-last.invariant c.go_on.ensures c.in-To.is in
    omega (arith, f.0, f.1)

pub loop-last-preserved : goal.loop-last-preserved
loop-last-preserved c =
    so_further c.loop-last.invariant c.go_on.ensures c.in-To.is
