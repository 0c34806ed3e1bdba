-- The loop stands before a line; so many lines are left before the pack's.
use Prim.Native.Nat.{◌-◌}
use native.Mathlib.Omega.{arith}
use Rattle.pack_uri.proofs.ByLine.{begin, at_its_end, no_line, forward, found, on}
use Rattle.pack_uri.proofs.uri_of.Goals as goal

pub loop-at-init : goal.loop-at-init
loop-at-init c = begin c.args.s.now c.args.number.0

pub line_at-requires : goal.line_at-requires
line_at-requires c = c.loop-at.invariant.inside

pub returns-in_default : goal.returns-in_default
returns-in_default c =
    let e = c.up_to-nothing.ensures in
    rw (e.0, e.1) (no_line c.loop-at.invariant c.line_at.ensures c.in_default.is)

pub returns-then-left-eq0 : goal.returns-then-left-eq0
returns-then-left-eq0 c = found c.loop-at.invariant c.line_at.ensures c.in-Some.is c.if-left-eq0.true

pub overflow_add-at : goal.overflow_add-at
overflow_add-at c = omega (arith, (forward c.loop-at.invariant c.line_at.ensures c.in-Some.is).1)

pub loop-at-smaller : goal.loop-at-smaller
loop-at-smaller c =
    let step = forward c.loop-at.invariant c.line_at.ensures c.in-Some.is in
    omega (arith, step.0, step.1)

pub loop-at-preserved : goal.loop-at-preserved
loop-at-preserved c = on c.loop-at.invariant c.line_at.ensures c.in-Some.is c.if-left-eq0.false

pub returns : goal.returns
returns c =
    let e = c.up_to-nothing.ensures in
    rw (e.0, e.1) (at_its_end c.loop-at.invariant (omega arith))
