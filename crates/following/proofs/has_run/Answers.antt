-- Whether a run matches is asked of the runs that are left.
use Prim.Native.Nat.{◌-◌}
use native.Mathlib.Omega.{arith}
use mathlib.Core.Path.{refl}
use Rattle.following.proofs.RunsLeft.{on_from, no_run, matched, differs}
use Rattle.following.proofs.has_run.Goals as goal

pub next_run-k-requires : goal.next_run-k-requires
next_run-k-requires c = c.requires

pub loop-k-init : goal.loop-k-init
loop-k-init c = record { begins = c.next_run-k.ensures.begins; left = refl }

pub match_run-m-requires : goal.match_run-m-requires
match_run-m-requires c =
    (c.loop-k-test.true, c.requires.inside, c.loop-k.invariant.begins c.loop-k-test.true)

pub returns-then-m : goal.returns-then-m
returns-then-m c =
    let loop' = c.loop-k in
    let next-run' = c.next_run-k in
    rw next-run'.ensures.same_runs (matched loop'.invariant c.match_run-m.ensures c.if-m.true)

pub next_run-k-requires-in-loop-k : goal.next_run-k-requires-in-loop-k
next_run-k-requires-in-loop-k c =
    record { ordered = c.match_run-m.ensures.inside; inside = c.requires.inside }

pub loop-k-smaller : goal.loop-k-smaller
loop-k-smaller c =
    omega (arith, c.next_run-k-in-loop-k.ensures.forward, c.match_run-m.ensures.forward, c.loop-k-test.true)

pub loop-k-preserved : goal.loop-k-preserved
loop-k-preserved c =
    let loop' = c.loop-k in
    on_from (differs loop'.invariant c.match_run-m.ensures c.if-m.false) c.next_run-k-in-loop-k.ensures

pub returns : goal.returns
returns c =
    let next-run' = c.next_run-k in
    rw next-run'.ensures.same_runs (no_run c.loop-k.invariant c.loop-k-test.false)
