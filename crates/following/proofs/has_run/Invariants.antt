-- Whether a run matches is asked of the runs that are left.
use Prim.Native.Nat.{◌-◌}
use Rattle.tables.specs.Relation.{runs, any_folded}
use Rattle.values.specs.Rest.{rest}
use Rattle.following.proofs.RunsLeft.{RunsLeft}
use Rattle.following.proofs.has_run.Given as goal

abbrev pub invariant-loop-k : goal.invariant-loop-k
invariant-loop-k l = RunsLeft l.relation l.text l.e.0 (any_folded l.relation (runs (rest l.text l.e.0 l.initial.k.0))) l.k.0

abbrev pub decreases-loop-k : goal.decreases-loop-k
decreases-loop-k l = l.e.0 - l.k.0
