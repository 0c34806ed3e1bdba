-- The links below l have not got the relation; that link l has it is asked of the parameters that are left, and then of the runs
-- that are left of its `rel` value.
use Prim.Native.Nat.{ℕ, ◌-◌, ◌<◌}
use mathlib.Core.Path.{◌≡◌}
use mathlib.Core.Bool.{false}
use Rattle.tables.specs.Table.{table_of}
use Rattle.outcomes.specs.Search.{has}
use Rattle.search.proofs.Searching.{AmongParams, AmongRuns}
use Rattle.search.proofs.first_with.Given as goal

abbrev pub invariant-loop-k : goal.invariant-loop-k
invariant-loop-k l =
    AmongRuns l.t.text.now l.relation (has (table_of l.t.text.now l.t.links.now l.t.params.now l.t.counts.links l.t.counts.params) l.relation l.l.0) l.e.0 l.k.0

abbrev pub decreases-loop-k : goal.decreases-loop-k
decreases-loop-k l = l.e.0 - l.k.0

abbrev pub invariant-loop-p : goal.invariant-loop-p
invariant-loop-p l =
    AmongParams (table_of l.t.text.now l.t.links.now l.t.params.now l.t.counts.links l.t.counts.params) l.relation l.l.0 l.end.0 l.p.0

abbrev pub decreases-loop-p : goal.decreases-loop-p
decreases-loop-p l = l.end.0 - l.p.0

abbrev pub invariant-search : goal.invariant-search
invariant-search l =
    (j : ℕ) → j < l.l.0 → has (table_of l.t.text.now l.t.links.now l.t.params.now l.t.counts.links l.t.counts.params) l.relation j ≡ false

abbrev pub decreases-search : goal.decreases-search
decreases-search l = l.t.counts.links - l.l.0
