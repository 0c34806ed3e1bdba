-- A link resolved on a base: its target, and then its context. A buffer whose part is refused, or not asked for, is left as it was.
use Rattle.std.specs.Prelude.{ℕ, List, ◌++◌, length, drop, Result, Ok, Err}
use Rattle.tables.specs.Table.{Table, link_at}
use Rattle.tables.specs.Meaning.{link_meaning}
use Rattle.outcomes.specs.Copy.{untouched, holding}
use Rattle.outcomes.specs.Resolve.{Resolve}
use Rattle.outcomes.specs.ResolvedContext.{ResolvedContext}
use Rattle.answers.specs.Refusal.{refusal_number}
use Rattle.answers.specs.declared.Refusal.{Refusal}

-- the octets of link number i's target
abbrev pub target_of : Table → ℕ → List ℕ
target_of t i = (link_meaning t.text (link_at t.link_slots t.param_slots i)).target

-- the octets v, and behind them what a buffer held
abbrev pub over : List ℕ → List ℕ → List ℕ
over v out = v ++ drop (length v) out

-- in the edition numbered n, link number i of the table t, on a base, into buffers that hold T and C: the answer, and what both hold
module _ (n : ℕ) (t : Table) (base : List ℕ) (i : ℕ) (T C : List ℕ) where
  pub data LinkOn : Result (ℕ × ℕ) Refusal → List ℕ → List ℕ → Type 0 where
    target_refused : {why : Refusal} → Resolve (target_of t i) base T (untouched T (refusal_number why)) → LinkOn (Err why) T C
    context_refused : (v : List ℕ) {why : Refusal} → Resolve (target_of t i) base T (holding T v)
        → ResolvedContext n t base i C (untouched C (refusal_number why)) → LinkOn (Err why) (over v T) C
    both : (v w : List ℕ) → Resolve (target_of t i) base T (holding T v) → ResolvedContext n t base i C (holding C w)
        → LinkOn (Ok (length v, length w)) (over v T) (over w C)
