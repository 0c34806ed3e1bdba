-- Asking for a link's context has one outcome.
use Prim.Native.Nat.{ℕ}
use mathlib.Core.Path.{◌≡◌, refl, ap, ◌∙◌}
use mathlib.Core.List.{List}
use mathlib.Core.Option.{none, some}
use lib.ListN.{length}
use Rattle.grammar.specs.Link.{Param}
use Rattle.tables.specs.Table.{Table}
use Rattle.outcomes.specs.Number.{done, no_such_link_number}
use Rattle.outcomes.specs.Context.{of_text, of_base, ContextOut, anchor, nothing, ContextOf, no_such_link}
use Rattle.outcomes.specs.Context.{anchored, unanchored}
use Rattle.outcomes.specs.Laws.{Settled, ContextSettled}
use Rattle.outcomes.proofs.Cases.{Branch, this, that, Order, only, branch, order, settled}
use Rattle.outcomes.proofs.Options.{some_or_none, not_none, same_some}
use Rattle.outcomes.proofs.Usable.{over_settled}

abbrev span : Param → ContextOut
span p = record { number = done; source = of_text; start = p.value_from; end = p.value_to }

module _ (t : Table) (base : List ℕ) (i : ℕ) where
  abbrev Cases : ContextOut → Type 0
  Cases =
      Order t.link_count i (λ q. q ≡ nothing no_such_link_number)
      (Branch ((p : Param) × (anchor t i ≡ some p)) (λ p q. q ≡ span p.0)
      (anchor t i ≡ none) (λ q. q ≡ record { number = done; source = of_base; start = 0; end = length base }))

  cases : (q : ContextOut) → ContextOf t base i q → Cases q
  cases _ (no_such_link h) = this h refl
  cases _ (anchored h a) = that h (this (_, a) refl)
  cases _ (unanchored h a) = that h (that a refl)

  found : Settled (ContextOf t base i)
  found =
      settled cases
      (order (λ h. only (no_such_link h))
      (λ h. branch (some_or_none (anchor t i)) (λ p n. not_none p.1 n)
      (λ p r q e. e ∙ ap span (same_some r.1 p.1))
      (λ p. only (anchored h p.1))
      (λ n. only (unanchored h n))))

pub context_settled : ContextSettled
context_settled n t base i = over_settled (found t base i)
