-- Asking for a link's resolved context has one outcome.
use Prim.Native.Nat.{ℕ}
use mathlib.Core.Path.{◌≡◌, refl, subst}
use mathlib.Core.List.{List}
use mathlib.Core.Option.{none, some}
use lib.ListN.{length}
use Rattle.octets.specs.declared.editions.Edition.{Edition}
use Rattle.references.specs.AppendixA.{URI}
use Rattle.resolution.specs.Resolve.{unfragmented}
use Rattle.grammar.specs.Link.{Param}
use Rattle.tables.specs.Table.{Table}
use Rattle.tables.specs.Meaning.{value_of}
use Rattle.outcomes.specs.Number.{limit, too_long_number, no_such_link_number, bad_base_number}
use Rattle.outcomes.specs.Usable.{TableIn}
use Rattle.outcomes.specs.Context.{anchor}
use Rattle.outcomes.specs.Copy.{CopyOut, untouched}
use Rattle.outcomes.specs.Resolve.{Fitted}
use Rattle.outcomes.specs.ResolvedContext.{ContextOn, no_such_link, bad_base, bad_reference, anchored, unanchored}
use Rattle.outcomes.specs.ResolvedContext.{ContextIn, long_base, over_table}
use Rattle.outcomes.specs.Laws.{Settled, ResolvedContextSettled}
use Rattle.outcomes.proofs.Cases.{Branch, this, that, Order, Derived, only, branch, order, derived, as_settled, settled}
use Rattle.outcomes.proofs.Options.{some_or_none, not_none, same_some}
use Rattle.outcomes.proofs.InEdition.{edition_settled}
use Rattle.outcomes.proofs.Usable.{table_settled}
use Rattle.outcomes.proofs.ResolveSettled.{fitted_settled, OnBase, on_base}

module _ (t : Table) (base : List ℕ) (i : ℕ) (out : List ℕ) where
  -- what the parameter means, on the base
  abbrev Anchored : Param → CopyOut → Type 0
  Anchored p = OnBase (value_of t.text p) base out

  abbrev Cases : CopyOut → Type 0
  Cases =
      Order t.link_count i (λ q. q ≡ untouched out no_such_link_number)
      (Derived URI base
      (Branch ((p : Param) × (anchor t i ≡ some p)) (λ p. Anchored p.0) (anchor t i ≡ none) (Fitted out (unfragmented base)))
      (λ q. q ≡ untouched out bad_base_number))

  cases : (q : CopyOut) → ContextOn t base i out q → Cases q
  cases _ (no_such_link h) = this h refl
  cases _ (bad_base h n) = that h (that n refl)
  cases _ (bad_reference h u a n) = that h (this u (this (_, a) (that n refl)))
  cases _ (anchored h u a r f) = that h (this u (this (_, a) (this r f)))
  cases _ (unanchored h u a f) = that h (this u (that a f))

  context_on : Settled (ContextOn t base i out)
  context_on =
      settled cases
      (order (λ h. only (no_such_link h))
      (λ h. derived URI base
      (λ u. branch (some_or_none (anchor t i)) (λ p n. not_none p.1 n)
      (λ p r q x. subst (λ (v : Param). Anchored v q) (same_some r.1 p.1) x)
      (λ p. on_base (value_of t.text p.0) base out (λ o r f. anchored h u p.1 r f) (λ n. bad_reference h u p.1 n))
      (λ a. as_settled (λ o f. unanchored h u a f) (fitted_settled out (unfragmented base))))
      (λ n. only (bad_base h n))))

  context_in : (e : Edition) → Settled (ContextIn t base i out e)
  context_in e =
      settled told
      (order (λ h. as_settled (λ o x. over_table h x) (table_settled context_on e)) (λ l. only (long_base l)))
    where
      told : (q : CopyOut) → ContextIn t base i out e q
          → Order (length base) limit (TableIn t (untouched out) (ContextOn t base i out) e) (λ q. q ≡ untouched out too_long_number) q
      told _ (long_base l) = that l refl
      told _ (over_table h x) = this h x

pub resolved_context_settled : ResolvedContextSettled
resolved_context_settled n t base i out = edition_settled (context_in t base i out)
