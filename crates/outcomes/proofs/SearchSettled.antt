-- Searching has one outcome.
use Prim.Native.Nat.{ℕ}
use mathlib.Core.Path.{◌≡◌, refl, ap, ◌∙◌}
use mathlib.Core.List.{List}
use Rattle.tables.specs.Table.{Table}
use Rattle.outcomes.specs.Number.{done, not_found_number}
use Rattle.outcomes.specs.Search.{SearchOut, has, Searched, no_link, found}
use Rattle.outcomes.specs.Laws.{Settled, SearchSettled}
use Rattle.outcomes.proofs.Cases.{Branch, this, that, only, branch, settled}
use Rattle.outcomes.proofs.First.{First, None, first_or_none, first_not_none, one_first}
use Rattle.outcomes.proofs.Usable.{over_settled}

abbrev answer : ℕ → ℕ → SearchOut
answer n i = record { number = n; link = i }

module _ (t : Table) (r : List ℕ) where
  abbrev Cases : SearchOut → Type 0
  Cases =
      Branch ((i : ℕ) × First (has t r) t.link_count i) (λ f q. q ≡ answer done f.0) (None (has t r) t.link_count)
      (λ q. q ≡ answer not_found_number 0)

  cases : (q : SearchOut) → Searched t r q → Cases q
  cases _ (no_link n) = that n refl
  cases _ (found l y b) = this (_, record { inside = l; is = y; before = b }) refl

  searched : Settled (Searched t r)
  searched =
      settled cases
      (branch (first_or_none (has t r) t.link_count) (λ f n. first_not_none f.1 n)
      (λ f g q e. e ∙ ap (answer done) (one_first g.1 f.1))
      (λ f. only (found f.1.inside f.1.is f.1.before))
      (λ n. only (no_link n)))

pub search_settled : SearchSettled
search_settled n t r = over_settled (searched t r)
