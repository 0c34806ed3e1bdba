-- Writing has one outcome.
use Prim.Native.Nat.{ℕ, ◌<◌}
use mathlib.Core.Path.{◌≡◌, refl, sym, ap, ◌∙◌}
use mathlib.Core.Bool.{Bool, true, false, true≢false}
use mathlib.Core.Logic.{◌⊎◌, ⊎_map}
use mathlib.Core.List.{List, [], ◌∷◌}
use lib.ListN.{length}
use Rattle.tables.specs.Table.{Table}
use Rattle.outcomes.specs.Number.{limit, too_long_number, no_relation_number, no_output_room_number}
use Rattle.outcomes.specs.Copy.{CopyOut, untouched, holding}
use Rattle.outcomes.specs.Write.{written_form, relations_at, Related, Wrote, no_relation, long_form, no_room, wrote}
use Rattle.outcomes.specs.Laws.{Settled, WriteSettled}
use Rattle.outcomes.proofs.Cases.{Branch, this, that, Order, only, branch, order, settled}
use Rattle.outcomes.proofs.First.{first_or_none}
use Rattle.outcomes.proofs.Usable.{over_settled}

abbrev is_none : {A : Type 0} → List A → Bool
is_none [] = true
is_none (x ∷ xs) = false

is_none_lem : {A : Type 0} (xs : List A) → is_none xs ≡ true → xs ≡ []
is_none_lem [] e = refl
is_none_lem (x ∷ xs) e = absurd (true≢false (sym e))

module _ (t : Table) (out : List ℕ) where
  abbrev Unrelated : Type 0
  Unrelated = (i : ℕ) × (i < t.link_count) × (relations_at t i ≡ [])

  abbrev Cases : CopyOut → Type 0
  Cases =
      Branch Unrelated (λ n q. q ≡ untouched out no_relation_number) (Related t)
      (Order (length (written_form t)) limit
      (Order (length (written_form t)) (length out) (λ q. q ≡ holding out (written_form t)) (λ q. q ≡ untouched out no_output_room_number))
      (λ q. q ≡ untouched out too_long_number))

  cases : (q : CopyOut) → Wrote t out q → Cases q
  cases _ (no_relation l e) = this (_, l, e) refl
  cases _ (long_form r l) = that r (that l refl)
  cases _ (no_room r h l) = that r (this h (that l refl))
  cases _ (wrote r h k) = that r (this h (this k refl))

  related_or_not : Unrelated ⊎ Related t
  related_or_not =
      ⊎_map (λ f. (f.0, f.1.inside, is_none_lem (relations_at t f.0) f.1.is))
      (λ n i l e. true≢false (sym (ap is_none e) ∙ n i l))
      (first_or_none (λ i. is_none (relations_at t i)) t.link_count)

  writes : Settled (Wrote t out)
  writes =
      settled cases
      (branch related_or_not (λ n r. r n.0 n.1 n.2) (λ n m q e. e)
      (λ n. only (no_relation n.1 n.2))
      (λ r. order (λ h. order (λ k. only (wrote r h k)) (λ l. only (no_room r h l))) (λ l. only (long_form r l))))

pub write_settled : WriteSettled
write_settled n t out = over_settled (writes t out)
