-- Copying a value has one outcome.
use Prim.Native.Nat.{ℕ}
use mathlib.Core.Path.{◌≡◌, refl}
use mathlib.Core.List.{List}
use lib.ListN.{length}
use Rattle.tables.specs.Table.{Table, count_of}
use Rattle.outcomes.specs.Number.{no_output_room_number, no_such_link_number, not_found_number}
use Rattle.outcomes.specs.Copy.{CopyOut, untouched, holding, meant, Copied, no_such_link, no_such_param}
use Rattle.outcomes.specs.Copy.{no_room, copied}
use Rattle.outcomes.specs.Laws.{Settled, CopySettled}
use Rattle.outcomes.proofs.Cases.{this, that, Order, only, order, settled}
use Rattle.outcomes.proofs.Usable.{over_settled}

module _ (t : Table) (i j : ℕ) (out : List ℕ) where
  abbrev Cases : CopyOut → Type 0
  Cases =
      Order t.link_count i (λ q. q ≡ untouched out no_such_link_number)
      (Order (count_of t.link_slots i) j (λ q. q ≡ untouched out not_found_number)
      (Order (length (meant t i j)) (length out) (λ q. q ≡ holding out (meant t i j)) (λ q. q ≡ untouched out no_output_room_number)))

  cases : (q : CopyOut) → Copied t i j out q → Cases q
  cases _ (no_such_link h) = this h refl
  cases _ (no_such_param h k) = that h (this k refl)
  cases _ (no_room h k l) = that h (that k (that l refl))
  cases _ (copied h k l) = that h (that k (this l refl))

  copies : Settled (Copied t i j out)
  copies =
      settled cases
      (order (λ h. only (no_such_link h))
      (λ h. order (λ k. only (no_such_param h k))
      (λ k. order (λ l. only (copied h k l)) (λ l. only (no_room h k l)))))

pub copy_settled : CopySettled
copy_settled n t i j out = over_settled (copies t i j out)
