-- The packs up to some number have other URIs. Assumes nothing.
use Prim.Native.Nat.{ℕ, ◌+◌, ◌*◌, ◌-◌, ◌≤◌, ◌<◌}
use native.Mathlib.Nat.{eq-or-lt_of_le}
use native.Mathlib.Omega.{arith}
use mathlib.Core.Path.{◌≡◌, refl, sym, ap, subst, ◌∙◌}
use mathlib.Core.Logic.{⊎_elim}
use mathlib.Core.Bool.{Bool, true, false}
use mathlib.Core.List.{List}
use lib.ListN.{length, take, drop}
use lib.Seq.{slice}
use Rattle.octets.specs.Fold.{same}
use Rattle.octets.proofs.Laws.{slice_take_drop}
use Rattle.pack_index.specs.declared.PackPlaces.{PackPlaces}
use Rattle.pack_index.specs.Index.{places_at, uri_in, Placed, Held}

-- whether pack number i has the URI w
abbrev pub is_named : List ℕ → List ℕ → List ℕ → ℕ → Bool
is_named s X w i = same (uri_in s (places_at X i)) w

pub record OthersUpTo (s X : List ℕ) (n : ℕ) (w : List ℕ) (i : ℕ) : Type 0 where
  pub inside : i ≤ n
  pub others : (j : ℕ) → j < i → is_named s X w j ≡ false

-- the places that are read for a pack
module _ {s X : List ℕ} {n i : ℕ} (h : Held s X n) (l : i < n) {p : PackPlaces} (e : p ≡ places_at X i) where
  pub placed_here : Placed s p
  placed_here = subst (Placed s) (sym e) (h.placed i l)

  -- the part that is compared
  pub compared : (w : List ℕ) {b : Bool} → b ≡ same (take (p.tab.0 - p.from.0) (drop p.from.0 s)) w → is_named s X w i ≡ b
  compared w q =
      ap (λ (x : PackPlaces). same (uri_in s x) w) (sym e)
      ∙ ap (λ (v : List ℕ). same v w) (slice_take_drop p.from.0 p.tab.0 s placed_here.uri)
      ∙ sym q

module _ {s X : List ℕ} {n : ℕ} {w : List ℕ} {i : ℕ} where
  pub begin : i ≡ 0 → OthersUpTo s X n w i
  begin e = record { inside = omega arith; others = λ j h. absurd (omega arith) }

  pub on : OthersUpTo s X n w i → i < n → is_named s X w i ≡ false → OthersUpTo s X n w (i + 1)
  on h l e =
      record {
        inside = omega arith;
        others = λ j k. ⊎_elim (λ q. rw q e) (h.others j) (eq-or-lt_of_le {n = j} {m = i} (omega arith));
      }
