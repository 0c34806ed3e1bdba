-- Places that are stored for a pack are read back, and those of packs before it stay. Assumes nothing.
use Prim.Native.Nat.{ℕ, suc, ◌+◌, ◌*◌, ◌≤◌, ◌<◌}
use native.Mathlib.Omega.{arith}
use native.Mathlib.Numerals.{add-one, add-two}
use mathlib.Core.Path.{◌≡◌, refl, sym, ap, ◌∙◌}
use mathlib.Core.List.{List}
use lib.ListN.{length, get_or, set, length-set}
use lib.Seq.{sets, get_or-set_same, get_or-set_other}
use Rattle.kinds.specs.declared.Place.{Place}
use Rattle.pack_index.specs.declared.PackPlaces.{PackPlaces}
use Rattle.pack_index.specs.Index.{places_at, numbers_of}

-- three numbers stored from place k on
module _ (X : List ℕ) (k a b c : ℕ) where
  abbrev once : List ℕ
  once = set X k a

  abbrev twice : List ℕ
  twice = set once (suc k) b

  abbrev thrice : List ℕ
  thrice = set twice (suc (suc k)) c

  elsewhere : (j : ℕ) → j < k → get_or thrice j 0 ≡ get_or X j 0
  elsewhere j h =
      get_or-set_other twice (suc (suc k)) j c 0 (λ e. omega arith)
      ∙ get_or-set_other once (suc k) j b 0 (λ e. omega arith)
      ∙ get_or-set_other X k j a 0 (λ e. omega arith)

  module _ (h : k + 3 ≤ length X) where
    first : get_or thrice k 0 ≡ a
    first =
        get_or-set_other twice (suc (suc k)) k c 0 (λ e. omega arith)
        ∙ get_or-set_other once (suc k) k b 0 (λ e. omega arith)
        ∙ get_or-set_same X k a 0 (omega arith)

    second : get_or thrice (suc k) 0 ≡ b
    second =
        get_or-set_other twice (suc (suc k)) (suc k) c 0 (λ e. omega arith)
        ∙ get_or-set_same once (suc k) b 0 (omega (arith, length-set X k a))

    third : get_or thrice (suc (suc k)) 0 ≡ c
    third = get_or-set_same twice (suc (suc k)) c 0 (omega (arith, length-set X k a, length-set once (suc k) b))

-- three places by their numbers
abbrev three : ℕ → ℕ → ℕ → PackPlaces
three a b c = record { from = record { 0 = a }; tab = record { 0 = b }; end = record { 0 = c } }

same_places : {a b c x y z : ℕ} → a ≡ x → b ≡ y → c ≡ z → three a b c ≡ three x y z
same_places {a} {b} {c} {x} {y} {z} e f g =
    ap (λ (w : ℕ). three w b c) e ∙ ap (λ (w : ℕ). three x w c) f ∙ ap (λ (w : ℕ). three x y w) g

module _ (X : List ℕ) (n : ℕ) (p : PackPlaces) where
  pub stored : 3 * n + 3 ≤ length X → places_at (sets X (3 * n) (numbers_of p)) n ≡ p
  stored h =
      let k = 3 * n in
      same_places (first X k p.from.0 p.tab.0 p.end.0 h)
      (ap (λ (j : ℕ). get_or (sets X k (numbers_of p)) j 0) (add-one k) ∙ second X k p.from.0 p.tab.0 p.end.0 h)
      (ap (λ (j : ℕ). get_or (sets X k (numbers_of p)) j 0) (add-two k) ∙ third X k p.from.0 p.tab.0 p.end.0 h)

  pub kept : (i : ℕ) → i < n → places_at (sets X (3 * n) (numbers_of p)) i ≡ places_at X i
  kept i h =
      let at = elsewhere X (3 * n) p.from.0 p.tab.0 p.end.0 in
      same_places (at (3 * i) (omega arith)) (at (3 * i + 1) (omega arith)) (at (3 * i + 2) (omega arith))
