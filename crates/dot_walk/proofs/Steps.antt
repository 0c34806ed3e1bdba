-- What the tests of a step tell. Assumes nothing.
use Prim.Native.Nat.{ℕ, ◌+◌, ◌-◌, ◌≤◌, ◌<◌}
use native.Mathlib.Omega.{arith}
use mathlib.Core.Path.{◌≡◌, refl, sym, ap}
use mathlib.Core.Bool.{Bool, true, false, not, cond, ◌&&◌, ◌||◌, false≢true}
use mathlib.Core.List.{List, [], ◌∷◌}
use mir.Val.{bool_byte}
use borrow.Author.Tests.{eqb-true, eq-eqb, ne_eqb, ltb-true}
use lib.Dec.{eqb, ltb}
use lib.ListN.{length}
use Rattle.resolution.specs.Walking.{held, slash_gain, pending_on, step}
use Rattle.resolution.specs.declared.Walk.{Walk}

-- a slash is added or not, by either test
pub slash_told : (d x y : Bool) → bool_byte ((d && x) || (not d && y)) ≡ length (cond {A = List ℕ} (cond d x y) (47 ∷ []) [])
slash_told true true y = refl
slash_told true false y = refl
slash_told false x true = refl
slash_told false x false = refl

pub held_dots : (k : ℕ) → (eqb k 1 || eqb k 2) ≡ true → k ≡ length (held k)
held_dots k = go (eqb k 1) (eqb k 2) refl refl
  where
    go : (a b : Bool) → eqb k 1 ≡ a → eqb k 2 ≡ b → (a || b) ≡ true → k ≡ length (held k)
    go true b e f h = rw (eqb-true k 1 e) refl
    go false true e f h = rw (eqb-true k 2 f) refl
    go false false e f h = absurd (false≢true h)

pub held_none : (k : ℕ) → (eqb k 1 || eqb k 2) ≡ false → 0 ≡ length (held k)
held_none k = go (eqb k 1) (eqb k 2) refl refl
  where
    go : (a b : Bool) → eqb k 1 ≡ a → eqb k 2 ≡ b → (a || b) ≡ false → 0 ≡ length (held k)
    go true b e f h = absurd (false≢true (sym h))
    go false true e f h = absurd (false≢true (sym h))
    go false false e f h = rw (e, f) refl

-- the same but for how the octets kept are counted
counted : (p k : ℕ) {m n : ℕ} → m ≡ n → ◌≡◌ {A = Walk} (record { pending = p; kind = k; kept = m }) (record { pending = p; kind = k; kept = n })
counted p k e = ap (λ (n : ℕ). record { pending = p; kind = k; kept = n }) e

-- ---- behind a slash

module _ (t : Walk) where
  pub one_more : t.kind ≡ 2 → t.pending + 1 ≡ pending_on t
  one_more e = rw (eq-eqb t.kind 2 e) refl

  pub same_pending : t.kind ≡ 1 → t.pending ≡ pending_on t
  same_pending e = rw e refl

  pub one_less : (t.kind ≡ 2 → ⊥) → (t.kind ≡ 1 → ⊥) → t.pending - 1 ≡ pending_on t
  one_less e f = rw (ne_eqb t.kind 2 e, ne_eqb t.kind 1 f) refl

  -- ---- a step, by its tests

  pub slash_step : {c p n : ℕ} → c ≡ 47 → p ≡ pending_on t → n ≡ length (slash_gain t)
      → record { pending = p; kind = 0; kept = t.kept + n } ≡ step t c
  slash_step {c} e f g = rw (eq-eqb c 47 e, f, g) refl

  pub held_step : {c : ℕ} → (c ≡ 47 → ⊥) → (eqb c 46 && ltb t.kind 2) ≡ true
      → record { pending = t.pending; kind = t.kind + 1; kept = t.kept } ≡ step t c
  held_step {c} e f = rw (ne_eqb c 47 e, f) (counted t.pending (t.kind + 1) (omega arith))

  pub dropped_step : {c : ℕ} → (c ≡ 47 → ⊥) → (eqb c 46 && ltb t.kind 2) ≡ false → (t.pending ≡ 0 → ⊥)
      → record { pending = t.pending; kind = 3; kept = t.kept } ≡ step t c
  dropped_step {c} e f g = rw (ne_eqb c 47 e, f, ne_eqb t.pending 0 g) (counted t.pending 3 (omega arith))

  pub kept_step : {c n : ℕ} → (c ≡ 47 → ⊥) → (eqb c 46 && ltb t.kind 2) ≡ false → t.pending ≡ 0 → n ≡ length (held t.kind)
      → record { pending = t.pending; kind = 3; kept = t.kept + 1 + n } ≡ step t c
  kept_step {c} {n} e f g h = rw (ne_eqb c 47 e, f, eq-eqb t.pending 0 g) (counted t.pending 3 (omega (arith, h)))

-- at most two dots are held back, and a slash is one octet
pub held_two : (k : ℕ) → length (held k) ≤ 2
held_two k = go (eqb k 1) (eqb k 2) refl refl
  where
    go : (a b : Bool) → eqb k 1 ≡ a → eqb k 2 ≡ b → length (held k) ≤ 2
    go true b e f = rw e (omega arith)
    go false true e f = rw (e, f) (omega arith)
    go false false e f = rw (e, f) (omega arith)

one_at_most : (b : Bool) → length (cond {A = List ℕ} b (47 ∷ []) []) ≤ 1
one_at_most true = omega arith
one_at_most false = omega arith

pub slash_one : (t : Walk) → length (slash_gain t) ≤ 1
slash_one t = one_at_most (cond (eqb t.kind 1 || eqb t.kind 2) (eqb t.kept 0) (eqb t.pending 0))

pub below_two : (t : Walk) (b : Bool) → (b && ltb t.kind 2) ≡ true → t.kind < 2
below_two t true h = ltb-true t.kind 2 h
below_two t false h = absurd (false≢true h)
