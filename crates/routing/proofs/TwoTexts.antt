-- A path in two texts, the first of them closed: its leading dots stand in the first text, or all of that goes and they stand in the
-- second too. Assumes nothing.
use Prim.Native.Nat.{ℕ}
use native.Mathlib.Omega.{arith}
use mathlib.Core.Path.{◌≡◌, refl, sym, ap, ◌∙◌, subst₂}
use mathlib.Core.Bool.{Bool, true, false, ◌&&◌}
use mathlib.Core.List.{List, [], ◌∷◌, ◌++◌}
use borrow.Author.Tests.{eqb-true, eqb-false}
use lib.Dec.{eqb}
use lib.ListN.{length}
use Rattle.resolution.specs.Walking.{trimmed}
use Rattle.leading_dots.proofs.Trimming.{no_dot_stays, slash_goes}
use Rattle.routing.specs.Folders.{Closed}

pub record Trimming (u v : List ℕ) : Type 0 where
  pub all_goes : trimmed u ≡ [] → trimmed (u ++ v) ≡ trimmed v
  pub some_stays : (trimmed u ≡ [] → ⊥) → trimmed (u ++ v) ≡ trimmed u ++ v

-- the first text stays as it is
stays : (a : ℕ) (u v : List ℕ) → trimmed (a ∷ u) ≡ a ∷ u → trimmed ((a ∷ u) ++ v) ≡ (a ∷ u) ++ v → Trimming (a ∷ u) v
stays a u v e f =
    record {
      all_goes = λ n. absurd (cons_not_nil a u (sym e ∙ n));
      some_stays = λ _. f ∙ ap (λ (t : List ℕ). t ++ v) (sym e);
    }
  where
    cons_not_nil : (x : ℕ) (w : List ℕ) → ◌≡◌ {A = List ℕ} (x ∷ w) [] → ⊥
    cons_not_nil x w q = absurd (omega (arith, ap length q))

-- something of it goes, and what is left has the same beginning
goes : (u t v : List ℕ) → trimmed u ≡ trimmed t → trimmed (u ++ v) ≡ trimmed (t ++ v) → Trimming t v → Trimming u v
goes u t v e f h =
    record {
      all_goes = λ n. f ∙ h.all_goes (sym e ∙ n);
      some_stays = λ n. f ∙ h.some_stays (λ z. n (e ∙ z)) ∙ ap (λ (x : List ℕ). x ++ v) (sym e);
    }

without_dot : (a : ℕ) (u v : List ℕ) → (a ≡ 46 → ⊥) → Trimming (a ∷ u) v
without_dot a u v n = stays a u v (no_dot_stays (a ∷ u) n) (no_dot_stays ((a ∷ u) ++ v) n)

closed_behind : (c : ℕ) (w : List ℕ) → Closed (c ∷ w) → Closed w
closed_behind c [] k = tt
closed_behind c (d ∷ w) k = k

pub trimming : (u v : List ℕ) → Closed u → Trimming u v
trimming [] v k = record { all_goes = λ _. refl; some_stays = λ n. absurd (n refl) }
trimming (a ∷ []) v k = without_dot a [] v (λ z. absurd (omega (arith, k, z)))
trimming (a ∷ b ∷ []) v k = go (eqb a 46) refl (trimming [] v tt)
  where
    go : (z : Bool) → eqb a 46 ≡ z → Trimming [] v → Trimming (a ∷ b ∷ []) v
    go true e m =
        goes (a ∷ b ∷ []) [] v (rw (eqb-true a 46 e, k) refl)
        (subst₂ (λ (x y : ℕ). trimmed ((x ∷ y ∷ []) ++ v) ≡ trimmed v) (sym (eqb-true a 46 e)) (sym k) (slash_goes v)) m
    go false e m = without_dot a (b ∷ []) v (eqb-false a 46 e)
trimming (a ∷ b ∷ c ∷ w) v k =
    go (eqb a 46 && eqb b 47) refl (eqb a 46 && eqb b 46 && eqb c 47) refl (trimming (c ∷ w) v k) (trimming w v (closed_behind c w k))
  where
    go : (y : Bool) → (eqb a 46 && eqb b 47) ≡ y → (z : Bool) → (eqb a 46 && eqb b 46 && eqb c 47) ≡ z
        → Trimming (c ∷ w) v → Trimming w v → Trimming (a ∷ b ∷ c ∷ w) v
    go true e z f m n = goes (a ∷ b ∷ c ∷ w) (c ∷ w) v (rw e refl) (rw e refl) m
    go false e true f m n = goes (a ∷ b ∷ c ∷ w) w v (rw (e, f) refl) (rw (e, f) refl) n
    go false e false f m n = stays a (b ∷ c ∷ w) v (rw (e, f) refl) (rw (e, f) refl)
