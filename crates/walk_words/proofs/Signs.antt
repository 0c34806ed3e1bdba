-- Steps by a word: what stands in front of the digits, and the number as 32 bits. Assumes nothing.
use Prim.Native.Nat.{ℕ, zero, suc, ◌-◌, ◌≤◌, ◌<◌}
use native.Mathlib.Omega.{arith}
use mathlib.Core.Path.{◌≡◌, refl, sym, ap, subst, ◌∙◌}
use mathlib.Core.List.{List, [], ◌∷◌}
use lib.ListN.{length, get_or, take, drop}
use lib.Seq.{take_all}
use lib.IntN.{ℤ, pos, negsuc, neg_ℤ, ◌-ℤ◌, +ℤ_idl}
use borrow.Author.Tests.{eq-eqb, ne_eqb}
use mir.Syntax.{w32}
use mir.Val.{SFits, to_z, of_z}
use mir.ValLaws.{to_z_pos, to_z-of_z}
use Rattle.walk_words.specs.Words.{number_up_to, many_steps, steps_of}

module _ {r : ℕ} (few : r ≤ many_steps) where
  pub forward_fits : SFits w32 (pos r)
  forward_fits = record { sfits = omega (arith, few) }

  pub forward : to_z w32 r ≡ pos r
  forward = to_z_pos w32 r (omega (arith, few))

  opposite : pos 0 -ℤ to_z w32 r ≡ neg_ℤ (pos r)
  opposite = ap (λ (z : ℤ). pos 0 -ℤ z) forward ∙ +ℤ_idl (neg_ℤ (pos r))

  opposite_fits : SFits w32 (neg_ℤ (pos r))
  opposite_fits = go r few
    where
      go : (k : ℕ) → k ≤ many_steps → SFits w32 (neg_ℤ (pos k))
      go zero h = record { sfits = omega arith }
      go (suc k) h = record { sfits = omega arith }

  pub backward_fits : SFits w32 (pos 0 -ℤ to_z w32 r)
  backward_fits = subst (SFits w32) (sym opposite) opposite_fits

  pub backward : to_z w32 (of_z w32 (pos 0 -ℤ to_z w32 r)) ≡ neg_ℤ (pos r)
  backward = to_z-of_z w32 (pos 0 -ℤ to_z w32 r) backward_fits ∙ opposite

-- ---- the octet in front

pub no_word : (w : List ℕ) → length w ≡ 0 → pos many_steps ≡ steps_of w
no_word [] h = refl
no_word (c ∷ w) h = absurd (omega arith)

pub minus : (w : List ℕ) {r : ℕ} → 0 < length w → get_or w 0 0 ≡ 45 → r ≡ number_up_to 10 many_steps (take (length w - 1) (drop 1 w))
    → neg_ℤ (pos r) ≡ steps_of w
minus [] p e h = absurd (omega arith)
minus (c ∷ w) p e h =
    let all : take (length (c ∷ w) - 1) w ≡ w = take_all (length (c ∷ w) - 1) w (omega arith) in
    rw (eq-eqb c 45 e) (ap (λ (k : ℕ). neg_ℤ (pos k)) (h ∙ ap (number_up_to 10 many_steps) all))

pub no_minus : (w : List ℕ) {r : ℕ} → 0 < length w → (get_or w 0 0 ≡ 45 → ⊥) → r ≡ number_up_to 10 many_steps w → pos r ≡ steps_of w
no_minus [] p e h = absurd (omega arith)
no_minus (c ∷ w) p e h = rw (ne_eqb c 45 e) (ap pos h)
