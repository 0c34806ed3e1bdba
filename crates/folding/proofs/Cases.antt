-- Of two octets that differ and fold alike, one is a letter and the other that letter in the other case. Assumes nothing.
use Prim.Native.Nat.{ℕ, ◌<◌}
use mathlib.Core.Path.{◌≡◌, refl, sym, ap, ◌∙◌}
use mathlib.Core.Bool.{Bool, true, false, ◌&&◌}
use lib.Dec.{eqb, leb}
use borrow.Author.Tests.{eqb-true, eq-eqb}
use Rattle.octets.specs.Sets.{between}
use Rattle.octets.specs.Fold.{fold}
use Rattle.octets.proofs.Octets.{both}
use Rattle.octets.proofs.Low.{low, low_fold, letter_folded, other_folded}

told : (a b : Bool) → (a ≡ true → b ≡ true) → (b ≡ true → a ≡ true) → a ≡ b
told true b f g = sym (f refl)
told false true f g = g refl
told false false f g = refl

module _ (c d : ℕ) (small : c < 256) (small' : d < 256) where
  -- a letter, and the same but for the bit
  alike : low c ≡ low d → between 97 122 (low c) ≡ true → fold c ≡ fold d
  alike e l = letter_folded c small l ∙ e ∙ sym (letter_folded d small' (ap (between 97 122) (sym e) ∙ l))

  lows : fold c ≡ fold d → low c ≡ low d
  lows e = sym (low_fold c) ∙ ap low e ∙ low_fold d

  -- where no octet is a letter, each stays as it is
  letter : (c ≡ d → ⊥) → fold c ≡ fold d → between 97 122 (low c) ≡ true
  letter n e = go (between 97 122 (low c)) refl
    where
      go : (b : Bool) → between 97 122 (low c) ≡ b → between 97 122 (low c) ≡ true
      go true q = q
      go false q = absurd (n (sym (other_folded c small q) ∙ e ∙ other_folded d small' (ap (between 97 122) (sym (lows e)) ∙ q)))

  pub other_case : (c ≡ d → ⊥) → (eqb (low c) (low d) && leb 97 (low c) && leb (low c) 122) ≡ eqb (fold c) (fold d)
  other_case n =
      told (eqb (low c) (low d) && leb 97 (low c) && leb (low c) 122) (eqb (fold c) (fold d))
      (λ h.
      let (q, above) = both (eqb (low c) (low d) && leb 97 (low c)) (leb (low c) 122) h in
      let (e, below) = both (eqb (low c) (low d)) (leb 97 (low c)) q in
      eq-eqb (fold c) (fold d) (alike (eqb-true (low c) (low d) e) (rw (above, below))))
      (λ h. let e = eqb-true (fold c) (fold d) h in rw (eq-eqb (low c) (low d) (lows e), letter n e))
