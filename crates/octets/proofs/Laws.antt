-- Laws about the definitions of this crate. Assumes nothing.
use Prim.Native.Nat.{ℕ, zero, suc, ◌-◌, ◌≤◌}
use native.Mathlib.Nat.{le_of_suc-le-suc, not-suc-le-zero, sub-zero, suc-sub-suc}
use native.Mathlib.Omega.{arith}
use mathlib.Core.Bool.{Bool, true, false, ◌||◌, false≢true}
use mathlib.Core.List.{List, [], ◌∷◌}
use mathlib.Core.Path.{◌≡◌, refl, sym, ap, ◌∙◌}
use lib.Dec.{eqb}
use lib.ListN.{length, take, drop, get_or, length-map, get_or-map}
use lib.Seq.{slice, take-nil}
use borrow.Author.Tests.{eqb-true, eq-eqb, ne_eqb}
use Rattle.octets.specs.Sets.{between, is_letter, is_digit, is_blank, is_token, is_plain, is_escapable, is_target, is_hex}
use Rattle.octets.specs.Fold.{fold, folded, same, same_folded}
use Rattle.octets.proofs.Listed.{token_marks, target_marks, plain_marks}
use Rattle.octets.proofs.Octets.{Octets, both, within, or_octets, between_octets, one_octets, one_of_octets}

-- ---- a set against an octet that is not in it

pub not_eqb : (f : ℕ → Bool) (a c : ℕ) → f a ≡ false → f c ≡ true → eqb c a ≡ false
not_eqb f a c n y = ne_eqb c a (λ q. false≢true (sym n ∙ ap f (sym q) ∙ y))

-- ---- the sets hold octets only

pub token_octet : Octets is_token
unfolding is_token is_letter is_digit
token_octet =
    or_octets
    (or_octets
    (or_octets (between_octets 65 90 (omega arith)) (between_octets 97 122 (omega arith)))
    (between_octets 48 57 (omega arith)))
    (one_of_octets token_marks refl)

pub plain_octet : Octets is_plain
unfolding is_plain
plain_octet =
    or_octets
    (or_octets
    (or_octets (one_of_octets plain_marks refl) (between_octets 35 91 (omega arith)))
    (between_octets 93 126 (omega arith)))
    (between_octets 128 255 (omega arith))

pub escapable_octet : Octets is_escapable
unfolding is_escapable
escapable_octet =
    or_octets (or_octets (one_octets 9 (omega arith)) (between_octets 32 126 (omega arith)))
    (between_octets 128 255 (omega arith))

pub blank_octet : Octets is_blank
unfolding is_blank
blank_octet = one_of_octets (32 ∷ 9 ∷ []) refl

pub target_octet : Octets is_target
unfolding is_target is_letter is_digit
target_octet =
    or_octets
    (or_octets
    (or_octets (between_octets 65 90 (omega arith)) (between_octets 97 122 (omega arith)))
    (between_octets 48 57 (omega arith)))
    (one_of_octets target_marks refl)

pub hex_octet : Octets is_hex
unfolding is_hex is_digit
hex_octet =
    or_octets (or_octets (between_octets 48 57 (omega arith)) (between_octets 65 70 (omega arith)))
    (between_octets 97 102 (omega arith))

-- ---- the sets against each other

pub plain_escapable : (c : ℕ) → is_plain c ≡ true → is_escapable c ≡ true
unfolding is_plain is_escapable
plain_escapable = within is_plain is_escapable plain_octet refl

pub token_plain : (c : ℕ) → is_token c ≡ true → is_plain c ≡ true
unfolding is_token is_letter is_digit is_plain
token_plain = within is_token is_plain token_octet refl

-- only the quote and the backslash need a backslash
pub escapable_plain : (c : ℕ) → is_escapable c ≡ true → eqb c 34 ≡ false → eqb c 92 ≡ false → is_plain c ≡ true
unfolding is_plain is_escapable
escapable_plain c h q b =
    rw (q, b) at (within is_escapable (λ k. eqb k 34 || eqb k 92 || is_plain k) escapable_octet refl c h)

-- ---- folding

pub fold_token : (c : ℕ) → is_token c ≡ true → is_token (fold c) ≡ true
unfolding is_token is_letter is_digit fold
fold_token = within is_token (λ c. is_token (fold c)) token_octet refl

-- only A to Z change
pub fold_other : (c : ℕ) → between 65 90 c ≡ false → fold c ≡ c
unfolding fold
fold_other c e = rw e

pub fold_fold : (c : ℕ) → fold (fold c) ≡ fold c
unfolding fold
fold_fold c = go (between 65 90 c) refl
  where
    go : (b : Bool) → between 65 90 c ≡ b → fold (fold c) ≡ fold c
    go true e =
        eqb-true (fold (fold c)) (fold c)
        (within (between 65 90) (λ k. eqb (fold (fold k)) (fold k)) (between_octets 65 90 (omega arith)) refl c e)
    go false e = ap fold (fold_other c e)

pub fold_at : (n : List ℕ) (i : ℕ) → get_or (folded n) i 0 ≡ fold (get_or n i 0)
unfolding fold
fold_at n i = get_or-map fold n i 0

-- ---- comparison

pub same_sound : (x y : List ℕ) → same x y ≡ true → x ≡ y
same_sound [] [] h = refl
same_sound [] (d ∷ t) h = absurd (false≢true h)
same_sound (c ∷ s) [] h = absurd (false≢true h)
same_sound (c ∷ s) (d ∷ t) h =
    let p = both (eqb c d) (same s t) h in rw (eqb-true c d p.0, same_sound s t p.1)

pub same_refl : (x : List ℕ) → same x x ≡ true
same_refl [] = refl
same_refl (c ∷ s) = rw (eq-eqb c c refl, same_refl s)

pub same_false : (x y : List ℕ) → (x ≡ y → ⊥) → same x y ≡ false
same_false x y n = go (same x y) refl
  where
    go : (b : Bool) → same x y ≡ b → same x y ≡ false
    go true e = absurd (n (same_sound x y e))
    go false e = e

-- texts of different lengths are not the same
pub same_lengths : (x y : List ℕ) → (length x ≡ length y → ⊥) → same_folded x y ≡ false
unfolding same_folded
same_lengths x y n = same_false (folded x) (folded y) (λ q. n (sym (length-map x fold) ∙ ap length q ∙ length-map y fold))

-- ---- a part of a text, as the code takes it

pub slice_take_drop : (a b : ℕ) (l : List ℕ) → a ≤ b → slice a b l ≡ take (b - a) (drop a l)
slice_take_drop zero b l h = rw sub-zero
slice_take_drop (suc a) zero l h = absurd (not-suc-le-zero h)
slice_take_drop (suc a) (suc b) [] h = rw take-nil
slice_take_drop (suc a) (suc b) (x ∷ l) h = rw suc-sub-suc (slice_take_drop a b l (le_of_suc-le-suc h))
