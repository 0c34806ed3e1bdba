-- A text that encodes numbers is well formed. Assumes nothing.
use Prim.Native.Nat.{ℕ, ◌+◌, ◌/◌, ◌≤◌, ◌<◌}
use native.Mathlib.Omega.{arith}
use mathlib.Core.Path.{◌≡◌, refl}
use mathlib.Core.Bool.{Bool, true, false}
use mathlib.Core.List.{List, [], ◌∷◌}
use mathlib.Core.Logic.{inl, inr}
use lib.Dec.{ltb}
use borrow.Author.Tests.{ltb-true, ltb-false}
use Rattle.rules.specs.Rule.{no_more, and_one, Derives}
use Rattle.utf8.specs.Sequences.{in_range, utf8_2, utf8_3, utf8_4, utf8_char, WellFormed}
use Rattle.utf8.specs.Numbers.{tail, InOctets, in_one, in_two, in_three, in_four, IsCharacter, EncodesAll, none}
use Rattle.utf8.specs.Numbers as numbers
use Rattle.utf8.proofs.Rows.{fits_row}
use Rattle.utf8.proofs.Forms.{not_in_one, not_in_two, not_in_three}

formed_2 : (n : ℕ) → 0x80 ≤ n → n < 0x800 → Derives in_range utf8_2 ((0xC0 + n / 0x40) ∷ tail n ∷ [])
formed_2 n l h = fits_row _ (_ ∷ []) _ (omega arith)

-- which row a number of three octets is in
formed_3 : (n : ℕ) → IsCharacter n → 0x800 ≤ n → n < 0x10000
    → Derives in_range utf8_3 ((0xE0 + n / 0x1000) ∷ tail (n / 0x40) ∷ tail n ∷ [])
formed_3 n i l h = go (ltb n 0x1000) refl (ltb n 0xD000) refl (ltb n 0xD800) refl
  where
    go : (x : Bool) → ltb n 0x1000 ≡ x → (y : Bool) → ltb n 0xD000 ≡ y → (z : Bool) → ltb n 0xD800 ≡ z
        → Derives in_range utf8_3 ((0xE0 + n / 0x1000) ∷ tail (n / 0x40) ∷ tail n ∷ [])
    go true p y q z r =
        let below = ltb-true n 0x1000 p in inl (fits_row _ (_ ∷ _ ∷ []) _ (omega arith))
    go false p true q z r =
        let above = ltb-false n 0x1000 p in
        let below = ltb-true n 0xD000 q in
        inr (inl (fits_row _ (_ ∷ _ ∷ []) _ (omega arith)))
    go false p false q true r =
        let above = ltb-false n 0xD000 q in
        let below = ltb-true n 0xD800 r in
        inr (inr (inl (fits_row _ (_ ∷ _ ∷ []) _ (omega arith))))
    go false p false q false r =
        let no_surrogate : n ≤ 0xDFFF → ⊥ = i.no_surrogate (ltb-false n 0xD800 r) in
        let above : 0xE000 ≤ n = omega arith in
        inr (inr (inr (fits_row _ (_ ∷ _ ∷ []) _ (omega arith))))

-- and one of four
formed_4 : (n : ℕ) → IsCharacter n → 0x10000 ≤ n
    → Derives in_range utf8_4 ((0xF0 + n / 0x40000) ∷ tail (n / 0x1000) ∷ tail (n / 0x40) ∷ tail n ∷ [])
formed_4 n i l = go (ltb n 0x40000) refl (ltb n 0x100000) refl
  where
    go : (x : Bool) → ltb n 0x40000 ≡ x → (y : Bool) → ltb n 0x100000 ≡ y
        → Derives in_range utf8_4 ((0xF0 + n / 0x40000) ∷ tail (n / 0x1000) ∷ tail (n / 0x40) ∷ tail n ∷ [])
    go true p y q =
        let below = ltb-true n 0x40000 p in inl (fits_row _ (_ ∷ _ ∷ _ ∷ []) _ (omega arith))
    go false p true q =
        let above = ltb-false n 0x40000 p in
        let below = ltb-true n 0x100000 q in
        inr (inl (fits_row _ (_ ∷ _ ∷ _ ∷ []) _ (omega arith)))
    go false p false q =
        let above = ltb-false n 0x100000 q in
        let below = i.at_most in
        inr (inr (fits_row _ (_ ∷ _ ∷ _ ∷ []) _ (omega arith)))

char_formed : (n : ℕ) → IsCharacter n → (j : ℕ) (u : List ℕ) → InOctets n j u
    → ((k : ℕ) (v : List ℕ) → InOctets n k v → j ≤ k) → Derives in_range utf8_char u
char_formed n i j u (in_one h) s = inl (fits_row _ [] _ (omega arith))
char_formed n i j u (in_two h) s = inr (inl (formed_2 n (not_in_one 2 n s (omega arith)) h))
char_formed n i j u (in_three h) s = inr (inr (inl (formed_3 n i (not_in_two 3 n s (omega arith)) h)))
char_formed n i j u (in_four h) s = inr (inr (inr (formed_4 n i (not_in_three 4 n s (omega arith)))))

pub formed : {ns w : List ℕ} → EncodesAll ns w → WellFormed w
formed none = no_more refl
formed (numbers.and_one {n} {u} {ns} {w} e all) =
    and_one {u = u} {v = w} refl (char_formed n e.character e.count u e.form e.shortest) (formed all)
