-- The ones that a sequence's first octet begins with tell how many octets it has: computed at each first octet of each row of the table.
-- Assumes nothing.
use Prim.Native.Nat.{ℕ, suc, ◌≤◌}
use native.Mathlib.Omega.{arith}
use mathlib.Core.Path.{◌≡◌, refl, ap}
use mathlib.Core.Bool.{Bool, true, ◌||◌}
use mathlib.Core.List.{List, [], ◌∷◌}
use mathlib.Core.Logic.{inl, inr}
use lib.Dec.{ltb, eqb}
use lib.ListN.{length}
use borrow.Author.Tests.{eqb-true, le-ltb}
use Rattle.octets.proofs.Octets.{every, every_at, unless_so}
use Rattle.rules.specs.Rule.{Derives}
use Rattle.utf8.specs.Sequences.{Range, in_range, utf8_char}
use Rattle.utf8.proofs.Rows.{to, tails, row, Each, each_row}
use Rattle.sequences.specs.Ones.{leading_ones, length_by}
use Rattle.sequences.specs.Laws.{OnesTell}

-- the first octet of u tells how many it has
abbrev Told : List ℕ → Type 0
Told [] = Unit
Told (c ∷ w) = length (c ∷ w) ≡ length_by (leading_ones c)

-- what holds of each text as long as a list of ranges holds of those with one octet of each range
each_long : (rs : List Range) (P : List ℕ → Type 0) → ((w : List ℕ) → length w ≡ length rs → P w) → Each rs P
each_long [] P f = f [] refl
each_long (r ∷ rs) P f = λ c l h. each_long rs (λ w. P (c ∷ w)) (λ w e. f (c ∷ w) (ap suc e))

-- c lies before the octets from a, or tells n octets
abbrev tells_from : ℕ → ℕ → ℕ → Bool
tells_from a n c = ltb c a || eqb n (length_by (leading_ones c))

tells : (a b n : ℕ) → every (tells_from a n) (suc b) ≡ true → (c : ℕ) → a ≤ c → c ≤ b → n ≡ length_by (leading_ones c)
tells a b n test c l h =
    eqb-true n (length_by (leading_ones c))
    (unless_so (ltb c a) (eqb n (length_by (leading_ones c))) (every_at (tells_from a n) (suc b) test c (omega arith)) (le-ltb c a l))

-- a row of the table, whose first octets pass the test
told : (r : Range) (rs : List Range) → every (tells_from r.from (suc (length rs))) (suc r.to) ≡ true → (u : List ℕ)
    → Derives in_range (row r rs) u → Told u
told r rs test u d =
    each_row r rs Told
    (λ c l h. each_long rs (λ w. Told (c ∷ w)) (λ w e. rw e (tells r.from r.to (suc (length rs)) test c l h)))
    u d

char_told : (u : List ℕ) → Derives in_range utf8_char u → Told u
unfolding leading_ones
char_told u (inl d) = told (to 0x00 0x7F) [] refl u d
char_told u (inr (inl d)) = told (to 0xC2 0xDF) (tails ∷ []) refl u d
char_told u (inr (inr (inl (inl d)))) = told (to 0xE0 0xE0) (to 0xA0 0xBF ∷ tails ∷ []) refl u d
char_told u (inr (inr (inl (inr (inl d))))) = told (to 0xE1 0xEC) (tails ∷ tails ∷ []) refl u d
char_told u (inr (inr (inl (inr (inr (inl d)))))) = told (to 0xED 0xED) (to 0x80 0x9F ∷ tails ∷ []) refl u d
char_told u (inr (inr (inl (inr (inr (inr d)))))) = told (to 0xEE 0xEF) (tails ∷ tails ∷ []) refl u d
char_told u (inr (inr (inr (inl d)))) = told (to 0xF0 0xF0) (to 0x90 0xBF ∷ tails ∷ tails ∷ []) refl u d
char_told u (inr (inr (inr (inr (inl d))))) = told (to 0xF1 0xF3) (tails ∷ tails ∷ tails ∷ []) refl u d
char_told u (inr (inr (inr (inr (inr d))))) = told (to 0xF4 0xF4) (to 0x80 0x8F ∷ tails ∷ tails ∷ []) refl u d

pub ones_tell : OnesTell
ones_tell = record { octets = λ c w d. char_told (c ∷ w) d }
