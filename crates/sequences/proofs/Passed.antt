-- Nothing is awaited behind a well-formed text: each of its sequences is passed. Assumes nothing.
use Prim.Native.Nat.{ℕ, zero, suc, ◌<◌}
use native.Mathlib.Omega.{arith}
use mathlib.Core.Path.{◌≡◌, refl, ap, ◌∙◌}
use mathlib.Core.Bool.{true, not, ◌||◌}
use mathlib.Core.List.{List, ◌∷◌, ◌++◌}
use mathlib.Core.Logic.{inl, inr}
use Rattle.octets.specs.Sets.{between}
use Rattle.octets.proofs.Octets.{every, within, between_octets}
use Rattle.rules.specs.Rule.{◌then◌, no_more, and_one, Derives}
use Rattle.utf8.specs.Sequences.{in_range, range, utf8_char, WellFormed}
use Rattle.sequences.specs.declared.Awaited.{Awaited}
use Rattle.sequences.specs.Awaited.{awaits, tails, nothing, behind_first, behind, complete}
use Rattle.sequences.proofs.ByLength.{same_awaited, same_awaited_lem}
use Rattle.sequences.proofs.AsRule.{awaited}

-- one octet is passed
pass : (t s : Awaited) (c : ℕ) (v : List ℕ) → behind t c ≡ s → complete t (c ∷ v) ≡ complete s v
pass t s c v e = ap (λ x. complete x v) e

behind_next : (n a b c : ℕ) → between a b c ≡ true → behind (awaits (suc n) a b) c ≡ tails n
unfolding behind
behind_next n a b c e = rw e refl

-- octets that are awaited are passed
passes : (n a b : ℕ) (u v : List ℕ) → Derives in_range (awaited (suc n) a b) u
    → complete (awaits (suc n) a b) (u ++ v) ≡ complete nothing v
passes zero a b u v d =
    rw d.is (pass (awaits 1 a b) nothing d.octet v (behind_next 0 a b d.octet d.inside))
passes (suc n) a b u v d =
    rw (d.whole, d.first.is)
    (pass (awaits (suc (suc n)) a b) (tails (suc n)) d.first.octet (d.right ++ v)
    (behind_next (suc n) a b d.first.octet d.first.inside)
    ∙ passes n 0x80 0xBF d.right v d.second)

-- a row of the table: what is awaited behind its first octet, for each that it may be
row : (x y n a b : ℕ) → y < 256
    → every (λ c. not (between x y c) || same_awaited (behind_first c) (awaits (suc n) a b)) 256 ≡ true
    → (u v : List ℕ) → Derives in_range (range x y then awaited (suc n) a b) u → complete nothing (u ++ v) ≡ complete nothing v
unfolding behind
row x y n a b l test u v d =
    let begun : behind_first d.first.octet ≡ awaits (suc n) a b =
    same_awaited_lem (behind_first d.first.octet) (awaits (suc n) a b)
    (within (between x y) (λ c. same_awaited (behind_first c) (awaits (suc n) a b)) (between_octets x y l) test d.first.octet
    d.first.inside)
    in
    rw (d.whole, d.first.is)
    (pass nothing (awaits (suc n) a b) d.first.octet (d.right ++ v) begun ∙ passes n a b d.right v d.second)

char_passes : (u v : List ℕ) → Derives in_range utf8_char u → complete nothing (u ++ v) ≡ complete nothing v
unfolding behind behind_first
char_passes u v (inl d) = rw d.is (pass nothing nothing d.octet v (rw d.inside refl))
char_passes u v (inr (inl d)) = row 0xC2 0xDF 0 0x80 0xBF (omega arith) refl u v d
char_passes u v (inr (inr (inl (inl d)))) = row 0xE0 0xE0 1 0xA0 0xBF (omega arith) refl u v d
char_passes u v (inr (inr (inl (inr (inl d))))) = row 0xE1 0xEC 1 0x80 0xBF (omega arith) refl u v d
char_passes u v (inr (inr (inl (inr (inr (inl d)))))) = row 0xED 0xED 1 0x80 0x9F (omega arith) refl u v d
char_passes u v (inr (inr (inl (inr (inr (inr d)))))) = row 0xEE 0xEF 1 0x80 0xBF (omega arith) refl u v d
char_passes u v (inr (inr (inr (inl d)))) = row 0xF0 0xF0 2 0x90 0xBF (omega arith) refl u v d
char_passes u v (inr (inr (inr (inr (inl d))))) = row 0xF1 0xF3 2 0x80 0xBF (omega arith) refl u v d
char_passes u v (inr (inr (inr (inr (inr d))))) = row 0xF4 0xF4 2 0x80 0x8F (omega arith) refl u v d

pub well_formed_complete : {w : List ℕ} → WellFormed w → complete nothing w ≡ true
well_formed_complete (no_more e) = rw e refl
well_formed_complete (and_one {w} {u} {v} e p m) = rw e (char_passes u v p ∙ well_formed_complete m)
