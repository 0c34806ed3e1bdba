-- Octets by kinds: two octets of one kind are in the same sets of the grammar, so that one of each kind stands for all. Assumes nothing.
use Prim.Native.Nat.{ℕ}
use mathlib.Core.Path.{◌≡◌, refl, sym, ap, ◌∙◌}
use mathlib.Core.Bool.{Bool, true, false, cond, ◌||◌, false≢true}
use mathlib.Core.List.{List, [], ◌∷◌}
use mathlib.Core.Logic.{inl, inr, ⊎_elim}
use lib.Dec.{eqb, leb, ltb}
use borrow.Author.Tests.{eqb-true, ltb-true, lt-ltb}
use Rattle.octets.specs.Text.{octets}
use Rattle.octets.specs.Sets.{between, one_of}
use Rattle.octets.proofs.Octets.{Octets as OctetsOnly, every, every_at, agree, agreed}
use Rattle.rules.proofs.Lefts.{either}
use Rattle.rules.proofs.Search.{Among}
use Rattle.references.proofs.SetOctets.{has_octets}
use Rattle.references.specs.Octets.{Octets, letter, digit, has}
use Rattle.references.specs.Octets.{ALPHA, DIGIT, HEXDIG, unreserved, sub_delims, colon, slash, question, hash, bracket, end_bracket, at}
use Rattle.references.specs.Octets.{percent, dot, plus, hyphen, vee, from_1_to_9, from_0_to_4, from_0_to_5, digit_1, digit_2, digit_5}

-- one octet of each kind; the last is of none of the sets
abbrev pub samples : List ℕ
samples = octets "012356avg+-._!:/?#[]@% "

-- the one that stands for c
abbrev pub sample : ℕ → ℕ
sample c =
    cond (ltb c 256)
    (cond (digit c) (cond (leb 54 c) 54 (cond (leb 51 c) (cond (eqb c 53) 53 51) c))
    (cond (letter c) (cond (between 65 70 c || between 97 102 c) 97 (cond (one_of (octets "vV") c) 118 103))
    (cond (one_of (octets "+-.:/?#[]@%") c) c (cond (one_of (octets "_~") c) 95 (cond (one_of (octets "!$&'()*,;=") c) 33 32)))))
    32

one_of_among : (xs : List ℕ) (c : ℕ) → one_of xs c ≡ true → Among c xs
one_of_among [] c e = absurd (false≢true e)
one_of_among (x ∷ xs) c e =
    ⊎_elim (λ h. inl (eqb-true c x h)) (λ h. inr (one_of_among xs c h)) (either (eqb c x) (one_of xs c) e)

pub sampled : (c : ℕ) → Among (sample c) samples
sampled c = go (ltb c 256) refl
  where
    go : (b : Bool) → ltb c 256 ≡ b → Among (sample c) samples
    go true e = one_of_among samples (sample c) (every_at (λ k. one_of samples (sample k)) 256 refl c (ltb-true c 256 e))
    go false e = rw e (one_of_among samples 32 refl)

-- ---- octets of one kind

-- a set of octets, of which it is computed that each octet is in it just if the one that stands for it is
as_sampled : (g : ℕ → Bool) → OctetsOnly g → g 32 ≡ false → every (λ c. agree (g c) (g (sample c))) 256 ≡ true → (c : ℕ)
    → g c ≡ g (sample c)
as_sampled g o none test c = go (ltb c 256) refl (g c) refl
  where
    go : (b : Bool) → ltb c 256 ≡ b → (x : Bool) → g c ≡ x → g c ≡ g (sample c)
    go true e x h = agreed (g c) (g (sample c)) (every_at (λ k. agree (g k) (g (sample k))) 256 test c (ltb-true c 256 e))
    go false e true h = absurd (false≢true (sym e ∙ lt-ltb c 256 (o c h)))
    go false e false h = h ∙ sym none ∙ ap g (sym (rw e))

pub has_alike : (f : Octets) (c : ℕ) → has f c ≡ has f (sample c)
has_alike ALPHA = as_sampled (has ALPHA) (has_octets ALPHA) refl refl
has_alike DIGIT = as_sampled (has DIGIT) (has_octets DIGIT) refl refl
has_alike HEXDIG = as_sampled (has HEXDIG) (has_octets HEXDIG) refl refl
has_alike unreserved = as_sampled (has unreserved) (has_octets unreserved) refl refl
has_alike sub_delims = as_sampled (has sub_delims) (has_octets sub_delims) refl refl
has_alike colon = as_sampled (has colon) (has_octets colon) refl refl
has_alike slash = as_sampled (has slash) (has_octets slash) refl refl
has_alike question = as_sampled (has question) (has_octets question) refl refl
has_alike hash = as_sampled (has hash) (has_octets hash) refl refl
has_alike bracket = as_sampled (has bracket) (has_octets bracket) refl refl
has_alike end_bracket = as_sampled (has end_bracket) (has_octets end_bracket) refl refl
has_alike at = as_sampled (has at) (has_octets at) refl refl
has_alike percent = as_sampled (has percent) (has_octets percent) refl refl
has_alike dot = as_sampled (has dot) (has_octets dot) refl refl
has_alike plus = as_sampled (has plus) (has_octets plus) refl refl
has_alike hyphen = as_sampled (has hyphen) (has_octets hyphen) refl refl
has_alike vee = as_sampled (has vee) (has_octets vee) refl refl
has_alike from_1_to_9 = as_sampled (has from_1_to_9) (has_octets from_1_to_9) refl refl
has_alike from_0_to_4 = as_sampled (has from_0_to_4) (has_octets from_0_to_4) refl refl
has_alike from_0_to_5 = as_sampled (has from_0_to_5) (has_octets from_0_to_5) refl refl
has_alike digit_1 = as_sampled (has digit_1) (has_octets digit_1) refl refl
has_alike digit_2 = as_sampled (has digit_2) (has_octets digit_2) refl refl
has_alike digit_5 = as_sampled (has digit_5) (has_octets digit_5) refl refl
