-- What has been seen tells which of the names kept once stood earlier.
use Prim.Native.Nat.{ℕ, ◌%◌, ◌^◌, ◌<◌}
use native.Mathlib.Omega.{arith}
use mathlib.Core.Path.{◌≡◌, refl, sym, ap, ◌∙◌}
use mathlib.Core.Bool.{Bool, true, false, not, ◌&&◌, ◌||◌, false≢true, and-false, or-false, or_comm}
use mathlib.Core.List.{List, [], ◌∷◌}
use lib.Bits.{bit_and, or_zero_r}
use lib.Dec.{eqb, ltb}
use borrow.Author.Tests.{eqb-true, eqb-false, ltb-true, ne_eqb}
use Rattle.octets.specs.Fold.{same}
use Rattle.octets.proofs.Octets.{both, every, every_at, only_if, unless_so, agree, agreed, between_bounds}
use Rattle.grammar.specs.Kept.{among, code_of, once_code, is_once}
use Rattle.grammar.proofs.Codes.{code_bound, code_same, code_other}
use Rattle.names.specs.Remembers.{none_seen, has_code, with_code, once_bits, Remembers}
use Rattle.names.specs.declared.Seen.{Seen}

-- codes are below 32, the count of the bits
small : (n : List ℕ) → code_of n < 32
small n = omega (arith, code_bound n)

abbrev seen : ℕ → Seen
seen m = record { marks = m }

-- ---- what holds of every mark and every code, by one test that is computed at each

-- a code that is not kept once leaves no mark
no_mark : (x : Seen) (c : ℕ) → c < 32 → once_code c ≡ false → (with_code x c).marks ≡ x.marks
unfolding with_code
no_mark x c l o =
    rw (eqb-true (bit_and (2 ^ (c % 32)) 126) 0
    (unless_so (once_code c) (eqb (bit_and (2 ^ (c % 32)) 126) 0)
    (every_at (λ d. once_code d || eqb (bit_and (2 ^ (d % 32)) 126) 0) 32 refl c l) o))
    (or_zero_r x.marks)

-- no other bit but of a code kept once is asked
module _ (x : Seen) (f : once_bits x.marks ≡ true) where
  marks_small : x.marks < 128
  marks_small = ltb-true x.marks 128 (both (ltb x.marks 128) (eqb (x.marks % 2) 0) f).0

  has_no_other : (k : ℕ) → k < 32 → once_code k ≡ false → has_code x k ≡ false
  unfolding has_code
  has_no_other k l o =
      agreed (has_code x k) false
      (unless_so (once_code k) (agree (has_code x k) false)
      (every_at (λ j. once_code j || agree (has_code x j) false) 32
      (only_if (once_bits x.marks) (every (λ j. once_code j || agree (has_code x j) false) 32)
      (every_at (λ m. not (once_bits m) || every (λ j. once_code j || agree (has_code (seen m) j) false) 32) 128 refl x.marks marks_small)
      f)
      k l)
      o)

  -- a code that is kept once leaves its own mark, and no other
  module _ (c : ℕ) (o : once_code c ≡ true) where
    code_small : c < 7
    code_small = omega (arith, (between_bounds 1 6 c o).1)

    abbrev marked : ℕ → ℕ → Bool
    marked m d =
        once_bits (with_code (seen m) d).marks
        && every (λ k. not (once_code k) || agree (has_code (with_code (seen m) d) k) (has_code (seen m) k || eqb d k)) 7

    mark : marked x.marks c ≡ true
    unfolding has_code with_code
    mark =
        only_if (once_code c) (marked x.marks c)
        (every_at (λ d. not (once_code d) || marked x.marks d) 7
        (only_if (once_bits x.marks) (every (λ d. not (once_code d) || marked x.marks d) 7)
        (every_at (λ m. not (once_bits m) || every (λ d. not (once_code d) || marked m d) 7) 128 refl x.marks marks_small) f)
        c code_small)
        o

    mark_fits : once_bits (with_code x c).marks ≡ true
    mark_fits = (both (once_bits (with_code x c).marks) _ mark).0

    has_mark : (k : ℕ) → once_code k ≡ true → has_code (with_code x c) k ≡ (has_code x k || eqb c k)
    has_mark k q =
        agreed (has_code (with_code x c) k) (has_code x k || eqb c k)
        (only_if (once_code k) (agree (has_code (with_code x c) k) (has_code x k || eqb c k))
        (every_at (λ j. not (once_code j) || agree (has_code (with_code x c) j) (has_code x j || eqb c j)) 7
        (both (once_bits (with_code x c).marks) _ mark).1 k (omega (arith, (between_bounds 1 6 k q).1)))
        q)

-- ---- names by their codes

-- the code of n is that of a known name, m, just if n is m
same_told : (m n : List ℕ) → (code_of m ≡ 0 → ⊥) → eqb (code_of n) (code_of m) ≡ same m n
same_told m n o = go (eqb (code_of n) (code_of m)) refl
  where
    go : (b : Bool) → eqb (code_of n) (code_of m) ≡ b → eqb (code_of n) (code_of m) ≡ same m n
    go true e = rw (e, code_same m n o (sym (eqb-true (code_of n) (code_of m) e)))
    go false e = rw (e, code_other m n (λ q. eqb-false (code_of n) (code_of m) e (sym q)))

-- what holds of the marks behind a name of code c, kept once or not
fits_with : (x : Seen) → once_bits x.marks ≡ true → (c : ℕ) → c < 32 → once_bits (with_code x c).marks ≡ true
fits_with x f c l = go (once_code c) refl
  where
    go : (b : Bool) → once_code c ≡ b → once_bits (with_code x c).marks ≡ true
    go true o = mark_fits x f c o
    go false o = rw (no_mark x c l o) f

has_with : (x : Seen) → once_bits x.marks ≡ true → (c : ℕ) → c < 32 → (k : ℕ) → once_code k ≡ true
    → has_code (with_code x c) k ≡ (has_code x k || eqb c k)
unfolding has_code
has_with x f c l k q = go (once_code c) refl
  where
    go : (b : Bool) → once_code c ≡ b → has_code (with_code x c) k ≡ (has_code x k || eqb c k)
    go true o = has_mark x f c o k q
    go false o =
        rw (no_mark x c l o, ne_eqb c k (λ e. false≢true (sym o ∙ ap once_code e ∙ q)))
        (sym (or-false (has_code x k)))

-- at the start of a link
pub nothing_seen : {r : Seen} → r ≡ none_seen → Remembers r []
unfolding none_seen has_code
nothing_seen q =
    record {
      fits = rw q refl;
      tells = λ n. rw (q, and-false) (agreed (has_code none_seen (code_of n)) false (every_at (λ j. agree (has_code none_seen j) false) 32 refl (code_of n) (small n)));
    }

module _ {x : Seen} {earlier : List (List ℕ)} (h : Remembers x earlier) (n : List ℕ) {c : ℕ} (q : c ≡ code_of n) where
  -- the answer to a name's code is the answer to the name
  pub has_told : {r : Bool} → r ≡ has_code x c → r ≡ (is_once n && among earlier n)
  has_told e = e ∙ ap (has_code x) q ∙ h.tells n

  -- behind one more name
  pub seen_with : {r : Seen} → r ≡ with_code x c → Remembers r (n ∷ earlier)
  unfolding is_once
  seen_with e =
      record {
        fits = rw (e, q) (fits_with x h.fits (code_of n) (small n));
        tells = λ m. rw (e, q) (go m (once_code (code_of m)) refl);
      }
    where
      go : (m : List ℕ) (b : Bool) → once_code (code_of m) ≡ b
          → has_code (with_code x (code_of n)) (code_of m) ≡ (is_once m && among (n ∷ earlier) m)
      go m false o =
          rw (has_no_other (with_code x (code_of n)) (fits_with x h.fits (code_of n) (small n)) (code_of m) (small m) o, o)
      go m true o =
          rw (has_with x h.fits (code_of n) (small n) (code_of m) o, h.tells m, same_told m n (λ z. false≢true (sym (ap once_code z) ∙ o)), o)
          (or_comm (among earlier m) (same m n))
