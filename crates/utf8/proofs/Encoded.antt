-- A well-formed text encodes a list of numbers. Assumes nothing.
use Prim.Native.Nat.{ℕ, ◌+◌, ◌-◌, ◌*◌, ◌/◌, ◌≤◌, ◌<◌}
use native.Mathlib.Omega.{arith}
use mathlib.Core.Path.{◌≡◌}
use mathlib.Core.List.{List, [], ◌∷◌}
use mathlib.Core.Logic.{inl, inr}
use Rattle.rules.specs.Rule.{no_more, and_one, Derives}
use Rattle.utf8.specs.Sequences.{in_range, utf8_char, WellFormed}
use Rattle.utf8.specs.Numbers.{tail, in_one, in_two, in_three, in_four, IsCharacter, Encodes, EncodesAll, none}
use Rattle.utf8.specs.Numbers as numbers
use Rattle.utf8.proofs.Rows.{row, to, tails, each_row}
use Rattle.utf8.proofs.Forms.{at_least}

abbrev Encoded : List ℕ → Type 0
Encoded u = (n : ℕ) × Encodes n u

-- ---- octets that are a number's: what is left to be shown is arithmetic

record InTwo (n a b : ℕ) : Type 0 where
  character : IsCharacter n
  first : a ≡ 0xC0 + n / 0x40
  second : b ≡ tail n
  over : 0x80 ≤ n
  under : n < 0x800

record InThree (n a b c : ℕ) : Type 0 where
  character : IsCharacter n
  first : a ≡ 0xE0 + n / 0x1000
  second : b ≡ tail (n / 0x40)
  third : c ≡ tail n
  over : 0x800 ≤ n
  under : n < 0x10000

record InFour (n a b c d : ℕ) : Type 0 where
  character : IsCharacter n
  first : a ≡ 0xF0 + n / 0x40000
  second : b ≡ tail (n / 0x1000)
  third : c ≡ tail (n / 0x40)
  fourth : d ≡ tail n
  over : 0x10000 ≤ n

encodes_one : (n : ℕ) → n ≤ 0x7F → Encodes n (n ∷ [])
encodes_one n h =
    record {
      character = omega arith;
      count = 1;
      form = in_one (omega arith);
      shortest = λ k v f. omega (arith, at_least 1 n (omega arith) (omega arith) (omega arith) (omega arith) k v f);
    }

encodes_two : (n a b : ℕ) → InTwo n a b → Encodes n (a ∷ b ∷ [])
encodes_two n a b i =
    record {
      character = i.character;
      count = 2;
      form = rw (i.first, i.second) (in_two i.under);
      shortest = λ k v f. omega (arith, at_least 2 n (omega arith) (omega arith) (omega arith) (omega arith) k v f);
    }

encodes_three : (n a b c : ℕ) → InThree n a b c → Encodes n (a ∷ b ∷ c ∷ [])
encodes_three n a b c i =
    record {
      character = i.character;
      count = 3;
      form = rw (i.first, i.second, i.third) (in_three i.under);
      shortest = λ k v f. omega (arith, at_least 3 n (omega arith) (omega arith) (omega arith) (omega arith) k v f);
    }

encodes_four : (n a b c d : ℕ) → InFour n a b c d → Encodes n (a ∷ b ∷ c ∷ d ∷ [])
encodes_four n a b c d i =
    record {
      character = i.character;
      count = 4;
      form = rw (i.first, i.second, i.third, i.fourth) (in_four (omega arith));
      shortest = λ k v f. omega (arith, at_least 4 n (omega arith) (omega arith) (omega arith) (omega arith) k v f);
    }

-- ---- the number that octets make: what the marks of their lengths add is taken off

abbrev pub of_two : ℕ → ℕ → ℕ
of_two a b = a * 0x40 + b - 0x3080

abbrev pub of_three : ℕ → ℕ → ℕ → ℕ
of_three a b c = a * 0x1000 + b * 0x40 + c - 0xE2080

abbrev pub of_four : ℕ → ℕ → ℕ → ℕ → ℕ
of_four a b c d = a * 0x40000 + b * 0x1000 + c * 0x40 + d - 0x3C82080

-- ---- row by row

-- a row of so many octets: where what its ranges leave to be shown holds, its texts encode numbers
one : {p q : ℕ} (u : List ℕ) → Derives in_range (row (to p q) []) u → ((a : ℕ) → p ≤ a → a ≤ q → a ≤ 0x7F) → Encoded u
one {p} {q} u d f = each_row (to p q) [] Encoded (λ a l h. (a, encodes_one a (f a l h))) u d

two : {p q x y : ℕ} (u : List ℕ) → Derives in_range (row (to p q) (to x y ∷ [])) u
    → ((a : ℕ) → p ≤ a → a ≤ q → (b : ℕ) → x ≤ b → b ≤ y → InTwo (of_two a b) a b) → Encoded u
two {p} {q} {x} {y} u d f =
    each_row (to p q) (to x y ∷ []) Encoded (λ a l h b m k. (of_two a b, encodes_two _ a b (f a l h b m k))) u d

three : {p q x y : ℕ} (u : List ℕ) → Derives in_range (row (to p q) (to x y ∷ tails ∷ [])) u
    → ((a : ℕ) → p ≤ a → a ≤ q → (b : ℕ) → x ≤ b → b ≤ y → (c : ℕ) → 0x80 ≤ c → c ≤ 0xBF → InThree (of_three a b c) a b c) → Encoded u
three {p} {q} {x} {y} u d f =
    each_row (to p q) (to x y ∷ tails ∷ []) Encoded
    (λ a l h b m k c v w. (of_three a b c, encodes_three _ a b c (f a l h b m k c v w))) u d

four : {p q x y : ℕ} (u : List ℕ) → Derives in_range (row (to p q) (to x y ∷ tails ∷ tails ∷ [])) u
    → ((a : ℕ) → p ≤ a → a ≤ q → (b : ℕ) → x ≤ b → b ≤ y → (c : ℕ) → 0x80 ≤ c → c ≤ 0xBF → (d : ℕ) → 0x80 ≤ d → d ≤ 0xBF
    → InFour (of_four a b c d) a b c d)
    → Encoded u
four {p} {q} {x} {y} u e f =
    each_row (to p q) (to x y ∷ tails ∷ tails ∷ []) Encoded
    (λ a l h b m k c v w d i j. (of_four a b c d, encodes_four _ a b c d (f a l h b m k c v w d i j))) u e

char_encoded : (u : List ℕ) → Derives in_range utf8_char u → Encoded u
char_encoded u (inl d) = one u d (omega arith)
char_encoded u (inr (inl d)) = two u d (omega arith)
char_encoded u (inr (inr (inl (inl d)))) = three u d (omega arith)
char_encoded u (inr (inr (inl (inr (inl d))))) = three u d (omega arith)
char_encoded u (inr (inr (inl (inr (inr (inl d)))))) = three u d (omega arith)
char_encoded u (inr (inr (inl (inr (inr (inr d)))))) = three u d (omega arith)
char_encoded u (inr (inr (inr (inl d)))) = four u d (omega arith)
char_encoded u (inr (inr (inr (inr (inl d))))) = four u d (omega arith)
char_encoded u (inr (inr (inr (inr (inr d))))) = four u d (omega arith)

pub numbers_of_lem : {w : List ℕ} → WellFormed w → (ns : List ℕ) × EncodesAll ns w
numbers_of_lem (no_more e) = ([], rw e none)
numbers_of_lem (and_one {w} {u} {v} e p m) =
    let (n, first) = char_encoded u p in let (ns, all) = numbers_of_lem m in (n ∷ ns, rw e (numbers.and_one first all))
