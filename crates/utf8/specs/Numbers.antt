-- What UTF-8 is for: a text that encodes a list of numbers (RFC 3629 section 3).
use Rattle.std.specs.Prelude.{ℕ, ◌+◌, ◌/◌, ◌%◌, ◌≤◌, ◌<◌, List, [], ◌∷◌, ◌++◌}

-- an octet that holds the six lowest bits of n
abbrev pub tail : ℕ → ℕ
tail n = 0x80 + n % 0x40

-- the number n in k octets, of which the first says how many there are: 7 bits fit one, 11 two, 16 three and 21 four
pub data InOctets (n : ℕ) : ℕ → List ℕ → Type 0 where
  in_one : n < 0x80 → InOctets n 1 (n ∷ [])
  in_two : n < 0x800 → InOctets n 2 ((0xC0 + n / 0x40) ∷ tail n ∷ [])
  in_three : n < 0x10000 → InOctets n 3 ((0xE0 + n / 0x1000) ∷ tail (n / 0x40) ∷ tail n ∷ [])
  in_four : n < 0x200000 → InOctets n 4 ((0xF0 + n / 0x40000) ∷ tail (n / 0x1000) ∷ tail (n / 0x40) ∷ tail n ∷ [])

-- n is a character's number: none from D800 to DFFF hex, and none over 10FFFF hex
pub record IsCharacter (n : ℕ) : Type 0 where
  pub no_surrogate : 0xD800 ≤ n → n ≤ 0xDFFF → ⊥
  pub at_most : n ≤ 0x10FFFF

-- u is the shortest form of a character's number n: it is a form, and none has fewer octets
pub record Encodes (n : ℕ) (u : List ℕ) : Type 0 where
  pub character : IsCharacter n
  pub count : ℕ
  pub form : InOctets n count u
  pub shortest : (k : ℕ) (v : List ℕ) → InOctets n k v → count ≤ k

-- a text encodes a list of numbers: their shortest forms, one behind another
pub data EncodesAll : List ℕ → List ℕ → Type 0 where
  none : EncodesAll [] []
  and_one : {n : ℕ} {u : List ℕ} {ns w : List ℕ} → Encodes n u → EncodesAll ns w → EncodesAll (n ∷ ns) (u ++ w)
