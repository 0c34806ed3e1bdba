-- An extended value, as `title*` has one (RFC 8187), and the octets that it gives.
use Rattle.std.specs.Prelude.{ℕ, ◌+◌, ◌-◌, ◌*◌, ◌≡◌, Bool, true, cond, not, ◌&&◌, ◌||◌, List, [], ◌∷◌, ◌++◌, eqb}
use Rattle.octets.specs.Text.{octets}
use Rattle.octets.specs.Sets.{between, one_of, all, is_letter, is_digit, is_token, is_hex}
use Rattle.octets.specs.Fold.{same_folded}
use Rattle.utf8.specs.Sequences.{WellFormed}

-- `'` and `%`
abbrev pub quote : ℕ
quote = 39

abbrev pub percent : ℕ
percent = 37

-- an octet of a language: a letter, a digit or a hyphen
unfoldable pub is_language : ℕ → Bool
unfolding is_letter is_digit
is_language c = is_letter c || is_digit c || eqb c 45

-- an attribute character: a token octet, but none of `*`, `'` and `%`
unfoldable pub is_attribute : ℕ → Bool
is_attribute c = is_token c && not (one_of (octets "*'%") c)

-- the number of a hex digit of either case
unfoldable pub hex_value : ℕ → ℕ
unfolding is_digit
hex_value c = cond (is_digit c) (c - 48) (cond (between 65 70 c) (c - 55) (c - 87))

-- the octet that a triple gives, by its two digits
abbrev pub tripled : ℕ → ℕ → ℕ
tripled a b = 16 * hex_value a + hex_value b

-- attribute characters and triples, and the octets that they give: an attribute character itself, and a triple one octet
pub data Gives : List ℕ → List ℕ → Type 0 where
  nothing : Gives [] []
  plain : {c : ℕ} {w v : List ℕ} → is_attribute c ≡ true → Gives w v → Gives (c ∷ w) (c ∷ v)
  triple : {a b : ℕ} {w v : List ℕ} → is_hex a ≡ true → is_hex b ≡ true → Gives w v → Gives (percent ∷ a ∷ b ∷ w) (tripled a b ∷ v)

-- w is a right extended value, and gives the octets v: the charset `UTF-8` in any case, `'`, a language, which may be empty, `'`, and
-- attribute characters and triples that give well-formed UTF-8
pub record Extended (w v : List ℕ) : Type 0 where
  pub charset : List ℕ
  pub language : List ℕ
  pub chars : List ℕ
  pub whole : w ≡ charset ++ quote ∷ (language ++ quote ∷ chars)
  pub utf_8 : same_folded charset (octets "UTF-8") ≡ true
  pub in_language : all is_language language ≡ true
  pub gives : Gives chars v
  pub well_formed : WellFormed v

-- w is no right extended value
abbrev pub Wrong : List ℕ → Type 0
Wrong w = (v : List ℕ) → Extended w v → ⊥
