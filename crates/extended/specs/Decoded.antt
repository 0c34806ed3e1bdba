-- An extended value tried octet by octet: whether it is right, and what it gives, is computed (law `DecodedExact`).
use Rattle.std.specs.Prelude.{ℕ, Bool, cond, List, [], ◌∷◌, eqb}
use Rattle.std.proofs.Math.Option.{Option, none, some}
use Rattle.octets.specs.Text.{octets}
use Rattle.octets.specs.Sets.{is_hex}
use Rattle.octets.specs.Fold.{fold}
use Rattle.rules.specs.Left.{matches}
use Rattle.utf8.specs.Sequences.{utf8_octets, in_range}
use Rattle.extended.specs.Value.{quote, percent, is_language, is_attribute, tripled}

-- what stands behind the octets p, compared folded
abbrev pub behind_folded : List ℕ → List ℕ → Option (List ℕ)
behind_folded [] w = some w
behind_folded (x ∷ p) [] = none
behind_folded (x ∷ p) (c ∷ w) = cond (eqb (fold c) x) (behind_folded p w) none

-- the charset and the `'` behind it, folded
abbrev pub charset_part : List ℕ
charset_part = octets "utf-8'"

-- what stands behind a language and its `'`
abbrev pub behind_language : List ℕ → Option (List ℕ)
behind_language [] = none
behind_language (c ∷ w) = cond (eqb c quote) (some w) (cond (is_language c) (behind_language w) none)

-- go on with what is left, if something is
abbrev pub bind : {A B : Type 0} → Option A → (A → Option B) → Option B
bind none f = none
bind (some w) f = f w

-- what stands behind the charset, the language and their quotes
abbrev pub value_chars : List ℕ → Option (List ℕ)
value_chars w = bind (behind_folded charset_part w) behind_language

-- what is open of a triple: none of it, its `%`, or that and a first digit
pub data Open : Type 0 where
  no_triple behind_percent : Open
  behind_digit : ℕ → Open

-- the octet c before what is given
abbrev pub add : ℕ → Option (List ℕ) → Option (List ℕ)
add c none = none
add c (some v) = some (c ∷ v)

-- the octets that attribute characters and triples give, if there is nothing else
abbrev pub given_from : Open → List ℕ → Option (List ℕ)
given_from no_triple [] = some []
given_from behind_percent [] = none
given_from (behind_digit a) [] = none
given_from no_triple (c ∷ w) =
    cond (eqb c percent) (given_from behind_percent w) (cond (is_attribute c) (add c (given_from no_triple w)) none)
given_from behind_percent (a ∷ w) = cond (is_hex a) (given_from (behind_digit a) w) none
given_from (behind_digit a) (b ∷ w) = cond (is_hex b) (add (tripled a b) (given_from no_triple w)) none

abbrev pub given : List ℕ → Option (List ℕ)
given w = given_from no_triple w

-- octets that are well-formed UTF-8
abbrev pub judged : List ℕ → Option (List ℕ)
judged v = cond (matches in_range utf8_octets v) (some v) none

-- the octets that the extended value w gives, if it is right
unfoldable pub decoded : List ℕ → Option (List ℕ)
decoded w = bind (bind (value_chars w) given) judged
