-- The editions of the grammar: their numbers, and the octets in which they differ.
use Rattle.std.specs.Prelude.{ℕ, ◌≡◌, Bool, false, Option, Some, None}
use Rattle.octets.specs.Sets.{is_older}
use Rattle.octets.specs.declared.editions.Edition.{Edition}
use Rattle.octets.specs.declared.editions.Edition.TheVariants.{Rfc8288, Rfc5988}

-- 0 is RFC 8288's edition and 1 the older one
abbrev pub number_of : Edition → ℕ
number_of Rfc8288 = 0
number_of Rfc5988 = 1

-- the octets that a bare value may hold beside token octets
abbrev pub further : Edition → ℕ → Bool
further Rfc8288 c = false
further Rfc5988 c = is_older c

-- no edition has the number n
abbrev pub NoEdition : ℕ → Type 0
NoEdition n = (e : Edition) → number_of e ≡ n → ⊥

-- what the number n asks for
abbrev pub IsAsked : ℕ → Option Edition → Type 0
IsAsked n (Some e) = number_of e ≡ n
IsAsked n None = NoEdition n
