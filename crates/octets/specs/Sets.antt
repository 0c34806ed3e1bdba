-- The sets of octets that the grammar names, each as a test.
use Rattle.std.specs.Prelude.{ℕ, Bool, true, false, ◌&&◌, ◌||◌, List, [], ◌∷◌, leb, eqb}
use Rattle.octets.specs.Text.{octets}

-- c is one of the octets from a to b, both included
abbrev pub between : ℕ → ℕ → ℕ → Bool
between a b c = leb a c && leb c b

-- an octet is a number from 0 to 255
abbrev pub is_octet : ℕ → Bool
is_octet c = leb c 255

-- c is one of the octets listed
abbrev pub one_of : List ℕ → ℕ → Bool
one_of [] c = false
one_of (x ∷ xs) c = eqb c x || one_of xs c

-- every octet of a text is in the set f
abbrev pub all : (ℕ → Bool) → List ℕ → Bool
all f [] = true
all f (c ∷ s) = f c && all f s

unfoldable pub is_letter : ℕ → Bool
is_letter c = between 65 90 c || between 97 122 c

unfoldable pub is_digit : ℕ → Bool
is_digit c = between 48 57 c

-- SP or HTAB: what OWS and BWS are made of
unfoldable pub is_blank : ℕ → Bool
is_blank c = one_of (32 ∷ 9 ∷ []) c

-- an octet of a token, and so of a name
unfoldable pub is_token : ℕ → Bool
unfolding is_letter is_digit
is_token c = is_letter c || is_digit c || one_of (octets "!#$%&'*+-.^_`|~") c

-- an octet that stands for itself in a quoted string
unfoldable pub is_plain : ℕ → Bool
is_plain c = one_of (9 ∷ 32 ∷ 33 ∷ []) c || between 35 91 c || between 93 126 c || between 128 255 c

-- an octet that may follow a backslash in a quoted string
unfoldable pub is_escapable : ℕ → Bool
is_escapable c = eqb c 9 || between 32 126 c || between 128 255 c

-- an octet that stands for itself in a target (`%` begins a triple and is not among them)
unfoldable pub is_target : ℕ → Bool
unfolding is_letter is_digit
is_target c = is_letter c || is_digit c || one_of (octets "-._~:/?#[]@!$&'()*+,;=") c

-- what RFC 5988's ptoken has beside a token's octets: what the older edition allows beside them in a bare value
abbrev pub older_octets : List ℕ
older_octets = octets "()/:<=>?@[]{}"

unfoldable pub is_older : ℕ → Bool
is_older c = one_of older_octets c

-- an octet of a ptoken
unfoldable pub is_ptoken : ℕ → Bool
is_ptoken c = is_token c || is_older c

-- a hex digit of either case
unfoldable pub is_hex : ℕ → Bool
unfolding is_digit
is_hex c = is_digit c || between 65 70 c || between 97 102 c
