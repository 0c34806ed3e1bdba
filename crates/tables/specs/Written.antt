-- The written form of a list of link meanings.
use Rattle.std.specs.Prelude.{ℕ, Bool, true, false, cond, ◌||◌, List, [], ◌∷◌, ◌++◌, eqb}
use Rattle.octets.specs.Sets.{all, is_token}
use Rattle.tables.specs.Meaning.{ParamMeaning, LinkMeaning}

-- the text is a token
abbrev pub is_token_text : List ℕ → Bool
is_token_text [] = false
is_token_text (c ∷ cs) = all is_token (c ∷ cs)

-- `\` before `"` and `\` only
abbrev pub escape_octet : ℕ → List ℕ → List ℕ
escape_octet c rest = cond (eqb c 34 || eqb c 92) (92 ∷ c ∷ rest) (c ∷ rest)

abbrev pub escape : List ℕ → List ℕ
escape [] = []
escape (c ∷ cs) = escape_octet c (escape cs)

-- bare if it is a token, else in quotes
unfoldable pub written_value : List ℕ → List ℕ
written_value v = cond (is_token_text v) v (34 ∷ escape v ++ 34 ∷ [])

-- `;`, space, folded name (a meaning's name is folded), `=`, value
abbrev pub written_param : ParamMeaning → List ℕ
written_param p = 59 ∷ 32 ∷ p.name ++ 61 ∷ written_value p.value

abbrev pub written_params : List ParamMeaning → List ℕ
written_params [] = []
written_params (p ∷ ps) = written_param p ++ written_params ps

-- `<`, target, `>` and the parameters
abbrev pub written_link : LinkMeaning → List ℕ
written_link l = 60 ∷ l.target ++ 62 ∷ written_params l.params

-- links parted by comma and one space; no links: no octets
abbrev pub written : List LinkMeaning → List ℕ
written [] = []
written (l ∷ []) = written_link l
written (l ∷ m ∷ ms) = written_link l ++ 44 ∷ 32 ∷ written (m ∷ ms)
