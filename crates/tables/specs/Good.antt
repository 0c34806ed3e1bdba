-- A good table in an edition of the grammar, clause by clause. Whoever made it, spans may cross or stand in any order, and nothing is
-- asked of the octets round a span.
use Rattle.std.specs.Prelude.{ℕ, zero, suc, ◌+◌, ◌≤◌, ◌<◌, ◌≡◌, Bool, true, ◌&&◌, not, List, [], ◌∷◌, length}
use Rattle.grammar.specs.Link.{Link, Param}
use Rattle.grammar.specs.Grammar.{Extra, Token, Inside, Target, Wider}
use Rattle.grammar.specs.Targets.{ReferenceAt}
use Rattle.grammar.specs.Kept.{name_of, among, code_of, is_once}
use Rattle.grammar.specs.Records.{link_room_of, param_room_of}
use Rattle.tables.specs.Table.{Table, param_at, code_at, first_of, count_of, links_of}

-- every element of a list
pub data Each {A : Type 0} (P : A → Type 0) : List A → Type 0 where
  each_none : Each P []
  each_more : {x : A} {xs : List A} → P x → Each P xs → Each P (x ∷ xs)

-- of n links from number i on, the first link's parameters begin at number `at`, each later link's where the former's end,
-- and the last ends at m (with no links `at` is m, so that a table of no links has no parameters); the sums are of numbers, so that
-- none wraps
abbrev pub Follows : List ℕ → ℕ → ℕ → ℕ → ℕ → Type 0
Follows L i zero at m = at ≡ m
Follows L i (suc n) at m = (first_of L i ≡ at) × Follows L (suc i) n (at + count_of L i) m

-- no two of the parameters, nor one of them and one of the names `earlier`, share a name kept once
abbrev pub once_each : List ℕ → List (List ℕ) → List Param → Bool
once_each s earlier [] = true
once_each s earlier (p ∷ ps) =
    not (is_once (name_of s p) && among earlier (name_of s p)) && once_each s (name_of s p ∷ earlier) ps

-- the code that parameter record number j has is that of its name
abbrev pub Agrees : List ℕ → List ℕ → ℕ → Type 0
Agrees s P j = code_at P j ≡ code_of (name_of s (param_at P j))

-- so it is with n records from number j on
abbrev pub AgreeFrom : List ℕ → List ℕ → ℕ → ℕ → Type 0
AgreeFrom s P j n = (k : ℕ) → k < n → Agrees s P (j + k)

module _ (s : List ℕ) where
  -- a span of the text: it ends no earlier than it starts, and no later than the text
  pub record InText (a e : ℕ) : Type 0 where
    pub ordered : a ≤ e
    pub inside : e ≤ length s

module _ (extra : Extra) (s : List ℕ) where
  -- A form that there is, and a value that the grammar derives for it; no value has its span, empty, where the name ends. With no
  -- further octets there is no value of form 3.
  pub data GoodValue (p : Param) : Type 0 where
    no_value : p.form ≡ 0 → p.value_from ≡ p.name_to → p.value_to ≡ p.name_to → GoodValue p
    token_value : p.form ≡ 1 → Token s p.value_from p.value_to → GoodValue p
    quoted_value : p.form ≡ 2 → Inside s p.value_from p.value_to → GoodValue p
    wider_value : p.form ≡ 3 → Wider extra s p.value_from p.value_to → GoodValue p

  -- both spans lie in the text, and the name and the value obey the grammar
  pub record GoodParam (p : Param) : Type 0 where
    pub name_span : InText s p.name_from p.name_to
    pub value_span : InText s p.value_from p.value_to
    pub name : Token s p.name_from p.name_to
    pub value : GoodValue p

  -- the target's span lies in the text, obeys the grammar and is a reference, the parameters obey it, and no two share a name kept once
  pub record GoodLink (l : Link) : Type 0 where
    pub target_span : InText s l.target_from l.target_to
    pub target : Target s l.target_from l.target_to
    pub reference : ReferenceAt s l.target_from l.target_to
    pub params : Each GoodParam l.params
    pub once : once_each s [] l.params ≡ true

-- the counts fit the rooms, the links' parameters follow one another, each link is good, and each parameter's code agrees with its name
pub record Good (extra : Extra) (t : Table) : Type 0 where
  pub link_room : t.link_count ≤ link_room_of t.link_slots
  pub param_room : t.param_count ≤ param_room_of t.param_slots
  pub follows : Follows t.link_slots 0 t.link_count 0 t.param_count
  pub links : Each (GoodLink extra t.text) (links_of t)
  pub codes : AgreeFrom t.text t.param_slots 0 t.param_count
