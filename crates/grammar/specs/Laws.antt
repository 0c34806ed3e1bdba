-- What is proved of the grammar, in every edition whose further octets keep apart.
use Rattle.std.specs.Prelude.{ℕ, ◌-◌, ◌≤◌, ◌≡◌, ◌⊎◌, true, false, ◌||◌, List, [], ◌∷◌, length, get_or}
use Rattle.std.proofs.Math.Option.{some}
use Rattle.octets.specs.Sets.{all, between, is_octet}
use Rattle.octets.specs.Text.{octets}
use Rattle.octets.specs.Fold.{same}
use Rattle.octets.specs.Editions.{further}
use Rattle.octets.specs.declared.editions.Edition.{Edition}
use Rattle.octets.specs.declared.editions.Edition.TheVariants.{Rfc8288}
use Rattle.grammar.specs.Link.{Link, Param}
use Rattle.grammar.specs.Grammar.{Extra, Admissible, Field}
use Rattle.grammar.specs.Kept.{name_of, among, known_names, code_of, is_once, keep_after, Reading}
use Rattle.grammar.specs.Place.{Malformed, Begun, Place}
use Rattle.grammar.specs.Join.{Padded, join, Readable, JoinReads}
use Rattle.grammar.specs.Machine.{gap, run, finish}

-- the further octets of each edition keep apart, so that every law below holds in it
abbrev pub EditionsApart : Type 0
EditionsApart = (e : Edition) → Admissible (further e)

-- whatever RFC 8288's edition reads, every edition reads to the same links
abbrev pub ReadByAll : Type 0
ReadByAll = (extra : Extra) (s : List ℕ) (K : List Link) → Reading (further Rfc8288) s K → Reading extra s K

-- the machine is exact: a header is derived with the links R just if the machine, run over all of it, finishes with R
pub record MachineExact : Type 0 where
  pub derived_read : (extra : Extra) → Admissible extra → (s : List ℕ) (R : List Link) → Field extra s R
      → finish (run extra (gap []) 0 s) (length s) ≡ some R
  pub read_derived : (extra : Extra) → Admissible extra → (s : List ℕ) (R : List Link)
      → finish (run extra (gap []) 0 s) (length s) ≡ some R → Field extra s R

-- no header has two readings
abbrev pub OneReading : Type 0
OneReading =
    (extra : Extra) → Admissible extra → (s : List ℕ) (K J : List Link) → Reading extra s K → Reading extra s J → K ≡ J

-- whether a header has a reading is decided
abbrev pub Decided : Type 0
Decided =
    (extra : Extra) → Admissible extra → (s : List ℕ) → ((K : List Link) × Reading extra s K) ⊎ Malformed extra s

-- a header's place exists, and is found; no other number is its place
abbrev pub OnePlace : Type 0
OnePlace =
    (extra : Extra) → Admissible extra → (s : List ℕ)
    → (k : ℕ) × Place extra s k × ((j : ℕ) → Place extra s j → j ≡ k)

-- the parameters of the folded name n
abbrev pub of_name : List ℕ → List ℕ → List Param → List Param
of_name s n [] = []
of_name s n (p ∷ ps) = elim (same (name_of s p) n) [ true ↦ p ∷ of_name s n ps | false ↦ of_name s n ps ]

abbrev pub first_only : List Param → List Param
first_only [] = []
first_only (p ∷ ps) = p ∷ []

-- The codes: that of a known name is its number in the list, from 1 on, and every other name has 0.
pub record Codes : Type 0 where
  pub known : (n : List ℕ) → (code_of n ≡ 0 → ⊥) → code_of n ≤ length known_names × n ≡ get_or known_names (code_of n - 1) []
  pub other : (n : List ℕ) → among known_names n ≡ false → code_of n ≡ 0
  pub rel : code_of (octets "rel") ≡ 1
  pub anchor : code_of (octets "anchor") ≡ 2
  pub media : code_of (octets "media") ≡ 3
  pub title : code_of (octets "title") ≡ 4
  pub title* : code_of (octets "title*") ≡ 5
  pub type : code_of (octets "type") ≡ 6
  pub hreflang : code_of (octets "hreflang") ≡ 7
  pub rev : code_of (octets "rev") ≡ 8

-- Of a name with a code from 1 to 6 the first parameter is kept, of all other names, `hreflang` and `rev` among them, each one. `only`:
-- the names kept once are the six that they were when no other name had a code.
pub record Keeps : Type 0 where
  pub once : (s n : List ℕ) (ps : List Param) → between 1 6 (code_of n) ≡ true
      → of_name s n (keep_after s [] ps) ≡ first_only (of_name s n ps)
  pub each_time : (s n : List ℕ) (ps : List Param) → between 1 6 (code_of n) ≡ false
      → of_name s n (keep_after s [] ps) ≡ of_name s n ps
  pub hreflang : (s : List ℕ) (ps : List Param)
      → of_name s (octets "hreflang") (keep_after s [] ps) ≡ of_name s (octets "hreflang") ps
  pub rev : (s : List ℕ) (ps : List Param) → of_name s (octets "rev") (keep_after s [] ps) ≡ of_name s (octets "rev") ps
  pub only : (n : List ℕ)
      → is_once n
      ≡ (same n (octets "rel")
      || (same n (octets "anchor")
      || (same n (octets "media")
      || (same n (octets "title") || (same n (octets "title*") || (same n (octets "type") || false))))))

-- a header cut short, of which nothing is wrong so far, has its own length as place
abbrev pub CutShort : Type 0
CutShort = (extra : Extra) → (s : List ℕ) → Begun extra s → Place extra s (length s)

-- every number of a derivable header is an octet
abbrev pub OctetsOnly : Type 0
OctetsOnly =
    (extra : Extra) → Admissible extra → (s : List ℕ) (K : List Link) → Reading extra s K → all is_octet s ≡ true

-- the joining law: a single claim about a whole list of headers that have readings
abbrev pub Joins : Type 0
Joins = (extra : Extra) → Admissible extra → (hs : List (Readable extra)) → JoinReads extra hs

-- a header that has a reading, followed by a malformed one, joins to a malformed header
abbrev pub JoinsMalformed : Type 0
JoinsMalformed =
    (extra : Extra) → Admissible extra → (p q : Padded) (K : List Link) → Reading extra p.header K
    → Malformed extra q.header → Malformed extra (join (p ∷ q ∷ []))
