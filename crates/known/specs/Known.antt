-- Where the second pass stands: the header has a derivation, and the machine is in a state of this kind after its first i octets.
use Rattle.std.specs.Prelude.{ℕ, Bool, not, List, eqb}
use Rattle.grammar.specs.Link.{Link}
use Rattle.grammar.specs.Grammar.{Extra, Field}
use Rattle.grammar.specs.Machine.{State, target, semi, equals, quote, Open}
use Rattle.scan_parts.specs.Stands.{Stands, Clear}

pub record Known (extra : Extra) (s : List ℕ) (st : State) (i : ℕ) : Type 0 where
  pub all : List Link
  pub derived : Field extra s all
  pub stands : Stands extra s st i

-- within a target, in whatever edition
pub record KnownTarget (s : List ℕ) (i : ℕ) : Type 0 where
  pub extra : Extra
  pub links : List Link
  pub from : ℕ
  pub known : Known extra s (target links from) i

-- an octet other than the `>` that closes a target
abbrev pub is_open : ℕ → Bool
is_open c = not (eqb c 62)

-- within a quoted string, likewise
pub record KnownQuoted (s : List ℕ) (i : ℕ) : Type 0 where
  pub extra : Extra
  pub link : Open
  pub name : ℕ
  pub end : ℕ
  pub value : ℕ
  pub known : Known extra s (quote link name end value) i

-- before a value, behind `=` and blanks
pub record KnownValue (extra : Extra) (s : List ℕ) (i : ℕ) : Type 0 where
  pub link : Open
  pub name : ℕ
  pub end : ℕ
  pub known : Known extra s (equals link name end) i
  pub clear : Clear s i

-- before a parameter, behind `;` and blanks
pub record KnownParam (extra : Extra) (s : List ℕ) (i : ℕ) : Type 0 where
  pub link : Open
  pub known : Known extra s (semi link) i
  pub clear : Clear s i
