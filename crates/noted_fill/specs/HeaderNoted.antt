-- A header that was judged and noted.
use Rattle.std.specs.Prelude.{ℕ, List}
use Rattle.grammar.specs.Grammar.{Extra}
use Rattle.kinds.specs.declared.Counts.{Counts}
use Rattle.scanner.specs.Linked.{CountsOf, ReadingNoted}

-- the counts n are those of the header's reading, and its records are noted as far as there is room
pub record HeaderNoted (extra : Extra) (s : List ℕ) (n : Counts) (L P : List ℕ) : Type 0 where
  pub counts : CountsOf extra s n
  pub links_before : List ℕ
  pub params_before : List ℕ
  pub noted : ReadingNoted s counts.reading links_before L params_before P
