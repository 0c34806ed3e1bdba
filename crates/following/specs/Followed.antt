-- The link that a step follows, in a table.
use Rattle.std.specs.Prelude.{ℕ, ◌≡◌, List, Option, Some, None}
use Rattle.std.proofs.Math.Option.{none, some}
use Rattle.grammar.specs.Link.{Link}
use Rattle.tables.specs.Table.{Table, links_of}
use Rattle.tables.specs.Good.{InText}
use Rattle.grammar.specs.Targets.{ReferenceAt}
use Rattle.catalogues.specs.Steps.{first_link}
use Rattle.kinds.specs.declared.Span.{Span}

-- the answer tells the target of the first link that is followed by the relation q, and that target is a reference in the text; or that no
-- link is followed
pub data IsFollowed (t : Table) (q : List ℕ) : Option Span → Type 0 where
  nowhere : first_link t.text q (links_of t) ≡ none → IsFollowed t q None
  target : {l : Link} → first_link t.text q (links_of t) ≡ some l → InText t.text l.target_from l.target_to
      → ReferenceAt t.text l.target_from l.target_to
      → IsFollowed t q (Some (record { from = record { 0 = l.target_from }; to = record { 0 = l.target_to } }))
