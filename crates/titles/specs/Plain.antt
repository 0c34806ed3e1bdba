-- What is written where a link has no right `title*`: the meaning of its `title`, if it has one.
use Rattle.std.specs.Prelude.{ℕ, ◌≡◌, List}
use Rattle.std.proofs.Math.Option.{none, some}
use Rattle.octets.specs.Text.{octets}
use Rattle.grammar.specs.Link.{Param}
use Rattle.tables.specs.Meaning.{value_of}
use Rattle.tables.specs.Relation.{named}
use Rattle.records.specs.Slots.{to_link}
use Rattle.records.specs.declared.LinkRecord.{LinkRecord}
use Rattle.outcomes.specs.Number.{not_found_number}
use Rattle.outcomes.specs.Copy.{CopyOut, untouched}
use Rattle.copy.specs.Room.{InRoom}

-- the link of the record l, over the text s and the slots P, and a buffer that holds `out`
module _ (s P : List ℕ) (l : LinkRecord) (out : List ℕ) where
  pub data Plain : CopyOut → Type 0 where
    no_title : named s (octets "title") (to_link P l).params ≡ none → Plain (untouched out not_found_number)
    meant : {p : Param} {o : CopyOut} → named s (octets "title") (to_link P l).params ≡ some p → InRoom out (value_of s p) o → Plain o
