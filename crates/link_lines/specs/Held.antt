-- What resolving the links of a table asks of it.
use Rattle.std.specs.Prelude.{ℕ, ◌+◌, ◌*◌, ◌<◌, List, get_or}
use Rattle.grammar.specs.Records.{link_width, link_room_of}
use Rattle.tables.specs.Good.{InText}

-- link number i stands in the slots, and its target in the text
pub record TargetHeld (text L : List ℕ) (i : ℕ) : Type 0 where
  pub room : i < link_room_of L
  pub span : InText text (get_or L (link_width * i) 0) (get_or L (link_width * i + 1) 0)

-- so it is with the first n links
abbrev pub TargetsHeld : List ℕ → List ℕ → ℕ → Type 0
TargetsHeld text L n = (i : ℕ) → i < n → TargetHeld text L i
