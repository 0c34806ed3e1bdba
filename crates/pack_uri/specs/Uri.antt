-- The URI of a pack, as a part of a catalogue.
use Rattle.std.specs.Prelude.{ℕ, ◌≡◌, List}
use Rattle.std.proofs.Math.Option.{some}
use Rattle.std.proofs.Math.Seq.{slice}
use Rattle.tables.specs.Good.{InText}
use Rattle.catalogues.specs.Packs.{Pack, Room, Catalogue}
use Rattle.catalogues.specs.Steps.{pack_at}

-- whatever the text s is, the part from a to e lies in it; if it is a catalogue with a pack number n, the part is that pack's URI
pub record UriPart (s : List ℕ) (n a e : ℕ) : Type 0 where
  pub part : InText s a e
  pub uri : (room : Room) (ps : List Pack) (p : Pack) → Catalogue room s ps → pack_at ps n ≡ some p → slice a e s ≡ p.uri
