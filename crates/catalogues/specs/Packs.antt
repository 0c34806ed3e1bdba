-- A catalogue: a text of lines, one for each pack.
use Rattle.std.specs.Prelude.{ℕ, ◌/◌, ◌≤◌, ◌≡◌, List, [], ◌∷◌, ◌++◌, length}
use Rattle.octets.specs.Editions.{further}
use Rattle.octets.specs.declared.editions.Edition.TheVariants.{Rfc8288}
use Rattle.references.specs.AppendixA.{IsAbsoluteURI}
use Rattle.grammar.specs.Link.{Link}
use Rattle.grammar.specs.Kept.{Reading}
use Rattle.grammar.specs.Records.{link_width, param_width, count_params}
use Rattle.tables.specs.Good.{Each}
use Rattle.outcomes.specs.Number.{limit}

-- the most octets of a catalogue, and the most packs in one
abbrev pub catalogue_limit : ℕ
catalogue_limit = 65536

abbrev pub pack_limit : ℕ
pack_limit = 256

-- A pack: its URI, its Link value, and the links that the value reads to.
pub record Pack : Type 0 where
  pub uri : List ℕ
  pub value : List ℕ
  pub links : List Link

-- its line: the URI, a tab, the Link value, LF
abbrev pub line_of : Pack → List ℕ
line_of p = p.uri ++ (9 ∷ (p.value ++ (10 ∷ [])))

abbrev pub lines_of : List Pack → List ℕ
lines_of [] = []
lines_of (p ∷ ps) = line_of p ++ lines_of ps

-- What is lent for a walk, as far as answers go by it: how many slots the work tables have, and how many octets there are for resolving.
pub record Room : Type 0 where
  pub link_slots : ℕ
  pub param_slots : ℕ
  pub octets : ℕ

-- a pack that may stand in a catalogue: RFC 8288's edition, reading its Link value by itself in all the work tables, refuses nothing
pub record RightPack (room : Room) (p : Pack) : Type 0 where
  pub uri : IsAbsoluteURI p.uri
  pub short : length p.value ≤ limit
  pub reading : Reading (further Rfc8288) p.value p.links
  pub link_room : length p.links ≤ room.link_slots / link_width
  pub param_room : count_params p.links ≤ room.param_slots / param_width

-- no pack has the octets w for its URI
abbrev pub Absent : List ℕ → List Pack → Type 0
Absent w = Each (λ (p : Pack). p.uri ≡ w → ⊥)

-- no URI stands twice
pub data Distinct : List Pack → Type 0 where
  none : Distinct []
  one_more : {p : Pack} {ps : List Pack} → Absent p.uri ps → Distinct ps → Distinct (p ∷ ps)

-- the text is a catalogue of these packs
pub record Catalogue (room : Room) (text : List ℕ) (ps : List Pack) : Type 0 where
  pub short : length text ≤ catalogue_limit
  pub lines : text ≡ lines_of ps
  pub few : length ps ≤ pack_limit
  pub right : Each (RightPack room) ps
  pub distinct : Distinct ps
