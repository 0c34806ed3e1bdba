-- A catalogue checked line by line.
use Rattle.std.specs.Prelude.{ℕ, suc, ◌≤◌, ◌<◌, ◌≡◌, List, ◌++◌, length, drop, Option, Some}
use Rattle.std.specs.Prelude as std
use Rattle.std.proofs.Math.Option.{some}
use Rattle.tables.specs.Good.{Each}
use Rattle.catalogues.specs.Packs.{Pack, Room, lines_of, RightPack, Distinct, Catalogue}
use Rattle.catalogues.specs.Steps.{pack_at}
use Rattle.kinds.specs.declared.Place.{Place}
use Rattle.pack_index.specs.Index.{places_at, Placed, uri_in, value_in}

-- the index X has the places of pack number i, which is p
pub record HasPlaces (s X : List ℕ) (i : ℕ) (p : Pack) : Type 0 where
  pub placed : Placed s (places_at X i)
  pub uri : uri_in s (places_at X i) ≡ p.uri
  pub value : value_in s (places_at X i) ≡ p.value

-- it has those of all packs
abbrev pub Indexed : List ℕ → List ℕ → List Pack → Type 0
Indexed s X ps = (i : ℕ) (p : Pack) → pack_at ps i ≡ some p → HasPlaces s X i p

-- work tables of so many slots
abbrev pub tables : ℕ → ℕ → Room
tables l p = record { link_slots = l; param_slots = p; octets = 0 }

-- with these tables the text is no catalogue
abbrev pub None : List ℕ → ℕ → ℕ → Type 0
None s l p = (ps : List Pack) → Catalogue (tables l p) s ps → ⊥

-- up to place a stand the lines of n right packs, no URI twice, and the index X has their places
pub record Begun (s : List ℕ) (l p : ℕ) (X : List ℕ) (n a : ℕ) : Type 0 where
  pub packs : List Pack
  pub count : length packs ≡ n
  pub right : Each (RightPack (tables l p)) packs
  pub distinct : Distinct packs
  pub lines : s ≡ lines_of packs ++ drop a s
  pub indexed : Indexed s X packs

-- behind place a one pack more was added to n, or none can be
pub data AddedTo (s : List ℕ) (l p : ℕ) (X : List ℕ) (n a : ℕ) : Option Place → Type 0 where
  before : {b : Place} → a < b.0 → b.0 ≤ length s → Begun s l p X (suc n) b.0 → AddedTo s l p X n a (Some b)
  wrong : None s l p → AddedTo s l p X n a std.None

pub data IsChecked (s : List ℕ) (l p : ℕ) (X : List ℕ) : Option ℕ → Type 0 where
  right : (ps : List Pack) → Catalogue (tables l p) s ps → Indexed s X ps → IsChecked s l p X (Some (length ps))
  wrong : None s l p → IsChecked s l p X std.None
