-- A step from a pack, and packs that are known.
use Rattle.std.specs.Prelude.{ℕ, ◌≡◌, List, Result}
use Rattle.octets.specs.Editions.{further}
use Rattle.octets.specs.declared.editions.Edition.TheVariants.{Rfc8288, Rfc5988}
use Rattle.grammar.specs.Link.{Link}
use Rattle.grammar.specs.Kept.{Reading}
use Rattle.tables.specs.Table.{table_of, links_of}
use Rattle.tables.specs.Good.{Each}
use Rattle.outcomes.specs.Usable.{Usable}
use Rattle.catalogues.specs.Packs.{Pack, RightPack}
use Rattle.catalogues.specs.Steps.{step_of, step_from}
use Rattle.catalogue_check.specs.Checked.{tables}
use Rattle.target_steps.specs.Stepped.{step_out, Listed}
use Rattle.kinds.specs.declared.PackNumber.{PackNumber}
use Rattle.answers.specs.declared.walk_answer.End.{End}

-- the tables hold what the Link value v reads to
pub record TableRead (v L P : List ℕ) (n m : ℕ) : Type 0 where
  pub reading : Reading (further Rfc8288) v (links_of (table_of v L P n m))
  pub usable : Usable Rfc5988 (table_of v L P n m)

-- a step by the relation q from a pack with the URI u and the Link value v leads to what the answer tells
abbrev pub StepsOn : List ℕ → List ℕ → ℕ → List ℕ → List ℕ → List ℕ → Result PackNumber End → Type 0
StepsOn s X n u v q r =
    (ps : List Pack) → Listed s X n ps → (K : List Link) → Reading (further Rfc8288) v K
    → step_of ps q (record { uri = u; value = v; links = K }) ≡ step_out r

-- these are packs that may stand in a catalogue, with work tables of so many slots
pub record Known (s X : List ℕ) (n l p : ℕ) (ps : List Pack) : Type 0 where
  pub listed : Listed s X n ps
  pub right : Each (RightPack (tables l p)) ps

-- there are such packs
abbrev pub KnownPacks : List ℕ → List ℕ → ℕ → ℕ → ℕ → Type 0
KnownPacks s X n l p = (ps : List Pack) × Known s X n l p ps

-- a step by the relation q from pack number i leads to what the answer tells
abbrev pub StepsFrom : List ℕ → List ℕ → ℕ → ℕ → ℕ → List ℕ → ℕ → Result PackNumber End → Type 0
StepsFrom s X n l p q i r = (ps : List Pack) → Known s X n l p ps → step_from ps q i ≡ step_out r
