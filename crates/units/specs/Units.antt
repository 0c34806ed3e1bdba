-- The octet that an attribute character or a triple gives, where one stands.
use Rattle.std.specs.Prelude.{ℕ, ◌≤◌, ◌<◌, ◌≡◌, List, [], Option, Some, None}
use Rattle.std.proofs.Math.Option.{none, some}
use Rattle.extended.specs.Decoded.{Open, add, given_from, given}
use Rattle.units.specs.Seen.{seen}
use Rattle.kinds.specs.declared.Place.{Place}
use Rattle.units.specs.declared.Reading.{Reading}
use Rattle.units.specs.declared.Given.{Given}
use Rattle.units.specs.declared.Given.TheVariants.{Gives, Done, Wrong}

-- with st open of a triple before place k
module _ (st : Open) (h : Reading) (s : List ℕ) (e k : ℕ) where
  -- the octet c is given, and place n is behind what gave it
  pub record GivesOctet (c n : ℕ) : Type 0 where
    pub octet : given_from st (seen h s e k) ≡ add c (given (seen h s e n))
    pub onward : k < n
    pub inside : n ≤ e

  -- nothing is left
  pub record GivesNone : Type 0 where
    pub none : given_from st (seen h s e k) ≡ some []

  -- something else stands there
  pub record GivesWrong : Type 0 where
    pub wrong : given_from st (seen h s e k) ≡ none

  -- the answer r tells which, where the triple is still open, so that something has to stand there
  abbrev pub IsTriple : Option (ℕ × Place) → Type 0
  IsTriple (Some (c, n)) = GivesOctet c n.0
  IsTriple None = GivesWrong

  -- the answer r tells which
  abbrev pub IsUnit : Given → Type 0
  IsUnit (Gives c n) = GivesOctet c n.0
  IsUnit Done = GivesNone
  IsUnit Wrong = GivesWrong
