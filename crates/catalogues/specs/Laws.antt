-- What is proved of catalogues and walks.
use Rattle.std.specs.Prelude.{ℕ, ◌+◌, ◌≤◌, ◌<◌, ◌≡◌, List, ℤ, pos, negsuc, nat_abs, ◌+ℤ◌}
use Rattle.std.proofs.Math.Option.{some}
use Rattle.outcomes.specs.Number.{done}
use Rattle.outcomes.specs.Laws.{Settled}
use Rattle.catalogues.specs.Packs.{Pack, Room, Catalogue}
use Rattle.catalogues.specs.Steps.{arrived, pack_at, number_of}
use Rattle.catalogues.specs.Outcome.{step_limit, WalkOut, end_number, Walk}

-- a text is a catalogue of one list of packs at most
abbrev pub OneCatalogue : Type 0
OneCatalogue = (room : Room) (text : List ℕ) (ps qs : List Pack) → Catalogue room text ps → Catalogue room text qs → ps ≡ qs

-- each pack of a catalogue is the one that is found by its URI
abbrev pub FoundAgain : Type 0
FoundAgain =
    (room : Room) (text : List ℕ) (ps : List Pack) → Catalogue room text ps → (i : ℕ) (p : Pack) → pack_at ps i ≡ some p
    → number_of p.uri ps ≡ some i

-- whether a text is a catalogue is decided
abbrev pub CatalogueDecided : Type 0
CatalogueDecided = (room : Room) (text : List ℕ) → Dec ((ps : List Pack) × Catalogue room text ps)

-- whatever is asked, there is one answer and no other
abbrev pub WalkSettled : Type 0
WalkSettled = (text : List ℕ) (room : Room) (start : ℕ) (n : ℤ) → Settled (Walk text room start n)

-- the numbers have one sign; zero is of either
pub data OneSign : ℤ → ℤ → Type 0 where
  forwards : (m n : ℕ) → OneSign (pos m) (pos n)
  backwards : (m n : ℕ) → OneSign (negsuc m) (negsuc n)
  still_first : (n : ℕ) → OneSign (pos 0) (negsuc n)
  still_last : (m : ℕ) → OneSign (negsuc m) (pos 0)

-- the walk arrives
pub record Arrives (o : WalkOut) : Type 0 where
  pub number : o.number ≡ done
  pub end : o.end ≡ end_number arrived

-- Where a walk of m arrives, walking n from there ends as walking m + n does, with so many steps fewer as m is from zero. Work tables and
-- octets that the first walk left behind are the same room.
abbrev pub Onwards : Type 0
Onwards =
    (text : List ℕ) (room : Room) (start : ℕ) (m n : ℤ) → OneSign m n → nat_abs (m +ℤ n) ≤ step_limit
    → (first second whole : WalkOut) → Walk text room start m first → Arrives first → Walk text room first.pack n second
    → Walk text room start (m +ℤ n) whole
    → (whole.number ≡ second.number) × (whole.end ≡ second.end) × (whole.pack ≡ second.pack)
    × (whole.steps ≡ nat_abs m + second.steps)

-- A walk that arrives takes just the steps asked for, and one that doesn't takes fewer; none asked for arrives where it starts.
pub record StepsTaken : Type 0 where
  pub all : (text : List ℕ) (room : Room) (start : ℕ) (n : ℤ) (o : WalkOut) → Walk text room start n o → Arrives o → o.steps ≡ nat_abs n
  pub fewer : (text : List ℕ) (room : Room) (start : ℕ) (n : ℤ) (o : WalkOut) → Walk text room start n o → o.number ≡ done
      → (o.end ≡ end_number arrived → ⊥) → o.steps < nat_abs n
  pub at_most : (text : List ℕ) (room : Room) (start : ℕ) (n : ℤ) (o : WalkOut) → Walk text room start n o → o.steps ≤ nat_abs n
  pub still : (text : List ℕ) (room : Room) (start : ℕ) (o : WalkOut) → Walk text room start (pos 0) o → o.number ≡ done
      → (o.end ≡ end_number arrived) × (o.pack ≡ start) × (o.steps ≡ 0)
