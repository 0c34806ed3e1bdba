-- A Link value that is read by itself.
use Rattle.std.specs.Prelude.{ℕ, ◌/◌, ◌≤◌, Bool, true, false, List, length}
use Rattle.octets.specs.Editions.{further}
use Rattle.octets.specs.declared.editions.Edition.TheVariants.{Rfc8288}
use Rattle.grammar.specs.Link.{Link}
use Rattle.grammar.specs.Kept.{Reading}
use Rattle.grammar.specs.Records.{link_width, param_width, count_params}
use Rattle.outcomes.specs.Number.{limit}

-- the value v is accepted in tables of so many slots
pub record Accepted (v : List ℕ) (link_slots param_slots : ℕ) : Type 0 where
  pub links : List Link
  pub short : length v ≤ limit
  pub reading : Reading (further Rfc8288) v links
  pub link_room : length links ≤ link_slots / link_width
  pub param_room : count_params links ≤ param_slots / param_width

abbrev pub TellsAccepted : List ℕ → ℕ → ℕ → Bool → Type 0
TellsAccepted v l p true = Accepted v l p
TellsAccepted v l p false = Accepted v l p → ⊥
