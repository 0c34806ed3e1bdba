-- From the state in an edition to the state by the edition's number.
use Prim.Native.Nat.{ℕ}
use mathlib.Core.Path.{◌≡◌}
use Rattle.std.specs.Prelude.{Result, Ok, Err, ⊤}
use Rattle.answers.specs.declared.Refusal.{Refusal}
use Rattle.octets.specs.Editions.{number_of}
use Rattle.octets.specs.declared.editions.Edition.{Edition}
use Rattle.tables.specs.Table.{Table}
use Rattle.outcomes.specs.InEdition.{known}
use Rattle.table_check.specs.State.{StateIn, IsState}

pub state_known : (e : Edition) {n : ℕ} (t : Table) (r : Result ⊤ Refusal) → number_of e ≡ n → StateIn e t r → IsState n t r
state_known e t (Ok _) q u = record { edition = e; numbered = q; usable = u }
state_known e t (Err w) q x = known {e = e} q x
