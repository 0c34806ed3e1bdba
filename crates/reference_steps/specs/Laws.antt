-- What is proved of the machine.
use Rattle.std.specs.Prelude.{ℕ, ◌≡◌, true, List}
use Rattle.references.specs.AppendixA.{IsReference, IsURI}
use Rattle.reference_steps.specs.Machine.{run, accepts}

-- From state 0 the machine accepts just the references, and from state 55 just the URIs.
pub record StepsExact : Type 0 where
  pub reference : (w : List ℕ) → accepts (run 0 w) ≡ true → IsReference w
  pub accepted : (w : List ℕ) → IsReference w → accepts (run 0 w) ≡ true
  pub uri : (w : List ℕ) → accepts (run 55 w) ≡ true → IsURI w
  pub uri_accepted : (w : List ℕ) → IsURI w → accepts (run 55 w) ≡ true
