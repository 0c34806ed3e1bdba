-- Octets written into a buffer at a moving place.
use Rattle.std.specs.Prelude.{ℕ, ◌+◌, ◌≡◌, List, length}
use Rattle.std.proofs.lemmas.List.Edits.{sets}

-- the octets bs were stored over `old` from place `at` on, one behind another, up to place `to`
pub record Put (old new : List ℕ) (at to : ℕ) (bs : List ℕ) : Type 0 where
  pub buffer : new ≡ sets old at bs
  pub place : to ≡ at + length bs
