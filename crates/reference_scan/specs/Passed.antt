-- Runs of octets.
use Rattle.std.specs.Prelude.{ℕ, ◌≤◌, ◌<◌, ◌≡◌, Bool, true, List, eqb, length, get_or}
use Rattle.reference_steps.specs.Machine.{step}

-- from place a up to place e stand octets of the set f
pub record Passed (f : ℕ → Bool) (s : List ℕ) (a e : ℕ) : Type 0 where
  pub forward : a ≤ e
  pub inside : e ≤ length s
  pub all : (k : ℕ) → a ≤ k → k < e → f (get_or s k 0) ≡ true

-- the state q stays behind the octet c
abbrev pub keeps : ℕ → ℕ → Bool
keeps q c = eqb (step q c) q
