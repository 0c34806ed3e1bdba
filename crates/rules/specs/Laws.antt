-- What is proved of rules.
use Rattle.std.specs.Prelude.{ℕ, ◌≡◌, Bool, true, List}
use Rattle.rules.specs.Rule.{Rule, Derives}
use Rattle.rules.specs.Left.{matches}

-- Trying a rule octet by octet is exact: whether a rule derives a text is computed.
pub record MatchesExact (S : Type 0) : Type 0 where
  pub sound : (has : S → ℕ → Bool) (r : Rule S) (w : List ℕ) → matches has r w ≡ true → Derives has r w
  pub complete : (has : S → ℕ → Bool) (r : Rule S) (w : List ℕ) → Derives has r w → matches has r w ≡ true
