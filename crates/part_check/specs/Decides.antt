-- An answer that decides a claim.
use Rattle.std.specs.Prelude.{◌≡◌, Bool, true, false}

-- b is true where X holds, and false where it doesn't
pub record Decides (b : Bool) (X : Type 0) : Type 0 where
  pub holds : b ≡ true → X
  pub fails : b ≡ false → X → ⊥
