-- What is proved of extended values.
use Rattle.std.specs.Prelude.{ℕ, ◌≡◌, List}
use Rattle.std.proofs.Math.Option.{some}
use Rattle.extended.specs.Value.{Extended}
use Rattle.extended.specs.Decoded.{decoded}

-- Trying a value octet by octet is exact.
pub record DecodedExact : Type 0 where
  pub right : (w v : List ℕ) → decoded w ≡ some v → Extended w v
  pub all : (w v : List ℕ) → Extended w v → decoded w ≡ some v

-- a value gives no two texts
abbrev pub OneText : Type 0
OneText = (w v u : List ℕ) → Extended w v → Extended w u → v ≡ u
