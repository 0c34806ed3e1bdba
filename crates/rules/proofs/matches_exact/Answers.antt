-- The law holds.
use Prim.Native.Nat.{ℕ}
use Rattle.rules.proofs.Lefts.{matches_exact}
use Rattle.rules.proofs.matches_exact.Goals as goal

pub returns : goal.returns
returns c = matches_exact ℕ
