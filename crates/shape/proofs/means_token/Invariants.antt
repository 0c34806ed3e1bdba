-- Token octets alone have been met, or the first other one decides.
use Prim.Native.Nat.{◌-◌}
use Rattle.shape.proofs.TokensUpTo.{TokensUpTo}
use Rattle.shape.proofs.means_token.Given as goal

abbrev pub invariant-loop-k : goal.invariant-loop-k
invariant-loop-k l = TokensUpTo l.s l.e.0 l.a.0 l.k.0

abbrev pub decreases-loop-k : goal.decreases-loop-k
decreases-loop-k l = l.e.0 - l.k.0
