-- The first parameter of the code is the one that is looked for, at each turn among those that are left.
use Prim.Native.Nat.{◌+◌}
use Rattle.named.specs.First.{coded}
use Rattle.named.proofs.Looking.{Looking}
use Rattle.named.proofs.first_of.Given as goal

abbrev pub invariant-loop-k : goal.invariant-loop-k
invariant-loop-k c =
    let l = c.l in
    Looking (λ o. o) c.params c.code (coded c.params c.code l.first.0 l.count) (l.first.0 + l.count) (l.first.0 + c.k)
