-- What is put already and what is left to put make the whole at each turn.
use Rattle.kinds.proofs.Putting.{Putting}
use Rattle.bare.specs.Bare.{bare_of}
use Rattle.bare.proofs.put_bare.Given as goal

abbrev pub invariant-loop-here : goal.invariant-loop-here
invariant-loop-here l =
    Putting l.initial.out l.initial.to.0 (bare_of l.s l.fn.part.from.0 l.fn.part.to.0) l.out l.to.0 (bare_of l.s l.here l.fn.part.to.0)
