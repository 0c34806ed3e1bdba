-- What is left of the parameters is put one by one.
use Prim.Native.Nat.{◌+◌}
use Rattle.shape.specs.Forms.{params_left}
use Rattle.putting.proofs.PutUpTo.{PutUpTo}
use Rattle.param_forms.proofs.put_params.Given as goal

abbrev pub invariant-loop-k : goal.invariant-loop-k
invariant-loop-k l =
    PutUpTo (params_left l.text l.params l.fn.end.0) l.fn.end.0 l.initial.out l.initial.to.0 (params_left l.text l.params l.fn.end.0 l.first.0) l.out l.to.0 (l.first.0 + l.k)
