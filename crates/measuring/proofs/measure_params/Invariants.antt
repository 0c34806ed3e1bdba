-- What is counted and what is left make the whole at each turn, and no sum is taken past the limit.
use Prim.Native.Nat.{◌+◌}
use mathlib.Core.Bool.{not}
use lib.Dec.{eqb}
use lib.ListN.{length}
use Rattle.shape.specs.Forms.{params_left}
use Rattle.measuring.proofs.MeasuredUpTo.{ParamsMeasured}
use Rattle.measuring.proofs.measure_params.Given as goal

abbrev pub invariant-loop-k : goal.invariant-loop-k
invariant-loop-k g l =
    ParamsMeasured (not (eqb g.row.EXACT 0)) l.text l.params (l.before + length (params_left l.text l.params l.fn.end.0 l.first.0)) l.fn.end.0 l.n (l.first.0 + l.k)
