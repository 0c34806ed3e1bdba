-- The start that the state names, or the end of what counted.
use Prim.Native.Nat.{ℕ}
use mathlib.Core.Path.{ap}
use Rattle.phases.specs.Spots.{spot}
use Rattle.feeding.proofs.spot_of.Goals as goal

pub returns : goal.returns
returns c =
    let a = c.args in
    ap (λ (n : ℕ). spot a.state.phase n a.state.judged) c.start_in-target.ensures
