use mathlib.Core.Bool.{◌||◌}
use lib.Dec.{eqb}
use Rattle.dot_walk.proofs.Steps.{slash_told}
use Rattle.dot_walk.proofs.slash_gain.Goals as goal

pub returns : goal.returns
returns c =
    let given = c.args in
    let t = given.t in
    slash_told (eqb t.kind 1 || eqb t.kind 2) (eqb t.kept 0) (eqb t.pending 0)
