use native.Mathlib.Omega.{arith}
use Rattle.dot_walk.proofs.Steps.{one_more, same_pending, one_less}
use Rattle.dot_walk.proofs.pending_on.Goals as goal

pub returns-then-kind-eq2 : goal.returns-then-kind-eq2
returns-then-kind-eq2 c = one_more c.args.t c.if-kind-eq2.true

pub returns-then-kind-eq1 : goal.returns-then-kind-eq1
returns-then-kind-eq1 c =
    let given = c.args in
    same_pending given.t c.if-kind-eq1.true

pub returns-then-pending-eq0 : goal.returns-then-pending-eq0
returns-then-pending-eq0 c =
    let if1' = c.if-kind-eq2 in
    let given = c.args in
    omega (arith, one_less given.t if1'.false c.if-kind-eq1.false, c.if-pending-eq0.true)

pub returns : goal.returns
returns c =
    let if1' = c.if-kind-eq2 in
    let given = c.args in
    one_less given.t if1'.false c.if-kind-eq1.false
