-- What was laid out is the result, and is written if it fits.
use Rattle.resolving.proofs.Fitting.{over, cramped, written}
use Rattle.resolving.proofs.put_resolved.Goals as goal

pub returns-then-whole-gt-LIMIT : goal.returns-then-whole-gt-LIMIT
returns-then-whole-gt-LIMIT c =
    let route' = c.route-r in
    over _ _ _ _ route'.ensures.result c.measure-n.ensures.whole c.if-whole-gt-LIMIT.true

pub returns-then-whole-out : goal.returns-then-whole-out
returns-then-whole-out c =
    let measure' = c.measure-n in
    let route' = c.route-r in
    cramped _ _ _ _ route'.ensures.result measure'.ensures.whole c.if-whole-gt-LIMIT.false c.if-whole-out.true

pub returns : goal.returns
returns c =
    let put-result' = c.put_result in
    let if2' = c.if-whole-out in
    let if1' = c.if-whole-gt-LIMIT in
    let measure' = c.measure-n in
    let route' = c.route-r in
    written _ _ _ _ route'.ensures.result measure'.ensures.whole if1'.false if2'.false put-result'.ensures
