-- Each step taken leaves the rest of the walk to the pack reached, where the packs are known as before.
use native.Mathlib.Omega.{arith}
use Rattle.paces.specs.Paces.{relation_on}
use Rattle.pack_walk.proofs.Going.{no_steps, stops, next_below, goes, known_alike, walks_alike}
use Rattle.pack_walk.proofs.+walk_on.Goals as goal

pub returns-then-left-eq0 : goal.returns-then-left-eq0
returns-then-left-eq0 t c =
    let g = c.args in no_steps g.p.now.text.now g.p.now.index.now g.p.now.count _ _ (relation_on g.way) g.pack g.steps c.if-left-eq0.true

pub walk_on-requires : goal.walk_on-requires
walk_on-requires t c =
    let g = c.args in
    let kept = c.step-stepped.auto in
    let below = next_below g.p.now.text.now g.p.now.index.now g.p.now.count _ _ (relation_on g.way) g.pack g.steps c.step-stepped.result
    c.step-stepped.ensures c.requires.0 c.in-Ok.is
    in (
      omega (arith, c.decreases, c.if-left-eq0.false),
      (
        known_alike kept.links kept.params c.requires.0,
        below,
        omega (arith, kept.work, c.requires.2),
        omega (arith, c.requires.3, c.if-left-eq0.false),
      ),
    )

pub returns-in-Err : goal.returns-in-Err
returns-in-Err t c =
    let g = c.args in
    stops g.p.now.text.now g.p.now.index.now g.p.now.count _ _ (relation_on g.way) g.pack g.steps c.step-stepped.result c.step-stepped.ensures
    g.left c.if-left-eq0.false c.in-Err.is

pub returns-in-Ok : goal.returns-in-Ok
returns-in-Ok t c =
    let g = c.args in
    let kept = c.step-stepped.auto in
    let on = c.walk_on in
    goes g.p.now.text.now g.p.now.index.now g.p.now.count _ _ (relation_on g.way) g.pack g.steps c.step-stepped.result c.step-stepped.ensures
    g.left c.if-left-eq0.false c.in-Ok.is on.result
    (walks_alike kept.links kept.params (relation_on g.way) _ _ _ on.result on.ensures)
