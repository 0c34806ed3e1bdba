-- The pack's places are read, and a step goes from there.
use native.Mathlib.Omega.{arith}
use Rattle.paces.specs.Paces.{relation_on}
use Rattle.stepping.proofs.FromPack.{placed_here, stands, uri_clean, value_accepted, steps_from}
use Rattle.stepping.proofs.step.Goals as goal

pub overflow_add-v : goal.overflow_add-v
overflow_add-v c =
    let p = placed_here c.requires.0 c.requires.1 c.places_at-places.ensures in
    omega (arith, p.value, p.inside)

pub slice_bounds-step_on-count : goal.slice_bounds-step_on-count
slice_bounds-step_on-count c = (placed_here c.requires.0 c.requires.1 c.places_at-places.ensures).uri

pub slice_bounds-step_on-start : goal.slice_bounds-step_on-start
slice_bounds-step_on-start c =
    let p = placed_here c.requires.0 c.requires.1 c.places_at-places.ensures in
    omega (arith, p.uri, p.value, p.inside)

pub slice_bounds-step_on-end : goal.slice_bounds-step_on-end
slice_bounds-step_on-end c =
    let p = placed_here c.requires.0 c.requires.1 c.places_at-places.ensures in
    omega (arith, p.uri, p.value, p.inside)

pub slice_bounds-step_on-count-2 : goal.slice_bounds-step_on-count-2
slice_bounds-step_on-count-2 c =
    let p = placed_here c.requires.0 c.requires.1 c.places_at-places.ensures in
    omega (arith, p.value)

pub slice_bounds-step_on-start-2 : goal.slice_bounds-step_on-start-2
slice_bounds-step_on-start-2 c =
    let p = placed_here c.requires.0 c.requires.1 c.places_at-places.ensures in
    omega (arith, p.value, p.inside)

pub slice_bounds-step_on-end-2 : goal.slice_bounds-step_on-end-2
slice_bounds-step_on-end-2 c =
    let p = placed_here c.requires.0 c.requires.1 c.places_at-places.ensures in
    omega (arith, p.value, p.inside)

pub step_on-requires : goal.step_on-requires
step_on-requires c =
    let k = c.requires.0 in
    let i = c.requires.1 in
    let e = c.places_at-places.ensures in
    record {
      stands = (stands k i e, uri_clean k i e, c.requires.2);
      accepted = value_accepted k i e;
    }

pub returns : goal.returns
returns c =
    steps_from c.requires.0 c.requires.1 c.places_at-places.ensures (relation_on c.args.way) c.step_on.result c.step_on.ensures
