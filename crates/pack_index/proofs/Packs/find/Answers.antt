-- No pack before number i has the URI.
use Prim.Native.Nat.{◌-◌}
use native.Mathlib.Omega.{arith}
use mathlib.Core.Path.{refl, ◌∙◌}
use Rattle.pack_index.proofs.Finding.{begin, placed_here, compared, on}
use Rattle.pack_index.proofs.Packs.find.Goals as goal

pub loop-i-init : goal.loop-i-init
loop-i-init c = begin refl

pub places_at-places-requires : goal.places_at-places-requires
places_at-places-requires c =
    let held = c.requires in
    omega (arith, held.room, c.loop-i-test.true)

pub slice_bounds-are_same-count : goal.slice_bounds-are_same-count
slice_bounds-are_same-count c =
    let held = c.requires in
    (placed_here held c.loop-i-test.true c.places_at-places.ensures).uri

pub returns-then-are_same : goal.returns-then-are_same
returns-then-are_same c =
    let at = c.loop-i in
    let l = c.loop-i-test.true in
    let told = compared c.requires l c.places_at-places.ensures c.args.uri.now c.are_same.ensures in
    (l, told ∙ c.if-are_same.true, at.invariant.others)

pub loop-i-preserved : goal.loop-i-preserved
loop-i-preserved c =
    let l = c.loop-i-test.true in
    let told = compared c.requires l c.places_at-places.ensures c.args.uri.now c.are_same.ensures in
    on c.loop-i.invariant l (told ∙ c.if-are_same.false)

pub returns : goal.returns
returns c = λ j h. c.loop-i.invariant.others j (omega (arith, h, c.loop-i-test.false))
