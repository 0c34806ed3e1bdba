-- The loop adds one pack at a time.
use Prim.Native.Nat.{◌-◌}
use native.Mathlib.Omega.{arith}
use mathlib.Core.Path.{◌∙◌}
use Rattle.catalogue_check.specs.Checked.{wrong}
use Rattle.catalogue_check.proofs.LineByLine.{begin, too_long, asked, too_many, all_read, none_more, forward, on}
use Rattle.catalogue_check.proofs.check.Goals as goal

pub returns-then-n-gt-CATALOGUE : goal.returns-then-n-gt-CATALOGUE
returns-then-n-gt-CATALOGUE c = wrong (too_long c.if-n-gt-CATALOGUE.true)

pub loop-at-init : goal.loop-at-init
loop-at-init c =
    let given = c.args in
    begin given.s.now given.links.now given.params.now given.index.now

pub shape_of-links-then-count-ge-PACKS : goal.shape_of-links-then-count-ge-PACKS
shape_of-links-then-count-ge-PACKS c = c.loop-at.invariant.links

pub shape_of-params-then-count-ge-PACKS : goal.shape_of-params-then-count-ge-PACKS
shape_of-params-then-count-ge-PACKS c = c.loop-at.invariant.params

pub shape_of-index-then-count-ge-PACKS : goal.shape_of-index-then-count-ge-PACKS
shape_of-index-then-count-ge-PACKS c = c.loop-at.invariant.index

pub returns-then-count-ge-PACKS : goal.returns-then-count-ge-PACKS
returns-then-count-ge-PACKS c = too_many c.loop-at.invariant c.loop-at-test.true c.if-count-ge-PACKS.true

pub add_pack-requires : goal.add_pack-requires
add_pack-requires c =
    let at = c.loop-at.invariant in
    let pre = c.requires in
    record {
      from_in_bounds = (c.loop-at-test.true, c.if-count-ge-PACKS.false);
      pack_limit_in_bounds = (omega (arith, at.index, pre), asked at);
    }

pub returns-in_err-next : goal.returns-in_err-next
returns-in_err-next c =
    rw c.from_residual.ensures (none_more c.loop-at.invariant c.add_pack.ensures c.in_err-next.was)

pub overflow_add-count : goal.overflow_add-count
overflow_add-count c = omega (arith, c.if-count-ge-PACKS.false)

pub loop-at-smaller : goal.loop-at-smaller
loop-at-smaller c =
    let f = forward c.loop-at.invariant c.add_pack.ensures c.in_ok-next.was in
    omega (arith, f.0, f.1)

pub shape_of-links : goal.shape_of-links
shape_of-links c = c.loop-at.invariant.links

pub shape_of-params : goal.shape_of-params
shape_of-params c = c.loop-at.invariant.params

pub shape_of-index : goal.shape_of-index
shape_of-index c = c.loop-at.invariant.index

pub returns : goal.returns
returns c = all_read c.loop-at.invariant c.if-n-gt-CATALOGUE.false c.loop-at-test.false

pub loop-at-preserved : goal.loop-at-preserved
loop-at-preserved c =
    on c.loop-at.invariant c.add_pack.ensures c.in_ok-next.was c.if-count-ge-PACKS.false c.add_pack.auto.links
    c.add_pack.auto.params c.add_pack.auto.index

pub shape_of-links-in_err-next : goal.shape_of-links-in_err-next
shape_of-links-in_err-next c = c.add_pack.auto.links ∙ c.loop-at.invariant.links

pub shape_of-params-in_err-next : goal.shape_of-params-in_err-next
shape_of-params-in_err-next c = c.add_pack.auto.params ∙ c.loop-at.invariant.params

pub shape_of-index-in_err-next : goal.shape_of-index-in_err-next
shape_of-index-in_err-next c = c.add_pack.auto.index ∙ c.loop-at.invariant.index
