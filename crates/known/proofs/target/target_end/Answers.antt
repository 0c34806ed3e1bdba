-- The loop seeks the first `>`, and none stands within the target.
use Prim.Native.Nat.{◌-◌}
use native.Mathlib.Omega.{arith}
use Rattle.grammar.specs.Grammar.{run_end}
use Rattle.known.proofs.TargetCloses.{seek, seek_inside, sought, open_more}
use Rattle.known.proofs.target.target_end.Goals as goal

pub past_blocks_without-requires : goal.past_blocks_without-requires
past_blocks_without-requires c = omega (arith, seek_inside (seek c.requires run_end run_end))

pub loop-c-init : goal.loop-c-init
loop-c-init c = run_end

pub returns-then-sees : goal.returns-then-sees
returns-then-sees c =
    sought (seek c.requires c.past_blocks_without.ensures.run c.loop-c.invariant)
    (c.sees.ensures.yes c.if-sees.true)

pub past_octet-c-requires : goal.past_octet-c-requires
past_octet-c-requires c =
    seek_inside (seek c.requires c.past_blocks_without.ensures.run c.loop-c.invariant)

pub loop-c-smaller : goal.loop-c-smaller
loop-c-smaller c =
    omega (
      arith,
      c.past_octet-c.ensures,
      seek_inside (seek c.requires c.past_blocks_without.ensures.run c.loop-c.invariant),
    )

pub loop-c-preserved : goal.loop-c-preserved
loop-c-preserved c =
    let here = c.loop-c.invariant in
    open_more here (seek_inside (seek c.requires c.past_blocks_without.ensures.run here))
    c.sees.ensures
    c.if-sees.false
    c.past_octet-c.ensures
