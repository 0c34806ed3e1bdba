-- The opening, the block behind it, and the rest. Assumes nothing.
use Rattle.reference_scan.proofs.Between.{comes_then, judged_then}
use Rattle.reference_scan.proofs.judge.Goals as goal

pub returns : goal.returns
returns c =
    judged_then (comes_then c.past_opening-opened.ensures c.past_first_block-begun.ensures) c.walk.ensures
