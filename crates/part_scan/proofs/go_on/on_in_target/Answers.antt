-- The target's octets, judged, and then one more.
use Rattle.part_scan.proofs.TargetRuns.{target_run}
use Rattle.part_scan.proofs.Moves.{target_move}
use borrow.Author.Rules.{rules}
use Rattle.part_scan.proofs.go_on.on_in_target.Goals as goal

pub judged_to-requires : goal.judged_to-requires
judged_to-requires c = let y = target_run c.past_blocks.ensures c.past_target-d.ensures in
    (y.forward, y.inside)

pub returns : goal.returns
returns c =
    target_move c.requires.2 (target_run c.past_blocks.ensures c.past_target-d.ensures)
    (rw c.judged_to.ensures at c.behind.ensures)
