-- Whole blocks, then a part of one or of the text's last, or the rest of the text octet by octet. Assumes nothing.
use Rattle.reference_scan.proofs.Runs.{passed_then, passed_from}
use Rattle.reference_scan.proofs.passing.past_path.Goals as goal

pub returns-then-i-k : goal.returns-then-i-k
returns-then-i-k c =
    passed_then c.past_blocks-i.ensures (passed_from c.count_common.ensures c.block_at-at.ensures.0 c.if-i-k.true)

pub returns : goal.returns
returns c = passed_then c.past_blocks-i.ensures c.past_each.ensures
