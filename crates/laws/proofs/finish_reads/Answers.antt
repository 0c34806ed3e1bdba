-- The law holds.
use Rattle.laws.proofs.Feedings.{finish_reads}
use Rattle.laws.proofs.finish_reads.Goals as goal

pub returns : goal.returns
returns c = finish_reads
