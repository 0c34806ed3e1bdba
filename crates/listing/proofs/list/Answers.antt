-- A table that reading answers with its counts is held; the answer is reading's own.
use Rattle.listing.proofs.TableLeft.{done_held}
use Rattle.listing.proofs.list.Goals as goal

pub put_table-requires : goal.put_table-requires
put_table-requires c =
    done_held c.read-answer.ensures c.in-Ok.is

pub returns-in-Ok : goal.returns-in-Ok
returns-in-Ok c =
    rw c.in-Ok.is at c.read-answer.ensures
