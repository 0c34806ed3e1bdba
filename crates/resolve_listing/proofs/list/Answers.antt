-- The targets of a table that reading answers with its counts stand in the header; the answer is reading's own.
use borrow.Author.Rules.{rules}
use Rattle.resolve_listing.proofs.TargetsHeld.{done_targets}
use Rattle.resolve_listing.proofs.list.Goals as goal

pub put_on_base-requires : goal.put_on_base-requires
put_on_base-requires c =
    record {
      targets_held = done_targets c.read-answer.ensures c.in-Ok.is;
      context_in_bounds = search rules;
    }

pub returns-in-Ok : goal.returns-in-Ok
returns-in-Ok c =
    rw c.in-Ok.is at c.read-answer.ensures
