-- The part that is lent is the slice that the contract speaks of.
use Rattle.octets.proofs.Laws.{slice_take_drop}
use Rattle.names.proofs.code.Goals as goal

pub returns : goal.returns
returns c =
    rw (slice_take_drop c.args.name.from.0 c.args.name.to.0 _ c.requires.ordered) c.known.ensures
