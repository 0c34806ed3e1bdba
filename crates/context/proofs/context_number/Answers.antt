-- The answer, with the base.
use Rattle.context.proofs.context_number.Goals as goal

pub returns : goal.returns
returns c = c.context_of.ensures.outcome c.args.base.now
