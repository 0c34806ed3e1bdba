use Rattle.dot_walk.proofs.Steps.{held_dots, held_none}
use Rattle.dot_walk.proofs.held_len.Goals as goal

pub returns-then-kind : goal.returns-then-kind
returns-then-kind c = held_dots c.args.kind c.if-kind.true

pub returns-else-kind : goal.returns-else-kind
returns-else-kind c = held_none c.args.kind c.if-kind.false
