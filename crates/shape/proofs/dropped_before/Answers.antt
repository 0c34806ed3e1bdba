-- One case of the definition for each branch.

use Rattle.shape.proofs.dropped_before.Goals as goal

pub returns-then-c : goal.returns-then-c
returns-then-c c = rw c.if-c.true

pub returns-else-c : goal.returns-else-c
returns-else-c c = rw c.if-c.false
