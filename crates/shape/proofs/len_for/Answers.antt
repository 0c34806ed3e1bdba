-- One case of the definition for each branch.
use Rattle.shape.proofs.len_for.Goals as goal

pub returns-then-n-tokens : goal.returns-then-n-tokens
returns-then-n-tokens c = rw c.if-n-tokens.true

pub returns-else-n-tokens : goal.returns-else-n-tokens
returns-else-n-tokens c = rw c.if-n-tokens.false
