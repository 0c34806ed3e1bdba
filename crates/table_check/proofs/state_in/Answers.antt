-- The length is tested first, and then the table.
use borrow.Author.Tests.{not-true}
use Rattle.outcomes.specs.Usable.{long_text, not_good}
use Rattle.table_check.proofs.state_in.Goals as goal

pub returns-then-t-gt-LIMIT : goal.returns-then-t-gt-LIMIT
returns-then-t-gt-LIMIT c = long_text c.if-t-gt-LIMIT.true

pub returns-then-not-is_good : goal.returns-then-not-is_good
returns-then-not-is_good c = not_good c.if-t-gt-LIMIT.false (c.is_good.ensures.fails (not-true _ c.if-not-is_good.true-raw))
