-- A backslash sends on to the octet behind it, and any other octet stands for itself.
use Rattle.values.proofs.Meant.{at_plain, behind_backslash}
use Rattle.values.proofs.meant_at.Goals as goal

pub returns-then-s-at-eq92 : goal.returns-then-s-at-eq92
returns-then-s-at-eq92 c =
    let pre' = c.requires in
    behind_backslash pre'.0 pre'.1 c.if-s-at-eq92.true c.next.ensures

pub returns-else-s-at-eq92 : goal.returns-else-s-at-eq92
returns-else-s-at-eq92 c = at_plain c.requires.0 c.requires.1 c.if-s-at-eq92.false
