-- The relation is that of the way.
use Rattle.stepping.proofs.followed.Goals as goal

pub returns-in-Next : goal.returns-in-Next
returns-in-Next c = rw c.in-Next.is c.first_followed.ensures

pub returns-in-Prev : goal.returns-in-Prev
returns-in-Prev c = rw c.in-Prev.is c.first_followed-in-Prev.ensures
