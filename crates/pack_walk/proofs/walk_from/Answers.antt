-- The start is asked for first, and then the octets.
use native.Mathlib.Omega.{arith}
use Rattle.pack_walk.specs.Walked.{no_start, no_octets, from_start}
use Rattle.pack_walk.proofs.walk_from.Goals as goal

pub returns-then-start-p : goal.returns-then-start-p
returns-then-start-p c = no_start c.if-start-p.true

pub returns-then-work-lt-LIMIT : goal.returns-then-work-lt-LIMIT
returns-then-work-lt-LIMIT c = no_octets c.if-start-p.false c.if-work-lt-LIMIT.true

pub walk_on-requires : goal.walk_on-requires
walk_on-requires c = (c.requires.0, c.if-start-p.false, c.if-work-lt-LIMIT.false, omega (arith, c.requires.1))

pub returns : goal.returns
returns c = from_start c.if-start-p.false c.if-work-lt-LIMIT.false c.walk_on.ensures
