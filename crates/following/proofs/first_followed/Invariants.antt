-- The first link that is followed is the one that is looked for, at each turn among those that are left.
use Rattle.tables.specs.Table.{table_of}
use Rattle.following.proofs.LinksLeft.{LinksLeft}
use Rattle.following.proofs.first_followed.Given as goal

abbrev pub invariant-loop-i : goal.invariant-loop-i
invariant-loop-i l =
    LinksLeft (table_of l.t.text.now l.t.links.now l.t.params.now l.t.counts.links l.t.counts.params) l.relation l.i
