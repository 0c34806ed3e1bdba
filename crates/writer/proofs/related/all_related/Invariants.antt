-- The links below i have relations.
use Rattle.tables.specs.Table.{table_of}
use Rattle.writer.proofs.Relations.{RelatedUpTo}
use Rattle.writer.proofs.related.all_related.Given as goal

abbrev pub invariant-loop-i : goal.invariant-loop-i
invariant-loop-i l = RelatedUpTo (table_of l.t.text.now l.t.links.now l.t.params.now l.t.counts.links l.t.counts.params) l.i
