-- What is counted and what is left make the whole at each turn, until the limit is passed.
use mathlib.Core.Bool.{not}
use lib.Dec.{eqb}
use Rattle.tables.specs.Table.{table_of}
use Rattle.measuring.proofs.MeasuredUpTo.{LinksMeasured}
use Rattle.measuring.proofs.measure_form.Given as goal

abbrev pub invariant-loop-i : goal.invariant-loop-i
invariant-loop-i g l =
    LinksMeasured (not (eqb g.row.EXACT 0)) (table_of l.t.text.now l.t.links.now l.t.params.now l.t.counts.links l.t.counts.params) l.n l.i
