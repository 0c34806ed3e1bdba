-- What is left of the links is put one by one, each behind what parts it from the one before.
use Rattle.outcomes.specs.Write.{written_form}
use Rattle.tables.specs.Table.{table_of}
use Rattle.shape.specs.Forms.{links_left}
use Rattle.putting.proofs.PutUpTo.{PutUpTo}
use Rattle.link_forms.proofs.put_links.Given as goal

abbrev pub invariant-loop-i : goal.invariant-loop-i
invariant-loop-i l =
    PutUpTo (links_left l.t.text.now l.t.links.now l.t.params.now l.t.counts.links) l.t.counts.links l.initial.out 0
    (written_form (table_of l.t.text.now l.t.links.now l.t.params.now l.t.counts.links l.t.counts.params)) l.out l.at.0 l.i
