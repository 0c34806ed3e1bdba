-- The first parameter named `rel` is asked for its runs; where there is none the link has no relation.
use Rattle.writer.proofs.Relations.{no_rel, rel_span, at_rel}
use Rattle.writer.proofs.related.is_related.Goals as goal

pub first_of-rel-requires : goal.first_of-rel-requires
first_of-rel-requires c = c.requires.room

pub has_runs-requires : goal.has_runs-requires
has_runs-requires c =
    rel_span c.args.text.now c.args.params.now c.args.l c.requires
    (rw c.in-Some.is at c.first_of-rel.ensures)

pub returns-in-Some : goal.returns-in-Some
returns-in-Some c =
    at_rel c.args.text.now c.args.params.now c.args.l c.requires
    (rw c.in-Some.is at c.first_of-rel.ensures) c.has_runs.ensures

pub returns-in-None : goal.returns-in-None
returns-in-None c =
    no_rel c.args.text.now c.args.params.now c.args.l c.requires
    (rw c.in-None.is at c.first_of-rel.ensures)
