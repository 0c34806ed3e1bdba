-- The part is judged as a text of its own. Assumes nothing.
use mathlib.Core.Path.{sym}
use lib.Seq.{length-take-le}
use borrow.Author.Rules.{rules}
use Rattle.reference_scan.proofs.Over.{stopped_over, whole_over}
use Rattle.reference_scan.proofs.run_over.Goals as goal

pub slice_bounds-judge-end : goal.slice_bounds-judge-end
slice_bounds-judge-end c =
    sym (length-take-le c.args.part.to.0 c.args.s.now c.requires.1)

pub judge-j-requires : goal.judge-j-requires
judge-j-requires c = (
    rw (length-take-le c.args.part.to.0 c.args.s.now c.requires.1) c.requires.0)

pub returns-then-j-to : goal.returns-then-j-to
returns-then-j-to c =
    let part = c.args.part in
    stopped_over c.args.s.now part.from.0 c.args.state part.to.0 c.judge-j.result
    c.requires.1
    c.judge-j.ensures
    c.if-j-to.true

pub returns : goal.returns
returns c =
    let part = c.args.part in
    whole_over c.args.s.now part.from.0 c.args.state part.to.0 c.judge-j.result
    c.requires.1
    c.judge-j.ensures
    c.if-j-to.false
