-- Each stretch of the states has its function. Assumes nothing.
use mathlib.Core.Path.{sym}
use Rattle.reference_sets.proofs.Moves.{no_step}
use Rattle.reference_octet.proofs.next.Goals as goal

pub returns : goal.returns
returns c =
    sym (no_step c.args.q c.args.c c.if-q-lt580.false)
