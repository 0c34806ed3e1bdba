-- The octet there is folded to the one asked for, or not.
use mathlib.Core.Path.{sym, ◌∙◌}
use Rattle.decoding.proofs.BehindFront.{no_octet, same_octet, other_octet}
use Rattle.decoding.proofs.fronts.past_octet.Goals as goal

pub returns-in_err-c : goal.returns-in_err-c
returns-in_err-c c = rw c.from_residual.ensures (no_octet c.in_err-c.ensures c.args.x)

pub returns-then-fold-x : goal.returns-then-fold-x
returns-then-fold-x c =
    same_octet c.in_ok-c.ensures c.args.x (sym c.fold.ensures ∙ c.if-fold-x.true)

pub returns-else-fold-x : goal.returns-else-fold-x
returns-else-fold-x c =
    other_octet c.in_ok-c.ensures c.args.x (λ q. c.if-fold-x.false (c.fold.ensures ∙ q))
