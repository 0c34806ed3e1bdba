-- The target's octets are those of the link's record; what both entries answer tells how the link is resolved.
use Rattle.std.proofs.lemmas.Result.{err_from_is_err_and}
use Rattle.lent.specs.Lent.{lent}
use Rattle.link_lines.proofs.LinkOutcome.{no_target, no_context, both_written}
use Rattle.link_lines.proofs.resolve_link.Goals as goal

pub returns-in_err-n : goal.returns-in_err-n
returns-in_err-n c =
    let a = c.args in
    let t = lent a.t.now in
    let p = err_from_is_err_and c.from_residual.result c.from_residual.ensures.1 in
    rw (p.1, p.2)
    (no_target a.edition t a.base.now a.link.0 a.target.now a.context.now c.requires c.link_at.ensures
    c.resolve.ensures c.in_err-n.was)

pub returns-in_err-m : goal.returns-in_err-m
returns-in_err-m c =
    let a = c.args in
    let t = lent a.t.now in
    let p = err_from_is_err_and c.from_residual-in_err-m.result c.from_residual-in_err-m.ensures.1 in
    rw (p.1, p.2)
    (no_context a.edition t a.base.now a.link.0 a.target.now a.context.now c.requires c.link_at.ensures
    c.resolve.ensures c.in_ok-n.was c.resolved_context.ensures c.in_err-m.was)

pub returns : goal.returns
returns c =
    let a = c.args in
    let t = lent a.t.now in
    both_written a.edition t a.base.now a.link.0 a.target.now a.context.now c.requires c.link_at.ensures
    c.resolve.ensures c.in_ok-n.was c.resolved_context.ensures c.in_ok-m.was
