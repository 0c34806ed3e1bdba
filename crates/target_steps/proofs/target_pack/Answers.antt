-- The result is written whole, and looked for.
use mathlib.Core.Path.{sym}
use lib.Seq.{length-take-le}
use Rattle.target_steps.proofs.Numbers.{held}
use Rattle.target_steps.proofs.Resolving.{wrote}
use Rattle.target_steps.proofs.Leading.{over_uri, over_result, leads_as_found}
use Rattle.target_steps.proofs.target_pack.Goals as goal

pub returns-then-uri-gt-LIMIT : goal.returns-then-uri-gt-LIMIT
returns-then-uri-gt-LIMIT c =
    let g = c.args in
    over_uri g.p.now.text.now g.p.now.index.now g.p.now.count g.uri.now g.value.now g.target.from.0 g.target.to.0 c.if-uri-gt-LIMIT.true

pub slice_bounds-find-end : goal.slice_bounds-find-end
slice_bounds-find-end c = (wrote c.put_resolved.ensures c.in-Ok.is).inside

pub slice_bounds-find-end-2 : goal.slice_bounds-find-end-2
slice_bounds-find-end-2 c = sym (length-take-le _ _ (wrote c.put_resolved.ensures c.in-Ok.is).inside)

pub find-requires : goal.find-requires
find-requires c = held c.requires.stands.0

pub returns-in_default : goal.returns-in_default
returns-in_default c =
    let g = c.args in
    over_result g.p.now.text.now g.p.now.index.now g.p.now.count g.uri.now g.value.now g.target.from.0 g.target.to.0
    c.requires.in_text.1 c.if-uri-gt-LIMIT.false c.put_resolved.ensures c.in_default.is c.requires.stands.2

pub returns : goal.returns
returns c =
    let g = c.args in
    leads_as_found g.p.now.text.now g.p.now.index.now g.p.now.count g.uri.now g.value.now g.target.from.0 g.target.to.0
    c.requires.in_text.1 c.if-uri-gt-LIMIT.false c.put_resolved.ensures c.in-Ok.is c.find.result c.find.ensures c.ok_or.ensures.value
