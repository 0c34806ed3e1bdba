-- Some of the folder stays, or all of it goes.
use native.Mathlib.Omega.{arith}
use Rattle.routing.proofs.Laying.{own_trimmed, own_whole}
use Rattle.routing.proofs.lay.Goals as goal

pub trim-from-requires : goal.trim-from-requires
trim-from-requires c = c.requires.plans.folder

pub returns-then-from-folder : goal.returns-then-from-folder
returns-then-from-folder c =
    let t = c.trim-from.ensures in
    rw c.route_of.ensures
    (own_whole _ _ _ _ _ c.requires.in_text.0 c.requires.in_text.1 c.requires.plans _ t c.requires.free c.if-from-folder.true)

pub trim-requires : goal.trim-requires
trim-requires c =
    let p = c.requires.in_text in
    let k = p.1 in
    record { ordered = k.query_after; inside = omega (arith, k.fragment_after, k.in_part, p.0.inside) }

pub returns : goal.returns
returns c =
    let t = c.trim-from.ensures in
    rw c.route_of-2.ensures
    (own_trimmed _ _ _ _ _ c.requires.in_text.0 c.requires.in_text.1 c.requires.plans _ t c.if-from-folder.false _
    c.trim.ensures)
