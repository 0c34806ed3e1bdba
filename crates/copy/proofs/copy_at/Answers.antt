-- The value of the parameter that the link and the index name is copied.
use native.Mathlib.Omega.{arith}
use Rattle.outcomes.specs.Copy.{no_such_link, no_such_param}
use Rattle.copy.proofs.Copying.{counted, in_room, at_index, value_inside, in_room_copied}
use Rattle.copy.proofs.copy_at.Goals as goal

pub returns-then-link-t : goal.returns-then-link-t
returns-then-link-t c = no_such_link c.if-link-t.true

pub returns-then-index-l : goal.returns-then-index-l
returns-then-index-l c =
    no_such_param c.if-link-t.false
    (counted c.requires c.if-link-t.false c.link_at-l.ensures c.if-index-l.true)

pub plus-requires : goal.plus-requires
plus-requires c =
    omega (
      arith,
      in_room c.requires c.if-link-t.false c.link_at-l.ensures c.if-index-l.false,
      c.told-t,
    )

pub parts_at-p-requires : goal.parts_at-p-requires
parts_at-p-requires c =
    rw c.plus.ensures
    (in_room c.requires c.if-link-t.false c.link_at-l.ensures c.if-index-l.false)

pub copy_part-requires : goal.copy_part-requires
copy_part-requires c =
    let w =
    at_index c.requires c.if-link-t.false c.link_at-l.ensures c.if-index-l.false
    c.plus.ensures c.parts_at-p.ensures
    in
    value_inside w

pub returns : goal.returns
returns c =
    let w =
    at_index c.requires c.if-link-t.false c.link_at-l.ensures c.if-index-l.false
    c.plus.ensures c.parts_at-p.ensures
    in
    in_room_copied w c.copy_part.ensures
