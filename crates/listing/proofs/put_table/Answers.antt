-- The loop passes the links: what is left of the table tells that each one's parameters stand in the slots.
use Prim.Native.Nat.{◌-◌}
use Rattle.kinds.proofs.Counted.{from_first}
use Rattle.listing.proofs.TableLeft.{begin, link_room, params_inside, on}
use Rattle.listing.proofs.put_table.Goals as goal

pub loop-i-init : goal.loop-i-init
loop-i-init c = begin c.requires

pub link_at-l-requires : goal.link_at-l-requires
link_at-l-requires c =
    rw (from_first c.first-first.ensures c.plus-n.ensures) (link_room c.loop-i.invariant c.loop-i-test.true)

pub put_params-requires : goal.put_params-requires
put_params-requires c =
    params_inside c.loop-i.invariant c.loop-i-test.true
    (rw (from_first c.first-first.ensures c.plus-n.ensures) at c.link_at-l.ensures)

pub loop-i-preserved : goal.loop-i-preserved
loop-i-preserved c =
    on c.loop-i.invariant c.loop-i-test.true
