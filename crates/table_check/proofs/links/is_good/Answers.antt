-- The rooms are asked first, then whether the links follow one another, and then their parameters.
use borrow.Author.Tests.{ltb-false, not-true, not-false}
use Rattle.part_check.proofs.Deciding.{also, not_so}
use Rattle.table_check.proofs.GoodParts.{fits, good_of, linked_of, params_of, no_link_room, no_param_room}
use Rattle.table_check.proofs.links.is_good.Goals as goal
use Rattle.table_check.proofs.links.is_good.Goals.{then-t-link_room-via-then-t-link_room, then-t-link_room-via-else-t-link_room+then-t-param_room}

pub returns-then-t-link_room : goal.returns-then-t-link_room
returns-then-t-link_room c =
    elim c.then-t-link_room.branch [
      | then-t-link_room-via-then-t-link_room w ↦ no_link_room _ _ _ _ _ _ c.link_room.ensures w.if-t-link_room.true
      | then-t-link_room-via-else-t-link_room+then-t-param_room w ↦
          no_param_room _ _ _ _ _ _ w.param_room.ensures w.if-t-param_room.true
    ]

pub are_linked-requires : goal.are_linked-requires
are_linked-requires c = (fits c.link_room.ensures c.if-t-link_room.false)

pub returns-then-not-are_linked : goal.returns-then-not-are_linked
returns-then-not-are_linked c = not_so (λ g. c.are_linked.ensures.fails (not-true _ c.if-not-are_linked.true-raw) (linked_of _ _ _ _ _ _ g))

pub are_all_good-requires : goal.are_all_good-requires
are_all_good-requires c = (
    record {
      link_room = fits c.link_room.ensures c.if-t-link_room.false;
      param_room = fits c.param_room.ensures (ltb-false _ _ c.if-t-param_room.false-raw);
      follows = (c.are_linked.ensures.holds (not-false _ c.if-not-are_linked.false-raw)).follows;
    })

pub returns : goal.returns
returns c =
    also
    (good_of _ _ _ _ _ _ (fits c.link_room.ensures c.if-t-link_room.false)
    (fits c.param_room.ensures (ltb-false _ _ c.if-t-param_room.false-raw))
    (c.are_linked.ensures.holds (not-false _ c.if-not-are_linked.false-raw)))
    (params_of _ _ _ _ _ _) c.are_all_good.ensures
