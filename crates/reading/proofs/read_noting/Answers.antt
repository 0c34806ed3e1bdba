-- Each return is one case of the outcome.
use native.Mathlib.Omega.{arith}
use Rattle.reading.proofs.ScanToOutcome.{is_malformed, few_link_slots, few_param_slots, fits, noted, is_done}
use borrow.Author.Rules.{rules}
use Rattle.reading.proofs.read_noting.Goals as goal

pub returns-then-link_room-counts : goal.returns-then-link_room-counts
returns-then-link_room-counts c =
    rw c.into.ensures
    (few_link_slots _ _ _ c.requires c.in-Ok.ensures c.link_room-link_room.ensures c.if-link_room-counts.true)

pub returns-then-param_room-counts : goal.returns-then-param_room-counts
returns-then-param_room-counts c =
    rw c.into-then-param_room-counts.ensures
    (few_param_slots _ _ _ c.requires c.in-Ok.ensures c.link_room-link_room.ensures c.param_room-param_room.ensures c.if-link_room-counts.false c.if-param_room-counts.true)

pub fill-requires : goal.fill-requires
fill-requires c =
    record {
      reading_fits = (
          fits c.args.edition _ _ c.requires c.in-Ok.ensures c.link_room-link_room.ensures
          c.param_room-param_room.ensures c.if-link_room-counts.false c.if-param_room-counts.false);
      header_noted = (
        noted c.args.edition c.args.links.now c.args.params.now c.requires c.in-Ok.ensures,
        omega (arith, c.requires),
      );
    }

pub returns-in-Err : goal.returns-in-Err
returns-in-Err c =
    is_malformed _ _ _ c.requires c.in-Err.ensures

pub returns : goal.returns
returns c =
    is_done _ _ _ c.requires c.in-Ok.ensures c.link_room-link_room.ensures c.param_room-param_room.ensures c.if-link_room-counts.false c.if-param_room-counts.false c.fill.ensures
