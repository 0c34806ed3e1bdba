-- A link with an `anchor` is passed over. One with none is followed if a run of its first `rel` compares equal to the relation.
use Rattle.tables.proofs.InGood.{link_slots}
use Rattle.following.proofs.FollowsOne.{listed_here, anchored, rel_span, no_rel, by_run}
use Rattle.following.proofs.is_followed.Goals as goal

pub link_at-l-requires : goal.link_at-l-requires
link_at-l-requires c =
    link_slots c.requires.usable.good c.requires.link_lt_links

pub first_of-anchor-requires : goal.first_of-anchor-requires
first_of-anchor-requires c =
    (listed_here c.requires.usable c.requires.link_lt_links c.link_at-l.ensures).room

pub first_of-rel-requires : goal.first_of-rel-requires
first_of-rel-requires c =
    (listed_here c.requires.usable c.requires.link_lt_links c.link_at-l.ensures).room

pub has_run-requires : goal.has_run-requires
has_run-requires c =
    rel_span c.requires.usable c.requires.link_lt_links c.link_at-l.ensures c.in-Some-rel.is c.first_of-rel.ensures

pub returns-in-Some : goal.returns-in-Some
returns-in-Some c =
    anchored c.requires.usable c.requires.link_lt_links c.link_at-l.ensures c.args.relation.now c.in-Some.is
    c.first_of-anchor.ensures

pub returns-in-None-rel : goal.returns-in-None-rel
returns-in-None-rel c =
    no_rel c.requires.usable c.requires.link_lt_links c.link_at-l.ensures c.args.relation.now
    c.in-None.is c.first_of-anchor.ensures c.first_of-rel.ensures
    c.in-None-rel.is

pub returns-in-Some-rel : goal.returns-in-Some-rel
returns-in-Some-rel c =
    by_run c.requires.usable c.requires.link_lt_links c.link_at-l.ensures c.args.relation.now c.in-None.is
    c.first_of-anchor.ensures c.first_of-rel.ensures c.in-Some-rel.is c.has_run.ensures
