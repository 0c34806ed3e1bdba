-- The first parameter named `anchor` is the link's anchor.
use Rattle.tables.proofs.InGood.{link_slots}
use Rattle.context.proofs.Anchored.{listed_here, is_anchored, is_base}
use Rattle.context.proofs.anchor_of.Goals as goal

pub link_at-l-requires : goal.link_at-l-requires
link_at-l-requires c = link_slots c.requires.usable.good c.requires.link_lt_links

pub first_of-anchor-requires : goal.first_of-anchor-requires
first_of-anchor-requires c =
    (listed_here c.requires.usable c.requires.link_lt_links c.link_at-l.ensures).room

pub returns-in-Some : goal.returns-in-Some
returns-in-Some c =
    let first-of' = c.first_of-anchor in
    is_anchored c.requires.usable c.requires.link_lt_links c.link_at-l.ensures first-of'.result first-of'.ensures
    c.in-Some.is

pub returns-in-None : goal.returns-in-None
returns-in-None c =
    let first-of' = c.first_of-anchor in
    is_base c.requires.usable c.requires.link_lt_links c.link_at-l.ensures first-of'.result first-of'.ensures
    c.in-None.is
