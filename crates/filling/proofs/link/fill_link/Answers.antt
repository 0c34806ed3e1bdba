-- The target's end is known to stand there, so its parameters can be filled in, and then the link's own record.
use borrow.Author.Rules.{rules}
use Rattle.filling.proofs.OneLinkWritten.{known_target, before_params, link_room, link_filled}
use Rattle.filling.proofs.link.fill_link.Goals as goal

pub target_end-t-requires : goal.target_end-t-requires
target_end-t-requires c = known_target c.requires

pub past_octet-requires : goal.past_octet-requires
past_octet-requires c = c.target_end-t.ensures.1.inside

pub fill_params-behind-requires : goal.fill_params-behind-requires
fill_params-behind-requires c = (
    before_params c.requires c.target_end-t.ensures c.past_octet.ensures)

pub put_link-requires : goal.put_link-requires
put_link-requires c =
    link_room c.requires c.target_end-t.ensures c.past_octet.ensures

pub returns : goal.returns
returns c =
    link_filled c.requires c.target_end-t.ensures c.past_octet.ensures c.fill_params-behind.ensures
    c.span_to-target.ensures c.put_link.ensures
