-- The cursor passes the token octets in the text cut at the part's end, and from there the bare octets.
use mathlib.Core.Path.{sym}
use lib.Seq.{length-take-le}
use borrow.Author.Rules.{rules}
use Rattle.part_check.proofs.WiderParts.{wider_told}
use Rattle.part_check.proofs.is_wider_part.Goals as goal

pub slice_bounds-past_token-end : goal.slice_bounds-past_token-end
slice_bounds-past_token-end c = sym (length-take-le _ _ c.requires.inside)

pub past_token-k-requires : goal.past_token-k-requires
past_token-k-requires c = (
    rw (length-take-le c.args.part.to.0 _ c.requires.inside)
    c.requires.ordered)

pub slice_bounds-past_further-end : goal.slice_bounds-past_further-end
slice_bounds-past_further-end c = sym (length-take-le _ _ c.requires.inside)

pub past_further-c-requires : goal.past_further-c-requires
past_further-c-requires c = (record { inside = c.past_token-k.ensures.inside; stops = c.past_token-k.ensures.stops })

pub returns : goal.returns
returns c =
    wider_told c.args.edition _ c.requires c.past_token-k.ensures
    c.past_further-c.ensures
