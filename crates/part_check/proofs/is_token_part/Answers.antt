-- The cursor passes the run of token octets in the text cut at the part's end.
use mathlib.Core.Path.{sym}
use lib.Seq.{length-take-le}
use borrow.Author.Rules.{rules}
use Rattle.part_check.proofs.Tokens.{token_told}
use Rattle.part_check.proofs.is_token_part.Goals as goal

pub slice_bounds-past_token-end : goal.slice_bounds-past_token-end
slice_bounds-past_token-end c = sym (length-take-le _ _ c.requires.inside)

pub past_token-c-requires : goal.past_token-c-requires
past_token-c-requires c = (
    rw (length-take-le c.args.part.to.0 _ c.requires.inside)
    c.requires.ordered)

pub returns : goal.returns
returns c = token_told _ c.requires c.past_token-c.ensures
