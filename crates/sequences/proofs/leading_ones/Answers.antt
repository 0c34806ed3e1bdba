-- The complement's leading zeros are the octet's leading ones.
use borrow.Author.Rules.{rules}
use Rattle.sequences.proofs.ByLength.{complement_zeros}
use Rattle.sequences.proofs.leading_ones.Goals as goal

pub returns : goal.returns
returns c = complement_zeros c.args.first (search rules)
