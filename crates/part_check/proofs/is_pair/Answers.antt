-- No backslash, no room behind it, or what the octet there tells.
use native.Mathlib.Omega.{arith}
use Rattle.part_check.proofs.Deciding.{not_so}
use Rattle.part_check.proofs.PairTold.{pair_told}
use Rattle.part_check.proofs.is_pair.Goals as goal

pub returns-then-s-i-ne92 : goal.returns-then-s-i-ne92
returns-then-s-i-ne92 c = not_so (λ q. c.if-s-i-ne92.true q.backslash.is)

pub returns-then-to-i-lt2 : goal.returns-then-to-i-lt2
returns-then-to-i-lt2 c = not_so (λ q. omega (arith, c.if-to-i-lt2.true, q.room))

pub returns : goal.returns
returns c =
    pair_told _ c.requires.1 c.if-s-i-ne92.false (omega (arith, c.if-to-i-lt2.false)) c.is_in.ensures
