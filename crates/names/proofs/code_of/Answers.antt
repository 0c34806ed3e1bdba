-- The whole text is the span's slice.
use native.Mathlib.Omega.{arith}
use Rattle.kinds.proofs.UpTo.{all_of}
use Rattle.names.proofs.code_of.Goals as goal

pub code-requires : goal.code-requires
code-requires c =
    let part = c.up_to.ensures in record { ordered = omega (arith, part); inside = omega (arith, part) }

pub returns : goal.returns
returns c = rw (all_of c.args.n.now c.up_to.ensures) at c.code.ensures
