-- A number is small, so that the state's doesn't wrap. Assumes nothing.
use Prim.Native.Nat.{◌≤◌}
use native.Mathlib.Omega.{arith}
use lib.Dec.{eqb}
use borrow.Author.Rules.{rules}
use Rattle.reference_sets.specs.Sets.{of}
use Rattle.reference_literal.proofs.Digits.{at_most, number_small}
use Rattle.reference_literal.proofs.groups.later_digit.Goals as goal

pub state_at-requires : goal.state_at-requires
state_at-requires c =
    let small : c.pick.result ≤ 5 =
    rw (c.pick.ensures, c.number.ensures)
    (at_most (eqb c.args.t 0) (omega arith)
    (number_small (of c.args.c) c.args.t)) in
    search rules

pub returns : goal.returns
returns c =
    rw (
      c.pick-2.ensures,
      c.state_at.ensures,
      c.pick.ensures,
      c.number.ensures,
    )
