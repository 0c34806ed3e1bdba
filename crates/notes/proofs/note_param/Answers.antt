-- The numbers were put, or there was no room.
use native.Mathlib.Omega.{arith}
use Rattle.records.specs.Slots.{param_numbers}
use Rattle.notes.proofs.InOrder.{noted_none, noted_put, noted_out}
use Rattle.notes.proofs.note_param.Goals as goal

pub returns-then-again : goal.returns-then-again
returns-then-again c = rw c.if-again.true (noted_none _ _)

pub returns-then-n-notes : goal.returns-then-n-notes
returns-then-n-notes c =
    rw c.if-again.false (noted_put c.numbers-numbers.ensures c.put.ensures)

pub returns-else-n-notes : goal.returns-else-n-notes
returns-else-n-notes c =
    rw c.if-again.false (noted_out (param_numbers c.args.r) (omega (
      arith,
      c.if-n-notes.false,
    )))
