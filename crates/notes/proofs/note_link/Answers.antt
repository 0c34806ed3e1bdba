-- The numbers were put, or there was no room.
use native.Mathlib.Omega.{arith}
use Rattle.records.specs.Slots.{link_numbers}
use Rattle.notes.proofs.InOrder.{noted_put, noted_out}
use Rattle.notes.proofs.note_link.Goals as goal

pub returns-then-n-notes : goal.returns-then-n-notes
returns-then-n-notes c = noted_put c.numbers-numbers.ensures c.put.ensures

pub returns-else-n-notes : goal.returns-else-n-notes
returns-else-n-notes c = noted_out (link_numbers c.args.r) (omega (arith, c.if-n-notes.false))
