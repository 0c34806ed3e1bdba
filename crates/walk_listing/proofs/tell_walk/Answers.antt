-- The words tell the start and the steps, and the answer its line.
use native.Mathlib.Omega.{arith}
use mathlib.Core.Path.{◌∙◌}
use lib.ListN.{length-take}
use mir.Syntax.{w32}
use mir.ValLaws.{to_z-of_z}
use Rattle.catalogues.specs.Outcome.{room_of}
use Rattle.walk_listing.proofs.Telling.{asked, told}
use Rattle.walk_listing.proofs.tell_walk.Goals as goal

pub returns : goal.returns
returns c =
    let args = c.args in
    let steps = c.steps_of in
    let room = room_of args.links.now args.params.now args.work.now in
    record {
      walk_told = told {room = room}
          (asked {room = room} c.start_of.ensures (to_z-of_z w32 steps.result (record { sfits = steps.type_inv }) ∙ steps.ensures)
          c.walk-answer.ensures.walk)
          c.put_answer.ensures.put_line;
      within = (c.put_answer.ensures.upper_bound, simp length-take (omega (arith, c.put_answer.ensures.upper_bound)));
    }
