-- The numbers are those of the entry's answer.
use lib.IntN.{ℤ}
use Rattle.catalogues.specs.Outcome.{Walk, room_of}
use Rattle.answers.specs.Walk.{walk_numbers}
use Rattle.pack_walk.specs.Walked.{walk_out}
use Rattle.walking.proofs.Asked.{passed}
use Rattle.capi.proofs.capstan_walk.Goals as goal

pub returns : goal.returns
returns c =
    let g = c.args in
    record {
      walk = rw c.into.ensures
          (passed (λ (z : ℤ). Walk g.catalogue.now (room_of g.links.now g.params.now g.work.now) g.start z (walk_out (walk_numbers c.walk.result)))
          g.steps c.ranges.steps c.walk.ensures.walk);
      left_free = c.walk.ensures.left_free;
    }
