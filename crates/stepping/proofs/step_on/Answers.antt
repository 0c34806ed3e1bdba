-- The Link value is accepted, so reading it again refuses nothing.
use Rattle.accepting.proofs.Accepting.{answer_tells}
use Rattle.stepping.proofs.OnPack.{done_table}
use Rattle.stepping.proofs.step_on.Goals as goal

pub step_along-requires : goal.step_along-requires
step_along-requires c =
    record {
      stands = c.requires.stands;
      table_read = done_table c.read_in-answer.ensures c.in-Ok.is;
    }

pub returns-in-Err : goal.returns-in-Err
returns-in-Err c =
    let told = answer_tells c.read_in-answer.result c.read_in-answer.ensures in
    absurd (rw c.in-Err.is at told c.requires.accepted)
