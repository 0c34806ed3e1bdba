-- The URI's part and the answer tell the line.
use Rattle.walk_lines.proofs.AnswerLine.{refused_line_lem, ended_line_lem}
use Rattle.walk_lines.proofs.put_answer.Goals as goal

pub returns-in-Ok : goal.returns-in-Ok
returns-in-Ok c =
    let part = c.uri_of-part in record {
      put_line = ended_line_lem c.in-Ok.is part.result.from.0 part.result.to.0 part.ensures c.put_ended.ensures.put;
      upper_bound = c.put_ended.ensures.upper_bound;
    }

pub returns-in-Err : goal.returns-in-Err
returns-in-Err c =
    record {
      put_line = refused_line_lem c.in-Err.is c.put_refused.ensures.put;
      upper_bound = c.put_refused.ensures.upper_bound;
    }
