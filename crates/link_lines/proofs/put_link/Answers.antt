-- The link's answer tells its line.
use borrow.Author.Rules.{rules}
use Rattle.link_lines.proofs.AnswerLine.{resolved_held}
use Rattle.link_lines.proofs.put_link.Goals as goal

pub put_answer-requires : goal.put_answer-requires
put_answer-requires c =
    record {
      holds = resolved_held c.resolve_link-answer.ensures;
      context_in_bounds = search rules;
    }

pub returns : goal.returns
returns c =
    let link = c.resolve_link-answer in
    record {
      line_on = record { answer = link.result; resolved = link.ensures; line = c.put_answer.ensures.put };
      upper_bound = c.put_answer.ensures.upper_bound;
    }
