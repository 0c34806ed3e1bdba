-- The part of the text is the one that the answer names, and a refusal is no octet of the base.
use native.Mathlib.Omega.{arith}
use mathlib.Core.Path.{◌≡◌, refl, sym}
use borrow.Author.Rules.{rules}
use lib.ListN.{length}
use lib.Seq.{take-length}
use Rattle.answers.specs.Context.{context_out}
use Rattle.std.specs.Prelude.{Ok}
use Rattle.answers.specs.declared.context_answer.Context.TheVariants.{Anchored, Base}
use Rattle.context.proofs.Anchored.{within, told_outcome, hands, text_part, in_text, at_base}
use Rattle.context.proofs.context.Goals as goal

pub slice_bounds-result-count : goal.slice_bounds-result-count
slice_bounds-result-count c =
    let told : c.context_of-answer.result ≡ Ok (Anchored c.in-Ok-Anchored.span) = grind arith in
    let part = within c.context_of-answer.ensures told in omega arith

pub returns-in-Ok-Anchored : goal.returns-in-Ok-Anchored
returns-in-Ok-Anchored c =
    let told : c.context_of-answer.result ≡ Ok (Anchored c.in-Ok-Anchored.span) = grind arith in
    let known = c.context_of-answer.ensures in
    record {
      out = context_out (length c.args.base.now) (Ok (Anchored c.in-Ok-Anchored.span));
      outcome = told_outcome known told c.args.base.now;
      octets = text_part known told;
      place = in_text c.args.t.now.text c.in-Ok-Anchored.span.from.0;
    }

pub returns-in-Ok-Base : goal.returns-in-Ok-Base
returns-in-Ok-Base c =
    let told : c.context_of-answer.result ≡ Ok Base = search rules in
    hands c.context_of-answer.ensures told c.args.t.now.text c.args.base
    (sym (take-length c.args.base.now)) (at_base c.args.base)

pub returns-in-Err : goal.returns-in-Err
returns-in-Err c =
    hands c.context_of-answer.ensures c.in-Err.is c.args.t.now.text c.args.base refl
    (at_base c.args.base)
