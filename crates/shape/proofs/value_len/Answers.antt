-- One law for each form, and one for both forms that are known without a look.
use mathlib.Core.Path.{◌∙◌}
use borrow.Author.Rules.{rules}
use Rattle.shape.proofs.ValueLengths.{token_stands_bare, quoted_inside, meant_length, span_in_quotes}
use Rattle.shape.proofs.value_len.Goals as goal

pub returns-then-p-eq-TOKEN : goal.returns-then-p-eq-TOKEN
returns-then-p-eq-TOKEN c = c.len.ensures ∙ (token_stands_bare c.requires.good_param c.if-p-eq-TOKEN.true).len

pub quoted_len-requires : goal.quoted_len-requires
quoted_len-requires c =
    record {
      in_text = c.requires.good_param.value_span;
      inside = quoted_inside c.requires.good_param c.if-p-eq-QUOTED.true;
      s_len_bound = c.requires.text_len_bound;
    }

pub returns-then-p-eq-QUOTED : goal.returns-then-p-eq-QUOTED
returns-then-p-eq-QUOTED c =
    meant_length c.requires.good_param c.quoted_len.ensures

pub returns : goal.returns
returns c =
    rw c.len-2.ensures (span_in_quotes c.requires.good_param c.if-p-eq-TOKEN.false c.if-p-eq-QUOTED.false)
