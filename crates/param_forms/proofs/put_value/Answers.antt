-- A token stands bare, and any other value in quotes.
use mathlib.Core.Path.{sym, ◌∙◌}
use Rattle.param_forms.proofs.ValueForms.{bare_form, quoted_form}
use borrow.Author.Rules.{rules}
use Rattle.param_forms.proofs.put_value.Goals as goal

pub is_bare-requires : goal.is_bare-requires
is_bare-requires c = (c.requires.good_param)

pub copy_meaning-requires : goal.copy_meaning-requires
copy_meaning-requires c =
    let form = bare_form c.requires.good_param (sym c.is_bare.ensures ∙ c.if-is_bare.true) in
    (c.requires.good_param.value_span, rw form at c.requires.p_in_bounds)

pub returns-then-is_bare : goal.returns-then-is_bare
returns-then-is_bare c =
    let is-bare' = c.is_bare in
    let if1' = c.if-is_bare in
    let form = bare_form c.requires.good_param (sym is-bare'.ensures ∙ if1'.true) in
    rw form c.copy_meaning.ensures

pub put_in_quotes-requires : goal.put_in_quotes-requires
put_in_quotes-requires c =
    let form = quoted_form c.requires.good_param (sym c.is_bare.ensures ∙ c.if-is_bare.false) in
    record {
      in_text = c.requires.good_param.value_span;
      from_in_bounds = rw form at c.requires.p_in_bounds;
    }

pub returns : goal.returns
returns c =
    let is-bare' = c.is_bare in
    let if1' = c.if-is_bare in
    let form = quoted_form c.requires.good_param (sym is-bare'.ensures ∙ if1'.false) in
    rw form c.put_in_quotes.ensures
