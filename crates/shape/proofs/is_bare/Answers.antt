-- A value of form 1 is a token, and of any other what it means is asked.
use mathlib.Core.Path.{sym, ap, ◌∙◌}
use borrow.Author.Rules.{rules}
use Rattle.tables.specs.Written.{is_token_text}
use Rattle.values.proofs.Values.{value_meant}
use Rattle.shape.proofs.ValueLengths.{token_stands_bare}
use Rattle.shape.proofs.is_bare.Goals as goal

pub returns-then-p-eq-TOKEN : goal.returns-then-p-eq-TOKEN
returns-then-p-eq-TOKEN c = (token_stands_bare c.requires c.if-p-eq-TOKEN.true).bare

pub means_token-requires : goal.means_token-requires
means_token-requires c = (c.requires.value_span)

pub returns : goal.returns
returns c = c.means_token.ensures ∙ sym (ap is_token_text (value_meant c.requires))
