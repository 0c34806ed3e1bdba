-- The fronts lead to the characters, and these are counted.
use Rattle.decoding.proofs.Judging.{no_chars, chars_there, unfit, fit}
use Rattle.decoding.proofs.judge.Goals as goal

pub returns-in_err-chars : goal.returns-in_err-chars
returns-in_err-chars c =
    rw c.from_residual.ensures (no_chars (chars_there _ _ c.past_charset-language.ensures c.in_err-chars.ensures))

pub returns-in_err-count : goal.returns-in_err-count
returns-in_err-count c =
    rw c.from_residual-in_err-count.ensures
    (unfit _ (chars_there _ _ c.past_charset-language.ensures c.in_ok-chars.ensures) c.in_err-count.ensures)

pub returns : goal.returns
returns c =
    fit _ (chars_there _ _ c.past_charset-language.ensures c.in_ok-chars.ensures) c.in_ok-count.ensures
