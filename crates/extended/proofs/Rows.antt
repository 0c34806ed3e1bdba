-- The rows are as they were judged, by computing. Assumes nothing.
use mathlib.Core.Path.{refl}
use Rattle.octets.specs.Sets.{is_letter, is_digit, is_token, is_hex}
use Rattle.octets.specs.Fold.{fold}
use Rattle.extended.specs.Value.{is_language, is_attribute, hex_value}
use Rattle.extended.specs.Decoded.{decoded}
use Rattle.extended.specs.Rows.{RowsHold}

pub rows_hold : RowsHold
unfolding decoded fold is_language is_attribute hex_value is_letter is_digit is_token is_hex
rows_hold = refl
