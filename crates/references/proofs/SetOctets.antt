-- The grammar's sets hold octets only. Assumes nothing.
use native.Mathlib.Omega.{arith}
use mathlib.Core.Path.{refl}
use Rattle.octets.specs.Text.{octets}
use Rattle.octets.proofs.Octets.{Octets as OctetsOnly, or_octets, between_octets, one_octets, one_of_octets}
use Rattle.references.specs.Octets.{Octets, letter, digit, has}
use Rattle.references.specs.Octets.{ALPHA, DIGIT, HEXDIG, unreserved, sub_delims, colon, slash, question, hash, bracket, end_bracket, at}
use Rattle.references.specs.Octets.{percent, dot, plus, hyphen, vee, from_1_to_9, from_0_to_4, from_0_to_5, digit_1, digit_2, digit_5}

letter_octets : OctetsOnly letter
letter_octets = or_octets (between_octets 65 90 (omega arith)) (between_octets 97 122 (omega arith))

digit_octets : OctetsOnly digit
digit_octets = between_octets 48 57 (omega arith)

pub has_octets : (f : Octets) → OctetsOnly (has f)
has_octets ALPHA = letter_octets
has_octets DIGIT = digit_octets
has_octets HEXDIG = or_octets (or_octets digit_octets (between_octets 65 70 (omega arith))) (between_octets 97 102 (omega arith))
has_octets unreserved = or_octets (or_octets letter_octets digit_octets) (one_of_octets (octets "-._~") refl)
has_octets sub_delims = one_of_octets (octets "!$&'()*+,;=") refl
has_octets colon = one_octets 58 (omega arith)
has_octets slash = one_octets 47 (omega arith)
has_octets question = one_octets 63 (omega arith)
has_octets hash = one_octets 35 (omega arith)
has_octets bracket = one_octets 91 (omega arith)
has_octets end_bracket = one_octets 93 (omega arith)
has_octets at = one_octets 64 (omega arith)
has_octets percent = one_octets 37 (omega arith)
has_octets dot = one_octets 46 (omega arith)
has_octets plus = one_octets 43 (omega arith)
has_octets hyphen = one_octets 45 (omega arith)
has_octets vee = one_of_octets (octets "vV") refl
has_octets from_1_to_9 = between_octets 49 57 (omega arith)
has_octets from_0_to_4 = between_octets 48 52 (omega arith)
has_octets from_0_to_5 = between_octets 48 53 (omega arith)
has_octets digit_1 = one_octets 49 (omega arith)
has_octets digit_2 = one_octets 50 (omega arith)
has_octets digit_5 = one_octets 53 (omega arith)
