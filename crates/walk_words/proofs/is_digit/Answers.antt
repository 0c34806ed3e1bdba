-- The octet is compared with both ends.
use mathlib.Core.Path.{refl}
use Rattle.octets.specs.Sets.{is_digit}
use Rattle.walk_words.proofs.is_digit.Goals as goal

pub returns : goal.returns
unfolding is_digit
returns c = refl
