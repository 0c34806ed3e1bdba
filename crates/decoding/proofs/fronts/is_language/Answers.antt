-- It is its definition.
use mathlib.Core.Path.{refl}
use Rattle.octets.specs.Sets.{is_letter, is_digit}
use Rattle.extended.specs.Value.{is_language}
use Rattle.decoding.proofs.fronts.is_language.Goals as goal

pub returns : goal.returns
unfolding is_language is_letter is_digit
returns c = refl
