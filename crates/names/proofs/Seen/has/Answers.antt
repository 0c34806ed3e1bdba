-- The expression is that of the definition.
use mathlib.Core.Path.{refl}
use Rattle.names.specs.Remembers.{has_code}
use Rattle.names.proofs.Seen.has.Goals as goal

pub returns : goal.returns
unfolding has_code
returns c = refl
