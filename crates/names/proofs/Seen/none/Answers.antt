-- The record is that of the definition.
use mathlib.Core.Path.{refl}
use Rattle.names.specs.Remembers.{none_seen}
use Rattle.names.proofs.Seen.none.Goals as goal

pub returns : goal.returns
unfolding none_seen
returns c = refl
