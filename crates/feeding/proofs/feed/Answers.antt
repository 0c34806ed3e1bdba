-- A state names an edition, or is refused before all else.
use Rattle.octets.proofs.Further.{asked_known, asked_unknown}
use Rattle.outcomes.specs.InEdition.{unknown, known}
use Rattle.feeding.proofs.feed.Goals as goal

pub returns-in_default : goal.returns-in_default
returns-in_default c =
    rw (c.refused.ensures, c.into.ensures) (unknown (asked_unknown c.edition_of.ensures c.in_default.is))

pub returns : goal.returns
returns c =
    known (asked_known c.edition_of.ensures c.in-Some.is) c.feed_in.ensures
