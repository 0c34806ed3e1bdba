-- No octet of the set has come before the loop's place.
use mathlib.Core.Path.{sym, ◌∙◌}
use Rattle.components.proofs.Ends.{ends_bare}
use Rattle.components.proofs.Finding.{none_looked, look_on, found, found_end}
use Rattle.components.proofs.find.Goals as goal

pub loop-i-init : goal.loop-i-init
loop-i-init c = none_looked _ _ _ _ c.requires.ordered

pub stops_at-requires : goal.stops_at-requires
stops_at-requires c = tt

pub returns-then-stops_at : goal.returns-then-stops_at
returns-then-stops_at c =
    let ends = sym c.stops_at.ensures ∙ c.if-stops_at.true in
    found c.loop-i.invariant c.loop-i-test.true c.requires.inside (ends_bare c.args.stops) ends

pub loop-i-preserved : goal.loop-i-preserved
loop-i-preserved c =
    let stays = sym c.stops_at.ensures ∙ c.if-stops_at.false in
    look_on c.loop-i.invariant c.loop-i-test.true c.requires.inside stays

pub returns : goal.returns
returns c = found_end c.loop-i.invariant c.loop-i-test.false
