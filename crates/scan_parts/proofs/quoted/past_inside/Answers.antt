-- The loop passes pairs and runs of plain octets; each return says why it ended there.
use mathlib.Core.Path.{refl}
use Rattle.scan_parts.specs.Scanned.{unquoted}
use Rattle.scan_parts.proofs.InsideSoFar.{begin, since, more, no_octet, no_pair}
use Rattle.scan_parts.proofs.quoted.past_inside.Goals as goal

pub loop-c-init : goal.loop-c-init
loop-c-init c = begin c.past_plain-c.ensures

pub returns-then-not-sees : goal.returns-then-not-sees
returns-then-not-sees c =
    no_octet (since c.past_plain-c.ensures c.loop-c.invariant) c.loop-c-test.ensures c.if-not-sees.ensures

pub returns-then-not-sees_in : goal.returns-then-not-sees_in
returns-then-not-sees_in c =
    no_pair (since c.past_plain-c.ensures c.loop-c.invariant) (c.if-not-sees.ensures.yes refl) c.past_octet-d.ensures
    c.if-not-sees_in.ensures

pub loop-c-preserved : goal.loop-c-preserved
loop-c-preserved c =
    more c.loop-c.invariant (c.if-not-sees.ensures.yes refl) c.past_octet-d.ensures (c.if-not-sees_in.ensures.yes refl)
    c.past_octet.ensures c.past_plain-c-in-loop-c.ensures

pub returns : goal.returns
returns c = unquoted (since c.past_plain-c.ensures c.loop-c.invariant).derived (c.loop-c-test.ensures.yes refl)
