-- The loop passes triples and runs of target octets; each return says why it ended there.
use mathlib.Core.Path.{refl}
use borrow.Author.Rules.{rules}
use Rattle.scan_parts.specs.Scanned.{closed}
use Rattle.scan_parts.proofs.TargetSoFar.{begin, since, more, no_octet, no_triple}
use Rattle.scan_parts.proofs.target.past_units.Goals as goal

pub loop-c-init : goal.loop-c-init
loop-c-init c = begin c.past_target-c.ensures

pub returns-then-not-sees : goal.returns-then-not-sees
returns-then-not-sees c =
    no_octet (since c.past_target-c.ensures c.loop-c.invariant) c.loop-c-test.ensures c.if-not-sees.ensures

pub returns-in_err-d : goal.returns-in_err-d
returns-in_err-d c =
    search (
      rules,
      no_triple (since c.past_target-c.ensures c.loop-c.invariant) (c.if-not-sees.ensures.yes refl) c.past_octet.ensures
          c.in_err-d.ensures,
    )

pub loop-c-preserved : goal.loop-c-preserved
loop-c-preserved c =
    more c.loop-c.invariant (c.if-not-sees.ensures.yes refl) c.past_octet.ensures c.in_ok-d.ensures
    c.past_target-c-in-loop-c.ensures

pub returns : goal.returns
returns c = closed (since c.past_target-c.ensures c.loop-c.invariant).derived (c.loop-c-test.ensures.yes refl)
