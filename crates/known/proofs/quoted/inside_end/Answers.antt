-- The loop passes pairs and plain octets, up to the first quote that stands for itself.
use Prim.Native.Nat.{◌-◌}
use native.Mathlib.Omega.{arith}
use Rattle.known.proofs.QuoteCloses.{quoting, quoting_inside, quoted_all, pair_inside, quoting_pair, quoting_on}
use Rattle.known.proofs.quoted.inside_end.Goals as goal

pub loop-c-init : goal.loop-c-init
loop-c-init c = quoting c.requires

pub returns-then-sees : goal.returns-then-sees
returns-then-sees c = quoted_all c.loop-c.invariant (c.sees.ensures.yes c.if-sees.true)

pub past_octet-requires : goal.past_octet-requires
past_octet-requires c = quoting_inside c.loop-c.invariant

pub past_octet-c-requires : goal.past_octet-c-requires
past_octet-c-requires c =
    pair_inside c.loop-c.invariant
    (c.sees-in-loop-c.ensures.yes c.if-sees-2.true) c.past_octet.ensures

pub loop-c-smaller-then-sees-2 : goal.loop-c-smaller-then-sees-2
loop-c-smaller-then-sees-2 c =
    omega (
      arith,
      c.past_octet-c.ensures,
      c.past_octet.ensures,
      quoting_inside c.loop-c.invariant,
    )

pub loop-c-preserved-then-sees-2 : goal.loop-c-preserved-then-sees-2
loop-c-preserved-then-sees-2 c =
    quoting_pair c.loop-c.invariant
    (c.sees-in-loop-c.ensures.yes c.if-sees-2.true) c.past_octet.ensures
    c.past_octet-c.ensures

pub past_octet-c-requires-in-loop-c : goal.past_octet-c-requires-in-loop-c
past_octet-c-requires-in-loop-c c = quoting_inside c.loop-c.invariant

pub loop-c-smaller : goal.loop-c-smaller
loop-c-smaller c =
    omega (arith, c.past_octet-c-in-loop-c.ensures, quoting_inside c.loop-c.invariant)

pub loop-c-preserved : goal.loop-c-preserved
loop-c-preserved c =
    quoting_on c.loop-c.invariant c.sees.ensures
    c.if-sees.false c.sees-in-loop-c.ensures c.if-sees-2.false
    c.past_octet-c-in-loop-c.ensures
