-- The loop passes pairs that agree, and the first that doesn't ends it.
use native.Mathlib.Omega.{arith}
use Rattle.folding.proofs.Walking.{other_lengths, none_yet, differ, agree, through}
use Rattle.folding.proofs.compare.Goals as goal

pub returns-then-x-y : goal.returns-then-x-y
returns-then-x-y c =
    let all_of = other_lengths _ _ c.if-x-y.true in record {
      same_value = all_of.0;
      pairs_value = all_of.1;
    }

pub loop-i-init : goal.loop-i-init
loop-i-init c = none_yet c.if-x-y.false

pub returns-then-not-same_octet : goal.returns-then-not-same_octet
returns-then-not-same_octet c =
    let all_of = differ c.loop-i.invariant (omega arith) c.same_octet.ensures c.if-not-same_octet.true-raw in record {
      same_value = all_of.0;
      pairs_value = all_of.1;
    }

pub loop-i-preserved : goal.loop-i-preserved
loop-i-preserved c =
    agree c.loop-i.invariant (omega arith) c.same_octet.ensures c.if-not-same_octet.false-raw

pub returns : goal.returns
returns c =
    let all_of = through c.loop-i.invariant (omega arith) in record {
      same_value = all_of.0;
      pairs_value = all_of.1;
    }
