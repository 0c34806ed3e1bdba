use native.Mathlib.Omega.{arith}
use mathlib.Core.Path.{subst}
use Prim.Native.Nat.{ℕ}
use Rattle.leading_dots.specs.Leads.{Behind}
use Rattle.leading_dots.proofs.Reading.{no_dots, only_dots, dots_and_other, dots_and_slash}
use Rattle.leading_dots.proofs.behind_dots.Goals as goal

pub returns-then-first-k : goal.returns-then-first-k
returns-then-first-k c =
    let behind' = c.behind-first in
    let asked = c.requires in
    let given = c.args in
    let s = given.s.now in
    no_dots s _ _ asked.ordered (subst (λ (x : ℕ). Behind s given.k.0 given.to.0 46 x) c.if-first-k.true behind'.ensures)

pub returns-then-p-to : goal.returns-then-p-to
returns-then-p-to c =
    let past' = c.past-p in
    let behind2' = c.behind-second in
    let if1' = c.if-first-k in
    let behind' = c.behind-first in
    only_dots _ _ _ _ _ _ behind'.ensures (omega (arith, behind'.ensures.from, if1'.false)) behind2'.ensures past'.ensures
    c.if-p-to.true

pub returns-then-s-i-ne47 : goal.returns-then-s-i-ne47
returns-then-s-i-ne47 c =
    let if2' = c.if-p-to in
    let past' = c.past-p in
    let behind2' = c.behind-second in
    let if1' = c.if-first-k in
    let behind' = c.behind-first in
    let asked = c.requires in
    dots_and_other _ _ _ _ _ _ behind'.ensures (omega (arith, behind'.ensures.from, if1'.false)) behind2'.ensures past'.ensures
    if2'.false
    asked.inside c.if-s-i-ne47.true

pub returns : goal.returns
returns c =
    let if2' = c.if-p-to in
    let past' = c.past-p in
    let behind2' = c.behind-second in
    let if1' = c.if-first-k in
    let behind' = c.behind-first in
    let asked = c.requires in
    rw c.next.ensures
    (dots_and_slash _ _ _ _ _ _ behind'.ensures (omega (arith, behind'.ensures.from, if1'.false)) behind2'.ensures
    past'.ensures if2'.false
    asked.inside c.if-s-i-ne47.false)
