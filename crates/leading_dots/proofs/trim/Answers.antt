-- What is left has the same beginning once its dot segments go.
use Prim.Native.Nat.{◌-◌}
use native.Mathlib.Omega.{arith}
use mathlib.Core.Path.{refl, sym, ◌∙◌}
use Rattle.resolution.specs.Walking.{trimmed}
use Rattle.leading_dots.proofs.trim.Goals as goal

pub loop-k-init : goal.loop-k-init
loop-k-init c =
    let asked = c.requires in
    (omega arith, asked.ordered, refl)

pub behind_dots-n-requires : goal.behind_dots-n-requires
behind_dots-n-requires c =
    let asked = c.requires in
    record { ordered = c.loop-k.invariant.1; inside = asked.inside }

pub returns-then-n-k : goal.returns-then-n-k
returns-then-n-k c =
    let behind-dots' = c.behind_dots-n in
    let loop' = c.loop-k in
    let i = loop'.invariant in
    record { from = i.0; to = i.1; trimmed = sym (i.2 ∙ behind-dots'.ensures.none c.if-n-k.true) }

pub loop-k-smaller : goal.loop-k-smaller
loop-k-smaller c =
    let behind-dots' = c.behind_dots-n in
    omega (arith, behind-dots'.ensures.from, behind-dots'.ensures.to, c.if-n-k.false)

pub loop-k-preserved : goal.loop-k-preserved
loop-k-preserved c =
    let behind-dots' = c.behind_dots-n in
    let loop' = c.loop-k in
    let i = loop'.invariant in
    let b = behind-dots'.ensures in
    (omega (arith, i.0, b.from), b.to, i.2 ∙ b.one (omega (arith, b.from, c.if-n-k.false)))
