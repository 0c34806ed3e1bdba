-- No slash stands right of the place.
use Prim.Native.Nat.{ℕ, ◌+◌, ◌-◌}
use native.Mathlib.Omega.{arith}
use mathlib.Core.Path.{◌≡◌, refl, ap, ◌∙◌}
use Rattle.resolution.specs.Resolve.{folder}
use Rattle.bare.specs.Bare.{bare_of}
use Rattle.routing.proofs.Folding.{past_other, ends_at_slash, no_slash}
use Rattle.routing.proofs.folder_end.Goals as goal

pub loop-i-init : goal.loop-i-init
loop-i-init c = (c.requires.ordered, refl)

pub returns-then-s-i-eq47 : goal.returns-then-s-i-eq47
returns-then-s-i-eq47 c =
    let h = c.loop-i-test.true in
    let behind : c.loop-i.i - 1 + 1 ≡ c.loop-i.i = omega (arith, h) in
    rw behind
    (ends_at_slash _ _ _ _ h c.loop-i.auto.i c.requires.inside c.loop-i.invariant.1 c.if-s-i-eq47.true)

pub loop-i-preserved : goal.loop-i-preserved
loop-i-preserved c =
    let h = c.loop-i-test.true in
    (omega (arith, h), c.loop-i.invariant.1 ∙ past_other _ _ _ _ h c.loop-i.auto.i c.requires.inside c.if-s-i-eq47.false)

pub returns : goal.returns
returns c =
    let i = c.loop-i.invariant in
    let a = c.args.from.0 in
    let e : c.loop-i.i ≡ a = omega (arith, i.0, c.loop-i-test.false) in
    no_slash _ _ _ c.requires.ordered
    (i.1 ∙ ap (λ (k : ℕ). folder (bare_of c.args.s.now a k)) e)
