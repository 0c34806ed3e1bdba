-- The state is the one left of what was passed.
use Prim.Native.Nat.{ℕ}
use native.Mathlib.Omega.{arith}
use mathlib.Core.Path.{◌≡◌, sym, ap, ◌∙◌}
use Rattle.resolution.specs.Walking.{run}
use Rattle.resolution.specs.declared.Walk.{Walk}
use Rattle.bare.specs.Bare.{bare_of}
use Rattle.bare.proofs.Bare.{bare_of_empty}
use Rattle.dot_walk.proofs.Leftwards.{kept_small, pending_small, run_left}
use Rattle.dot_walk.proofs.walk.Goals as goal

pub loop-i-init : goal.loop-i-init
loop-i-init c = (
  c.requires.in_text.0.ordered,
  sym
      (ap (λ w. run w c.args.begun) (bare_of_empty c.args.s.now c.args.part.to.0)),
)

pub passed-t-requires : goal.passed-t-requires
passed-t-requires c =
    let loop' = c.loop-i in
    let given = c.args in
    let i = loop'.invariant in
    let s = given.s.now in
    let to = given.part.to.0 in
    let k = kept_small s to given.begun c.requires.in_text.0.inside c.requires.in_text.1 c.requires.kept_bound.0 c.requires.kept_bound.1 loop'.i in
    let q = pending_small s to given.begun c.requires.in_text.0.inside c.requires.in_text.1 c.requires.kept_bound.0 c.requires.kept_bound.1 loop'.i in
    (omega (arith, q, ap (λ (t : Walk). t.pending) i.1), omega (arith, k, ap (λ (t : Walk). t.kept) i.1))

pub loop-i-preserved : goal.loop-i-preserved
loop-i-preserved c =
    let test = c.loop-i-test in
    let loop' = c.loop-i in
    let given = c.args in
    let i = loop'.invariant in
    let h = test.true in
    let left = run_left given.s.now given.part.to.0 given.begun loop'.i (omega (arith, h)) loop'.auto.i c.requires.in_text.0.inside in
    (omega (arith, h), left i.1 c.passed-t.ensures)

pub returns : goal.returns
returns c =
    let given = c.args in
    let i = c.loop-i.invariant in
    let e : c.loop-i.i ≡ given.part.from.0 = omega (arith, i.0, c.loop-i-test.false) in
    i.1 ∙ ap (λ (k : ℕ). run (bare_of given.s.now k given.part.to.0) given.begun) e
