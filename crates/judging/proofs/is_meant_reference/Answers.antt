-- What is left of the meaning leads on from the state at each turn to where all of it leads. Assumes nothing.
-- behind a backslash and its octet
use Prim.Native.Nat.{ℕ, ◌+◌, ◌-◌}
use native.Mathlib.Omega.{arith}
use mathlib.Core.Path.{◌≡◌, refl, sym, ap, ◌∙◌}
use lib.Seq.{length-take-le}
use borrow.Author.Rules.{rules}
use Rattle.reference_steps.specs.Machine.{run, accepts}
use Rattle.reference_scan.proofs.Over.{nowhere}
use Rattle.values.specs.Rest.{rest}
use Rattle.judging.proofs.MeantRun.{judged_all, judged_stuck, judged_lone, judged_pair}
use Rattle.judging.proofs.is_meant_reference.Goals as goal

pub loop-j-init : goal.loop-j-init
loop-j-init c = (c.requires.ordered, λ e. omega arith, refl)

pub slice_bounds-judge-end : goal.slice_bounds-judge-end
slice_bounds-judge-end c =
    sym (length-take-le c.args.part.to.0 c.args.s.now c.requires.inside)

pub judge-j-requires : goal.judge-j-requires
judge-j-requires c = (
    rw (length-take-le c.args.part.to.0 c.args.s.now c.requires.inside) c.loop-j.invariant.0)

pub returns-then-k-to : goal.returns-then-k-to
returns-then-k-to c =
    let loop' = c.loop-j in
    let judged = c.judge-j.ensures in
    c.accepts.ensures
    ∙ ap accepts
    (sym
    (loop'.invariant.2 ∙ judged_all c.args.s.now c.requires.inside loop'.invariant.1 judged c.if-k-to.true))

pub bounds-s-k : goal.bounds-s-k
bounds-s-k c = omega arith

pub returns-then-s-k-ne92 : goal.returns-then-s-k-ne92
returns-then-s-k-ne92 c =
    let judged = c.judge-j.ensures in
    let stuck =
    judged_stuck c.args.s.now c.requires.inside c.loop-j.invariant.1 judged c.if-k-to.false c.if-s-k-ne92.true
    in
    sym (ap accepts (c.loop-j.invariant.2 ∙ stuck))

pub overflow_add-p : goal.overflow_add-p
overflow_add-p c = omega arith

pub returns-then-p-to : goal.returns-then-p-to
returns-then-p-to c =
    let judged = c.judge-j.ensures in
    let lone =
    judged_lone c.args.s.now c.requires.inside c.loop-j.invariant.1 judged
    c.if-k-to.false
    c.if-s-k-ne92.false
    c.if-p-to.true
    in
    c.accepts-then-p-to.ensures ∙ ap accepts (sym (c.loop-j.invariant.2 ∙ lone))

pub bounds-s-p : goal.bounds-s-p
bounds-s-p c = omega arith

pub returns-then-q-eq-NOWHERE : goal.returns-then-q-eq-NOWHERE
returns-then-q-eq-NOWHERE c =
    let behind : run 0 (rest c.args.s.now c.args.part.to.0 c.args.part.from.0)
    ≡ run c.next-q.result (rest c.args.s.now c.args.part.to.0 (c.judge-j.result.at.at.0 + 1 + 1)) =
    c.loop-j.invariant.2
    ∙ judged_pair c.args.s.now c.requires.inside c.loop-j.invariant.1 c.judge-j.ensures c.if-k-to.false c.if-s-k-ne92.false
    c.if-p-to.false
    ∙ ap (λ (q : ℕ). run q (rest c.args.s.now c.args.part.to.0 (c.judge-j.result.at.at.0 + 1 + 1))) (sym c.next-q.ensures)
    in
    let backslash = c.judge-j.result.at.at.0 in
    let left = rest c.args.s.now c.args.part.to.0 (backslash + 1 + 1) in
    sym (ap accepts (behind ∙ ap (λ (q : ℕ). run q left) c.if-q-eq-NOWHERE.true ∙ nowhere left))

pub overflow_add-i : goal.overflow_add-i
overflow_add-i c = omega arith

pub loop-j-smaller : goal.loop-j-smaller
loop-j-smaller c =
    omega (arith, c.judge-j.ensures.forward, c.if-p-to.false)

pub loop-j-preserved : goal.loop-j-preserved
loop-j-preserved c =
    let behind : run 0 (rest c.args.s.now c.args.part.to.0 c.args.part.from.0)
    ≡ run c.next-q.result (rest c.args.s.now c.args.part.to.0 (c.judge-j.result.at.at.0 + 1 + 1)) =
    c.loop-j.invariant.2
    ∙ judged_pair c.args.s.now c.requires.inside c.loop-j.invariant.1 c.judge-j.ensures c.if-k-to.false c.if-s-k-ne92.false
    c.if-p-to.false
    ∙ ap (λ (q : ℕ). run q (rest c.args.s.now c.args.part.to.0 (c.judge-j.result.at.at.0 + 1 + 1))) (sym c.next-q.ensures)
    in
    (omega (arith, c.if-p-to.false), c.if-q-eq-NOWHERE.false, behind)
