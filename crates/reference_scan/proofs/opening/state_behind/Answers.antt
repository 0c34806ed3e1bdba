-- As long as all octets are those of hosts and paths, the state is a host's or a path's. Assumes nothing.
use Prim.Native.Nat.{◌+◌, ◌-◌, ◌<◌}
use native.Mathlib.Omega.{arith}
use mathlib.Core.Path.{◌≡◌, refl, sym, ◌∙◌}
use mathlib.Core.Bool.{true}
use lib.ListN.{length}
use borrow.Author.Tests.{not-false}
use Rattle.octets.specs.Sets.{all}
use Rattle.octets.proofs.Octets.{both}
use Rattle.cursor.proofs.AllInBlock.{all_none, all_more, all_passed}
use Rattle.reference_scan.specs.Common.{is_hosted}
use Rattle.reference_scan.proofs.Between.{comes_none}
use Rattle.reference_scan.proofs.Hosting.{hosted_more, from_slashes}
use Rattle.reference_scan.proofs.opening.state_behind.Goals as goal

pub loop-k-init : goal.loop-k-init
loop-k-init c =
    let none : c.args.at + 0 ≡ c.args.at = omega arith in
    (omega arith, (λ e. rw none (comes_none 6 (omega (arith, c.requires)))), all_none is_hosted c.args.s.now c.args.at)

pub loop-k-preserved : goal.loop-k-preserved
loop-k-preserved c =
    let within = c.loop-k-test.true in
    let next : c.args.at + (c.loop-k.k + 1) ≡ c.args.at + c.loop-k.k + 1 = omega arith in
    let inside : c.args.at + c.loop-k.k < length c.args.s.now = omega (arith, within, c.requires) in (
      omega (arith, within),
      (λ e.
          let found = both c.loop-k.all c.is_hosted-all.result e in
          rw next (hosted_more c.loop-k.host (c.loop-k.invariant.1 found.0) inside (sym c.is_hosted-all.ensures ∙ found.1))),
      rw c.is_hosted-all.ensures (all_more is_hosted c.args.s.now c.args.at c.loop-k.k c.loop-k.invariant.2 inside),
    )

pub returns-then-not-all : goal.returns-then-not-all
returns-then-not-all c = λ n. absurd (n refl)

pub returns-then-host : goal.returns-then-host
returns-then-host c =
    λ n.
    let whole : c.loop-k.k ≡ 16 = omega (arith, c.loop-k-test.false, c.loop-k.invariant.0) in
    let good = not-false _ c.if-not-all.false-raw in
    from_slashes (all_passed is_hosted _ c.args.at 16 c.requires (sym (rw whole at c.loop-k.invariant.2) ∙ good)) (omega arith)
    (rw (whole, c.if-host.true) at (c.loop-k.invariant.1 good))

pub returns : goal.returns
returns c =
    λ n.
    let whole : c.loop-k.k ≡ 16 = omega (arith, c.loop-k-test.false, c.loop-k.invariant.0) in
    let good = not-false _ c.if-not-all.false-raw in
    from_slashes (all_passed is_hosted _ c.args.at 16 c.requires (sym (rw whole at c.loop-k.invariant.2) ∙ good)) (omega arith)
    (rw (whole, c.if-host.false) at (c.loop-k.invariant.1 good))
