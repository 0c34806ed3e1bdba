-- With and without the `s`. Assumes nothing.
use borrow.Author.Tests.{not-false}
use Rattle.reference_scan.proofs.Openings.{plainly, securely}
use Rattle.reference_scan.proofs.opening.opening.Goals as goal

pub returns-then-sees_slashes : goal.returns-then-sees_slashes
returns-then-sees_slashes c =
    λ n.
    securely c.args.s.now c.args.i c.requires c.if-s-i-eq115.true
    (c.sees_http.ensures (not-false _ c.if-not-sees_http.false-raw))
    (c.sees_slashes.ensures c.if-sees_slashes.true)

pub returns-then-sees_slashes-2 : goal.returns-then-sees_slashes-2
returns-then-sees_slashes-2 c =
    λ n.
    plainly c.args.s.now c.args.i
    (c.sees_http.ensures (not-false _ c.if-not-sees_http.false-raw))
    (c.sees_slashes-2.ensures c.if-sees_slashes-2.true)
