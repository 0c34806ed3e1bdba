-- The base is measured, and then judged.
use native.Mathlib.Omega.{arith}
use borrow.Author.Tests.{not-true, not-false}
use Rattle.judging.proofs.Told.{uri_told, uri_denied}
use Rattle.resolve_listing.specs.Base.{too_long, no_uri, right}
use Rattle.resolve_listing.proofs.tell_base.Goals as goal

pub returns-then-base-gt-LIMIT : goal.returns-then-base-gt-LIMIT
returns-then-base-gt-LIMIT c = too_long (omega (arith, c.if-base-gt-LIMIT.true))

pub returns-then-not-is_uri : goal.returns-then-not-is_uri
returns-then-not-is_uri c =
    let judged = c.is_uri in
    no_uri (omega (arith, c.if-base-gt-LIMIT.false)) (uri_denied judged.result judged.ensures (not-true _ c.if-not-is_uri.true-raw))

pub returns : goal.returns
returns c =
    let judged = c.is_uri in
    right (omega (arith, c.if-base-gt-LIMIT.false)) (uri_told judged.result judged.ensures (not-false _ c.if-not-is_uri.false-raw))
