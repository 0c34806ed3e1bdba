-- Numbers come by what was judged, the base first.
use native.Mathlib.Omega.{arith}
use mathlib.Core.Logic.{inl, inr}
use borrow.Author.Tests.{not-true, not-false}
use Rattle.outcomes.specs.Resolve.{too_long}
use Rattle.resolving.proofs.Resolving.{wrong_base, wrong_reference, base_free, both_right}
use Rattle.resolving.proofs.resolve.Goals as goal

pub returns-then-end-gt-LIMIT : goal.returns-then-end-gt-LIMIT
returns-then-end-gt-LIMIT c = too_long (inl c.if-end-gt-LIMIT.true)

pub returns-then-base-gt-LIMIT : goal.returns-then-base-gt-LIMIT
returns-then-base-gt-LIMIT c = too_long (inr c.if-base-gt-LIMIT.true)

pub returns-then-not-right_base : goal.returns-then-not-right_base
returns-then-not-right_base c =
    let is-uri' = c.is_uri-right_base in
    let if2' = c.if-base-gt-LIMIT in
    let if1' = c.if-end-gt-LIMIT in
    let r = c.is_reference-right in
    let e = c.up_to-part.ensures in
    wrong_base _ _ _ if1'.false if2'.false is-uri'.result r.result is-uri'.ensures (rw (e.0, e.1) at r.ensures)
    (not-true is-uri'.result c.if-not-right_base.true-raw)

pub returns-then-not-right : goal.returns-then-not-right
returns-then-not-right c =
    let is-reference' = c.is_reference-right in
    let is-uri' = c.is_uri-right_base in
    let if2' = c.if-base-gt-LIMIT in
    let if1' = c.if-end-gt-LIMIT in
    let e = c.up_to-part.ensures in
    let judged = rw (e.0, e.1) at is-reference'.ensures in
    wrong_reference _ _ _ if1'.false if2'.false is-uri'.result is-reference'.result is-uri'.ensures judged
    (not-false is-uri'.result c.if-not-right_base.false-raw)
    (not-true is-reference'.result c.if-not-right.true-raw)

pub put_resolved-requires : goal.put_resolved-requires
put_resolved-requires c =
    let is-reference' = c.is_reference-right in
    let is-uri' = c.is_uri-right_base in
    let if2' = c.if-base-gt-LIMIT in
    let if1' = c.if-end-gt-LIMIT in
    let given = c.args in
    let e = c.up_to-part.ensures in
    let f = base_free given.reference.now given.base.now given.out.now if1'.false if2'.false is-uri'.result
    is-reference'.result
    is-uri'.ensures (rw (e.0, e.1) at is-reference'.ensures)
    (not-false is-uri'.result c.if-not-right_base.false-raw) in
    record {
      in_text = (record { ordered = omega (arith, e.0, e.1); inside = omega (arith, e.1) }, if1'.false);
      free = (f, if2'.false);
    }

pub returns : goal.returns
returns c =
    let put-resolved' = c.put_resolved in
    let is-reference' = c.is_reference-right in
    let is-uri' = c.is_uri-right_base in
    let if2' = c.if-base-gt-LIMIT in
    let if1' = c.if-end-gt-LIMIT in
    let e = c.up_to-part.ensures in
    let judged = rw (e.0, e.1) at is-reference'.ensures in
    both_right _ _ _ if1'.false if2'.false is-uri'.result is-reference'.result is-uri'.ensures judged e
    (not-false is-uri'.result c.if-not-right_base.false-raw)
    (not-false is-reference'.result c.if-not-right.false-raw) put-resolved'.ensures
