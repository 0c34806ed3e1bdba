-- The anchor is looked for, and what it means is resolved; without one nothing is.
use native.Mathlib.Omega.{arith}
use borrow.Author.Tests.{not-true, not-false}
use Rattle.bare.proofs.Unescaped.{uri_free}
use Rattle.tables.proofs.InGood.{link_slots}
use Rattle.outcomes.specs.ResolvedContext.{no_such_link, bad_base}
use Rattle.judging.proofs.Told.{uri_told, uri_denied}
use Rattle.context.proofs.Anchored.{listed_here}
use Rattle.resolved.proofs.LinkContext.{anchor_inside, told, untold}
use Rattle.resolved.proofs.context_at.Goals as goal

pub returns-then-link-t : goal.returns-then-link-t
returns-then-link-t c = no_such_link c.if-link-t.true

pub returns-then-not-is_uri : goal.returns-then-not-is_uri
returns-then-not-is_uri c =
    let if1' = c.if-link-t in
    bad_base if1'.false
    (uri_denied c.is_uri.result c.is_uri.ensures (not-true c.is_uri.result c.if-not-is_uri.true-raw))

pub link_at-l-requires : goal.link_at-l-requires
link_at-l-requires c =
    let if1' = c.if-link-t in
    link_slots c.requires.usable.good if1'.false

pub first_of-anchor-requires : goal.first_of-anchor-requires
first_of-anchor-requires c =
    let if1' = c.if-link-t in
    (listed_here c.requires.usable if1'.false c.link_at-l.ensures).room

pub put_resolved-requires : goal.put_resolved-requires
put_resolved-requires c =
    let e = c.up_to.ensures in
    let is-uri' = c.is_uri in
    let given = c.args in
    let b = uri_told is-uri'.result is-uri'.ensures (not-false is-uri'.result c.if-not-is_uri.false-raw) in
    record {
      in_text = (record { ordered = omega (arith, e.0, e.1); inside = omega (arith, e.1) }, c.requires.usable.short);
      free = (uri_free given.base.now b, c.requires.base_len_bound);
    }

pub anchored-requires : goal.anchored-requires
anchored-requires c =
    let first-of' = c.first_of-anchor in
    let link-at' = c.link_at-l in
    let is-uri' = c.is_uri in
    let if1' = c.if-link-t in
    let given = c.args in
    let b = uri_told is-uri'.result is-uri'.ensures (not-false is-uri'.result c.if-not-is_uri.false-raw) in
    let i = anchor_inside c.requires.usable if1'.false link-at'.ensures first-of'.result first-of'.ensures c.in-Some.is in
    record {
      in_text = (i, c.requires.usable.short);
      free = (uri_free given.base.now b, c.requires.base_len_bound);
    }

pub returns-in-None : goal.returns-in-None
returns-in-None c =
    let put-resolved' = c.put_resolved in
    let first-of' = c.first_of-anchor in
    let link-at' = c.link_at-l in
    let is-uri' = c.is_uri in
    let if1' = c.if-link-t in
    let b = uri_told is-uri'.result is-uri'.ensures (not-false is-uri'.result c.if-not-is_uri.false-raw) in
    untold c.requires.usable if1'.false link-at'.ensures first-of'.result first-of'.ensures c.up_to.ensures c.in-None.is b
    put-resolved'.ensures

pub returns-in-Some : goal.returns-in-Some
returns-in-Some c =
    let anchored' = c.anchored in
    let first-of' = c.first_of-anchor in
    let link-at' = c.link_at-l in
    let is-uri' = c.is_uri in
    let if1' = c.if-link-t in
    let b = uri_told is-uri'.result is-uri'.ensures (not-false is-uri'.result c.if-not-is_uri.false-raw) in
    told c.requires.usable if1'.false link-at'.ensures first-of'.result first-of'.ensures c.in-Some.is b
    anchored'.ensures
