-- The links below i have relations.
use Prim.Native.Nat.{◌-◌}
use native.Mathlib.Omega.{arith}
use Rattle.tables.specs.Table.{table_of}
use Rattle.tables.proofs.InGood.{link_slots}
use Rattle.kinds.proofs.Counted.{from_first}
use Rattle.named.proofs.Looking.{listed}
use Rattle.writer.proofs.Relations.{one_more, one_unrelated, every_related}
use Rattle.writer.proofs.related.all_related.Goals as goal

pub loop-i-init : goal.loop-i-init
loop-i-init c = λ j h. absurd (omega arith)

pub link_at-l-requires : goal.link_at-l-requires
link_at-l-requires c =
    rw (from_first c.first-first.ensures c.plus-link.ensures) (link_slots c.requires.good c.loop-i-test.true)

pub is_related-requires : goal.is_related-requires
is_related-requires c =
    listed c.requires.good c.loop-i-test.true (rw (from_first c.first-first.ensures c.plus-link.ensures) at c.link_at-l.ensures)

pub returns-then-not-is_related : goal.returns-then-not-is_related
returns-then-not-is_related c =
    let if1' = c.loop-i-test in
    let n = c.args.t.now.counts in
    let t = table_of c.args.t.now.text.now c.args.t.now.links.now c.args.t.now.params.now n.links n.params in
    one_unrelated t (rw (from_first c.first-first.ensures c.plus-link.ensures) at c.link_at-l.ensures) c.is_related.ensures if1'.true c.if-not-is_related.true-raw

pub loop-i-preserved : goal.loop-i-preserved
loop-i-preserved c =
    let is = rw (from_first c.first-first.ensures c.plus-link.ensures) at c.link_at-l.ensures in
    let loop' = c.loop-i in
    let n = c.args.t.now.counts in
    let t = table_of c.args.t.now.text.now c.args.t.now.links.now c.args.t.now.params.now n.links n.params in
    one_more t is c.is_related.ensures loop'.invariant c.if-not-is_related.false-raw

pub returns : goal.returns
returns c = every_related (λ j h. c.loop-i.invariant j (omega (arith, c.loop-i-test.false)))
