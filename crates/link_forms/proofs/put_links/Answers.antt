-- What is left of the links is put one by one, each behind what parts it from the one before.
use Prim.Native.Nat.{suc, ◌-◌}
use native.Mathlib.Omega.{arith}
use mathlib.Core.Path.{sym}
use mathlib.Core.List.{◌++◌}
use lib.Dec.{eqb}
use Rattle.outcomes.specs.Write.{written_form}
use Rattle.records.specs.Slots.{to_link}
use Rattle.tables.specs.Table.{table_of}
use Rattle.tables.proofs.InGood.{link_slots}
use Rattle.shape.specs.Forms.{parting, link_form, links_left}
use Rattle.shape.proofs.LeftToWrite.{links_next, links_end, whole_form}
use Rattle.shape.proofs.GoodRecords.{target_span, good_run}
use Rattle.kinds.proofs.Counted.{from_first}
use Rattle.kinds.proofs.Putting.{begin, several, room, onto}
use Rattle.putting.proofs.PutUpTo.{next, ended}
use borrow.Author.Rules.{rules}
use Rattle.link_forms.proofs.put_links.Goals as goal

pub loop-i-init : goal.loop-i-init
loop-i-init c =
    let n = c.args.t.now.counts in
    let t = table_of c.args.t.now.text.now c.args.t.now.links.now c.args.t.now.params.now n.links n.params in
    rw c.start-at.ensures
    (record {
      inside = omega arith;
      put = onto (sym (whole_form t)) (begin c.args.out.now 0 (written_form t) (omega (arith, c.requires.params_in_bounds)));
    })

pub link_at-l-requires : goal.link_at-l-requires
link_at-l-requires c =
    omega (arith, link_slots c.requires.usable.good c.loop-i-test.true, c.first-first.ensures, c.plus-link.ensures)

pub put_parting-behind-requires : goal.put_parting-behind-requires
put_parting-behind-requires c =
    let link-at' = c.link_at-l in
    let is = rw (from_first c.first-first.ensures c.plus-link.ensures) at link-at'.ensures in
    let loop' = c.loop-i in
    let text = c.args.t.now.text.now in
    let links = c.args.t.now.links.now in
    let params = c.args.t.now.params.now in
    let n = c.args.t.now.counts.links in
    let w = onto (links_next text links params n c.loop-i-test.true is) loop'.invariant.put in
    let form = link_form text (to_link params link-at'.result) in
    room (parting (eqb loop'.i 0)) (form ++ links_left text links params n (suc loop'.i)) w

pub put_link-at-requires : goal.put_link-at-requires
put_link-at-requires c =
    let if1' = c.loop-i-test in
    let link-at' = c.link_at-l in
    let is = rw (from_first c.first-first.ensures c.plus-link.ensures) at link-at'.ensures in
    let loop' = c.loop-i in
    let text = c.args.t.now.text.now in
    let links = c.args.t.now.links.now in
    let params = c.args.t.now.params.now in
    let n = c.args.t.now.counts.links in
    let w = onto (links_next text links params n if1'.true is) loop'.invariant.put in
    let form = link_form text (to_link params link-at'.result) in
    let left = links_left text links params n (suc loop'.i) in
    let w1 = several {left = form ++ left} w c.put_parting-behind.ensures in record {
      in_text = target_span c.requires.usable.good if1'.true is;
      good_run = good_run c.requires.usable.good if1'.true is;
      l_in_bounds = room form left w1;
    }

pub loop-i-preserved : goal.loop-i-preserved
loop-i-preserved c =
    let if1' = c.loop-i-test in
    let link-at' = c.link_at-l in
    let is = rw (from_first c.first-first.ensures c.plus-link.ensures) at link-at'.ensures in
    let loop' = c.loop-i in
    let put-parting' = c.put_parting-behind in
    let text = c.args.t.now.text.now in
    let links = c.args.t.now.links.now in
    let params = c.args.t.now.params.now in
    let n = c.args.t.now.counts.links in
    let w = onto (links_next text links params n if1'.true is) loop'.invariant.put in
    let form = link_form text (to_link params link-at'.result) in
    let left = links_left text links params n (suc loop'.i) in
    let w1 = several {left = form ++ left} w put-parting'.ensures in
    let w2 = several {left = left} w1 c.put_link-at.ensures in
    next if1'.true w2

pub shape_of-out : goal.shape_of-out
shape_of-out c = c.loop-i.invariant.put.lengths

pub returns : goal.returns
returns c =
    let loop' = c.loop-i in
    let text = c.args.t.now.text.now in
    let links = c.args.t.now.links.now in
    ended loop'.invariant (links_end text links c.args.t.now.params.now c.args.t.now.counts.links c.loop-i-test.false)
