-- Where a run stops tells that there is no line, or where its parts end.
use borrow.Author.Tests.{not-true, not-false}
use Rattle.judging.proofs.Told.{uri_told, uri_denied}
use Rattle.pack_lines.proofs.LineTold.{ends_early, no_tab, no_uri, no_end, told}
use Rattle.pack_lines.proofs.line_at.Goals as goal

pub returns-then-t-n : goal.returns-then-t-n
returns-then-t-n c = ends_early c.past_uri-tab.ensures c.if-t-n.true

pub returns-then-s-t-ne9 : goal.returns-then-s-t-ne9
returns-then-s-t-ne9 c = no_tab c.past_uri-tab.ensures c.if-s-t-ne9.true

pub returns-then-end-n : goal.returns-then-end-n
returns-then-end-n c = no_end c.past_uri-tab.ensures c.past_value-end.ensures c.if-end-n.true

pub returns-then-not-is_uri : goal.returns-then-not-is_uri
returns-then-not-is_uri c =
    let judged = c.is_uri in
    no_uri c.past_uri-tab.ensures
    (uri_denied judged.result judged.ensures (not-true judged.result c.if-not-is_uri.true-raw))

pub returns : goal.returns
returns c =
    let judged = c.is_uri in
    told c.past_uri-tab.ensures c.past_value-end.ensures c.if-s-t-ne9.false c.if-end-n.false
    (uri_told judged.result judged.ensures (not-false judged.result c.if-not-is_uri.false-raw))
