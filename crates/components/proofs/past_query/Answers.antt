-- A question mark begins a query.
use borrow.Author.Tests.{not-true, not-false}
use Rattle.components.proofs.Marks.{behind_mark}
use Rattle.components.proofs.CutMarked.{no_query, some_query}
use Rattle.components.proofs.past_query.Goals as goal

pub returns-then-not-is_at : goal.returns-then-not-is_at
returns-then-not-is_at c =
    let pre' = c.requires in
    no_query pre'.0.ordered pre'.0.inside pre'.1 (c.is_at.ensures.no (not-true _ c.if-not-is_at.true-raw))

pub find-requires : goal.find-requires
find-requires c =
    let inside = c.requires.0.inside in
    behind_mark (c.is_at.ensures.yes (not-false _ c.if-not-is_at.false-raw)) c.next.ensures inside

pub returns : goal.returns
returns c =
    let text = c.requires.0 in
    let mark = c.is_at.ensures.yes (not-false _ c.if-not-is_at.false-raw) in
    some_query text.ordered text.inside mark c.next.ensures c.find.ensures
