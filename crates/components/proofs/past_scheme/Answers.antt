-- A colon ends a scheme, if none of `/?#` comes before it.
use borrow.Author.Tests.{not-true, not-false}
use Rattle.components.proofs.Marks.{behind_mark}
use Rattle.components.proofs.CutSchemes.{no_scheme, some_scheme}
use Rattle.components.proofs.past_scheme.Goals as goal

pub returns-then-not-is_at : goal.returns-then-not-is_at
returns-then-not-is_at c =
    let found = c.find-end.ensures in
    no_scheme found c.requires.0.inside c.requires.1 (c.is_at.ensures.no (not-true _ c.if-not-is_at.true-raw))

pub past-requires : goal.past-requires
past-requires c =
    let inside = c.requires.0.inside in
    behind_mark (c.is_at.ensures.yes (not-false _ c.if-not-is_at.false-raw)) c.next.ensures inside

pub returns : goal.returns
returns c =
    let inside = c.requires.0.inside in
    let colon = c.is_at.ensures.yes (not-false _ c.if-not-is_at.false-raw) in
    some_scheme c.find-end.ensures inside colon c.next.ensures c.past.ensures
