-- Two slashes begin an authority, with or without backslashes between them.
use borrow.Author.Tests.{not-true, not-false}
use Rattle.components.proofs.Marks.{behind_mark}
use Rattle.components.proofs.CutMarked.{no_slash, no_second, some_authority}
use Rattle.components.proofs.past_authority.Goals as goal

pub returns-then-not-is_at : goal.returns-then-not-is_at
returns-then-not-is_at c =
    let pre' = c.requires in
    no_slash pre'.0.ordered pre'.0.inside pre'.1 (c.is_at.ensures.no (not-true _ c.if-not-is_at.true-raw))

pub past-second-requires : goal.past-second-requires
past-second-requires c =
    let inside = c.requires.0.inside in
    behind_mark (c.is_at.ensures.yes (not-false _ c.if-not-is_at.false-raw)) c.next.ensures inside

pub returns-then-not-is_at-2 : goal.returns-then-not-is_at-2
returns-then-not-is_at-2 c =
    let pre' = c.requires in
    let first = c.is_at.ensures.yes (not-false _ c.if-not-is_at.false-raw) in
    let second = c.is_at-2.ensures.no (not-true _ c.if-not-is_at-2.true-raw) in
    let moved = c.next.ensures in
    no_second pre'.0.ordered pre'.0.inside first moved c.past-second.ensures pre'.1 second

pub find-end-requires : goal.find-end-requires
find-end-requires c =
    let inside = c.requires.0.inside in
    behind_mark (c.is_at-2.ensures.yes (not-false _ c.if-not-is_at-2.false-raw)) c.next-2.ensures inside

pub returns : goal.returns
returns c =
    let text = c.requires.0 in
    let first = c.is_at.ensures.yes (not-false _ c.if-not-is_at.false-raw) in
    let second = c.is_at-2.ensures.yes (not-false _ c.if-not-is_at-2.false-raw) in
    let moved = c.next.ensures in
    some_authority text.ordered text.inside first moved c.past-second.ensures second
    c.next-2.ensures c.find-end.ensures c.past.ensures
