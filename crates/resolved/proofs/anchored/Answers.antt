-- A meaning that is a reference is resolved without the part's backslashes.
use borrow.Author.Tests.{not-true, not-false}
use Rattle.judging.proofs.Told.{reference_told, reference_denied}
use Rattle.resolved.specs.OnBase.{wrong}
use Rattle.resolved.proofs.LinkContext.{meant_bare}
use Rattle.resolved.proofs.anchored.Goals as goal

pub returns-then-not-is_meant_reference : goal.returns-then-not-is_meant_reference
returns-then-not-is_meant_reference c =
    let j = c.is_meant_reference in
    wrong (reference_denied j.result j.ensures (not-true j.result c.if-not-is_meant_reference.true-raw))

pub returns : goal.returns
returns c =
    let put-resolved' = c.put_resolved in
    let is-meant-reference' = c.is_meant_reference in
    let given = c.args in
    meant_bare given.text.now given.part.from.0 given.part.to.0
    (reference_told is-meant-reference'.result is-meant-reference'.ensures (not-false is-meant-reference'.result c.if-not-is_meant_reference.false-raw))
    put-resolved'.ensures
