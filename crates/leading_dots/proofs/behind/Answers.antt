use Rattle.leading_dots.proofs.Reading.{no_octet, other_octet, same_octet}
use Rattle.leading_dots.proofs.behind.Goals as goal

pub returns-then-p-to : goal.returns-then-p-to
returns-then-p-to c =
    let past' = c.past-p in
    let asked = c.requires in
    let given = c.args in
    no_octet _ _ _ _ past'.ensures given.c asked.ordered c.if-p-to.true

pub returns-then-s-i : goal.returns-then-s-i
returns-then-s-i c =
    let if1' = c.if-p-to in
    let past' = c.past-p in
    let asked = c.requires in
    let given = c.args in
    other_octet _ _ _ _ past'.ensures given.c if1'.false asked.inside c.if-s-i.true

pub returns : goal.returns
returns c =
    let if1' = c.if-p-to in
    let past' = c.past-p in
    let asked = c.requires in
    let given = c.args in
    rw c.next.ensures (same_octet _ _ _ _ past'.ensures given.c if1'.false asked.inside c.if-s-i.false)
