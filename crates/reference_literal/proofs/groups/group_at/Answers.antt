-- Each kind of octet has its function. Assumes nothing.
use mathlib.Core.Path.{sym, ◌∙◌}
use borrow.Author.Tests.{eq-eqb, ne_eqb}
use Rattle.reference_sets.proofs.Has.{hex_has}
use Rattle.reference_literal.proofs.groups.group_at.Goals as goal

pub returns-then-is_in : goal.returns-then-is_in
returns-then-is_in c =
    let o = c.args.c in
    rw (sym (hex_has o) ∙ sym c.is_in.ensures ∙ c.if-is_in.true) c.more_digits.ensures

pub returns-then-c-eq58 : goal.returns-then-c-eq58
returns-then-c-eq58 c =
    let o = c.args.c in
    rw (
      sym (hex_has o) ∙ sym c.is_in.ensures ∙ c.if-is_in.false,
      eq-eqb o 58 c.if-c-eq58.true,
    )
    c.group_ends.ensures

pub returns-then-c-eq93 : goal.returns-then-c-eq93
returns-then-c-eq93 c =
    let o = c.args.c in
    rw (
      sym (hex_has o) ∙ sym c.is_in.ensures ∙ c.if-is_in.false,
      ne_eqb o 58 c.if-c-eq58.false,
      eq-eqb o 93 c.if-c-eq93.true,
    )
    c.address_ends.ensures

pub returns : goal.returns
returns c =
    let o = c.args.c in
    rw (
      sym (hex_has o) ∙ sym c.is_in.ensures ∙ c.if-is_in.false,
      ne_eqb o 58 c.if-c-eq58.false,
      ne_eqb o 93 c.if-c-eq93.false,
    )
    c.pick.ensures
