-- A move in a target, or the way to the next one.
use native.Mathlib.Omega.{arith}
use mathlib.Core.Path.{sym, ◌∙◌}
use Rattle.part_scan.proofs.Stepping.{move_ends, move_halts, move_opens, move_steps, open_inside}
use borrow.Author.Rules.{rules}
use Rattle.part_scan.proofs.go_on.go_on.Goals as goal

pub outside-requires : goal.outside-requires
outside-requires c = (c.requires.0, sym c.is_open.ensures ∙ c.if-is_open.false)

pub overflow_add-base : goal.overflow_add-base
overflow_add-base c =
    omega (arith, open_inside c.outside.ensures c.in-Open.is, c.requires.1)

pub returns-in-End : goal.returns-in-End
returns-in-End c =
    move_ends c.requires.2 (sym c.is_open.ensures ∙ c.if-is_open.false) c.outside.ensures
    c.in-End.is c.flat.ensures

pub returns-in-Halt : goal.returns-in-Halt
returns-in-Halt c =
    move_halts c.requires.2 (sym c.is_open.ensures ∙ c.if-is_open.false) c.outside.ensures
    c.in-Halt.is

pub returns-in-Open : goal.returns-in-Open
returns-in-Open c =
    move_opens c.requires.2 (sym c.is_open.ensures ∙ c.if-is_open.false) c.outside.ensures
    c.in-Open.is c.opened.ensures

pub returns-in-To : goal.returns-in-To
returns-in-To c =
    move_steps c.requires.2 (sym c.is_open.ensures ∙ c.if-is_open.false) c.outside.ensures
    c.in-To.is c.flat-in-To.ensures
