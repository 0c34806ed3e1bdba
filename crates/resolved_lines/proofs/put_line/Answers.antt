-- Three columns, one behind another; the first has the number's digits.
use Prim.Native.Nat.{◌^◌, ◌<◌}
use borrow.Author.Rules.{rules}
use Rattle.resolved_lines.proofs.Digits.{digits_are, digits_short}
use Rattle.resolved_lines.proofs.LinePut.{number_room, target_room, context_room, line_put}
use Rattle.resolved_lines.proofs.put_line.Goals as goal

pub put_column-numbered-requires : goal.put_column-numbered-requires
put_column-numbered-requires c =
    let args = c.args in
    let d = c.decimal-k.ensures in
    let small : args.number < 2 ^ 64 = search rules in
    rw (digits_are d.len d.digits)
    (number_room args.number args.target.now args.context.now args.line.now c.start.ensures
    (digits_short d.len d.digits small d.in_bounds.1) c.requires)

pub put_column-targeted-requires : goal.put_column-targeted-requires
put_column-targeted-requires c =
    let args = c.args in
    let d = c.decimal-k.ensures in
    let small : args.number < 2 ^ 64 = search rules in
    let short = digits_short d.len d.digits small d.in_bounds.1 in
    target_room args.number args.target.now args.context.now args.line.now c.start.ensures short
    c.requires (rw (digits_are d.len d.digits) at c.put_column-numbered.ensures)

pub put_column-requires : goal.put_column-requires
put_column-requires c =
    let args = c.args in
    let d = c.decimal-k.ensures in
    let small : args.number < 2 ^ 64 = search rules in
    let short = digits_short d.len d.digits small d.in_bounds.1 in
    context_room args.number args.target.now args.context.now args.line.now c.start.ensures short
    c.requires (rw (digits_are d.len d.digits) at c.put_column-numbered.ensures) c.put_column-targeted.ensures

pub returns : goal.returns
returns c =
    let args = c.args in
    let d = c.decimal-k.ensures in
    let small : args.number < 2 ^ 64 = search rules in
    let short = digits_short d.len d.digits small d.in_bounds.1 in
    let number = rw (digits_are d.len d.digits) at c.put_column-numbered.ensures in
    let both =
    line_put args.number args.target.now args.context.now args.line.now c.start.ensures short
    c.requires number c.put_column-targeted.ensures c.put_column.ensures
    in
    record { put = both.0; upper_bound = both.1 }
