-- A bound that fits is enough, and else the measure tells.
use native.Mathlib.Omega.{arith}
use borrow.Author.Tests.{leb-true}
use Rattle.writer.specs.Room.{over_limit, over_room}
use Rattle.writer.proofs.room.fit_of.Goals as goal

pub returns-then-bound-room : goal.returns-then-bound-room
returns-then-bound-room c =
    let bound = c.form_bound-bound in
    let within = bound.ensures c.if-bound-le-LIMIT.true in (
      omega (arith, within, c.if-bound-le-LIMIT.true),
      omega (arith, within, leb-true bound.result c.args.room c.if-bound-room.true-raw),
    )

pub returns-then-n-gt-LIMIT : goal.returns-then-n-gt-LIMIT
returns-then-n-gt-LIMIT c = over_limit (c.form_len-n.ensures.over c.if-n-gt-LIMIT.true)

pub returns-then-n-room : goal.returns-then-n-room
returns-then-n-room c =
    let is = c.form_len-n.ensures.exact c.if-n-gt-LIMIT.false in
    over_room (omega (arith, is, c.if-n-gt-LIMIT.false)) (omega (arith, is, c.if-n-room.true))

pub returns : goal.returns
returns c =
    let is = c.form_len-n.ensures.exact c.if-n-gt-LIMIT.false in
    (omega (arith, is, c.if-n-gt-LIMIT.false), omega (arith, is, c.if-n-room.false))
