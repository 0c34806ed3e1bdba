-- The octet alone, or with a backslash before it.
use native.Mathlib.Omega.{arith}
use Rattle.putting.proofs.Escapes.{with_backslash, without_backslash}
use Rattle.putting.proofs.escaped.put_quoted.Goals as goal

pub put_two-requires : goal.put_two-requires
put_two-requires c =
    rw (with_backslash c.args.c c.if-c.true) at c.requires

pub returns-then-c : goal.returns-then-c
returns-then-c c =
    rw (with_backslash c.args.c c.if-c.true) c.put_two.ensures

pub put-requires : goal.put-requires
put-requires c =
    omega (arith, rw (without_backslash c.args.c c.if-c.false) at c.requires)

pub returns : goal.returns
returns c =
    rw (without_backslash c.args.c c.if-c.false) c.put.ensures
