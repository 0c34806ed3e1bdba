-- The octets are stored one by one.
use Prim.Native.Nat.{◌-◌, ◌+◌, ◌<◌}
use native.Mathlib.Omega.{arith}
use lib.ListN.{length, set}
use lib.Seq.{lt-length-set}
use Rattle.dot_walk.proofs.StoredBefore.{stored_one, stored_two, stored_three}
use Rattle.dot_walk.proofs.put_before.Goals as goal

pub returns-then-n-eq1 : goal.returns-then-n-eq1
returns-then-n-eq1 c =
    let given = c.args in
    stored_one given.out.now (given.at - given.n) given.c given.n c.if-n-eq1.true

pub bounds-out-at-2 : goal.bounds-out-at-2
bounds-out-at-2 c =
    let asked = c.requires in
    let given = c.args in
    let h : given.at - given.n + 1 < length given.out.now = omega
    (arith, asked.0, asked.1, asked.2, c.if-n-eq0.false, c.if-n-eq1.false) in
    lt-length-set given.out.now (given.at - given.n) given.c h

pub bounds-out-at-then-n-eq3 : goal.bounds-out-at-then-n-eq3
bounds-out-at-then-n-eq3 c =
    let asked = c.requires in
    let given = c.args in
    let out = given.out.now in
    let i = given.at - given.n in
    let h : given.at - 1 < length out = omega (arith, asked.0, asked.1, asked.2, c.if-n-eq3.true) in
    lt-length-set (set out i given.c) (i + 1) 46 (lt-length-set out i given.c h)

pub returns-then-n-eq3 : goal.returns-then-n-eq3
returns-then-n-eq3 c =
    let asked = c.requires in
    let given = c.args in
    stored_three given.out.now (given.at - given.n) given.c given.n (given.at - given.n + 1) (given.at - 1) c.if-n-eq3.true
    (omega arith)
    (omega (arith, asked.1, c.if-n-eq3.true))

pub returns-else-n-eq3 : goal.returns-else-n-eq3
returns-else-n-eq3 c =
    let if1' = c.if-n-eq0 in
    let asked = c.requires in
    let given = c.args in
    stored_two given.out.now (given.at - given.n) given.c given.n (given.at - given.n + 1)
    (omega (arith, asked.0, if1'.false, c.if-n-eq1.false, c.if-n-eq3.false)) (omega arith)
