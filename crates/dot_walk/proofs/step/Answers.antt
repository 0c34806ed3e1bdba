use native.Mathlib.Omega.{arith}
use lib.Dec.{eqb}
use Rattle.dot_walk.proofs.Steps.{slash_step, held_step, dropped_step, kept_step, held_two, slash_one, below_two}
use Rattle.dot_walk.proofs.step.Goals as goal

pub overflow_add-result : goal.overflow_add-result
overflow_add-result c =
    let asked = c.requires in
    let given = c.args in
    omega (arith, asked.1, c.slash_gain.ensures, slash_one given.t)

pub returns-then-c-eq47 : goal.returns-then-c-eq47
returns-then-c-eq47 c =
    let if1' = c.if-c-eq47 in
    let given = c.args in
    slash_step given.t if1'.true c.pending_on.ensures c.slash_gain.ensures

pub overflow_add-result-then-c-kind : goal.overflow_add-result-then-c-kind
overflow_add-result-then-c-kind c =
    let given = c.args in
    omega (arith, below_two given.t (eqb given.c 46) c.if-c-kind.true)

pub returns-then-c-kind : goal.returns-then-c-kind
returns-then-c-kind c =
    let given = c.args in
    held_step given.t c.if-c-eq47.false c.if-c-kind.true

pub returns-then-pending-ne0 : goal.returns-then-pending-ne0
returns-then-pending-ne0 c =
    let if1' = c.if-c-eq47 in
    let given = c.args in
    dropped_step given.t if1'.false c.if-c-kind.false c.if-pending-ne0.true

pub overflow_add-result-3 : goal.overflow_add-result-3
overflow_add-result-3 c =
    let asked = c.requires in
    let given = c.args in
    omega (arith, asked.1, c.held_len.ensures, held_two given.t.kind)

pub returns : goal.returns
returns c =
    let if2' = c.if-c-kind in
    let if1' = c.if-c-eq47 in
    let given = c.args in
    kept_step given.t if1'.false if2'.false c.if-pending-ne0.false c.held_len.ensures
