-- A line is looked for, its Link value read, and its URI looked for among those before it.
use Prim.Native.Nat.{◌+◌}
use native.Mathlib.Omega.{arith}
use borrow.Author.Tests.{not-true, not-false}
use Rattle.catalogue_check.specs.Checked.{before, wrong}
use Rattle.catalogue_check.proofs.Adding.{LineIn, line_told, none_told, uri_part, value_part, accepted_told, accepted_denied}
use Rattle.catalogue_check.proofs.Adding.{found_told, nowhere_told, none_begins, not_accepted, met_before, held, one_pack_more}
use Rattle.catalogue_check.proofs.add_pack.Goals as goal

pub overflow_add-v : goal.overflow_add-v
overflow_add-v c =
    let l = (line_told c.line_at.ensures c.in_ok-p.was).placed in
    omega (arith, l.value, l.inside)

pub overflow_add-behind : goal.overflow_add-behind
overflow_add-behind c = omega (arith, (line_told c.line_at.ensures c.in_ok-p.was).placed.inside)

pub slice_bounds-is_accepted-count : goal.slice_bounds-is_accepted-count
slice_bounds-is_accepted-count c = omega (arith, (line_told c.line_at.ensures c.in_ok-p.was).placed.value)

pub returns-then-not-is_accepted : goal.returns-then-not-is_accepted
returns-then-not-is_accepted c =
    let l = line_told c.line_at.ensures c.in_ok-p.was in
    let told = c.is_accepted in
    wrong
    (not_accepted c.requires.pack_limit_in_bounds.1 c.requires.from_in_bounds.0 l.line
    (accepted_denied told.ensures (value_part l.placed) (not-true told.result c.if-not-is_accepted.true-raw)))

pub slice_bounds-find-count : goal.slice_bounds-find-count
slice_bounds-find-count c = omega (arith, (line_told c.line_at.ensures c.in_ok-p.was).placed.uri)

pub find-requires : goal.find-requires
find-requires c =
    held c.requires.pack_limit_in_bounds.1 (omega (arith, c.requires.from_in_bounds.1, c.requires.pack_limit_in_bounds.0))

pub returns-in_err-p : goal.returns-in_err-p
returns-in_err-p c =
    rw c.from_residual.ensures
    (wrong (none_begins c.requires.pack_limit_in_bounds.1 c.requires.from_in_bounds.0 (none_told c.line_at.ensures c.in_err-p.was)))

pub returns-in-Some : goal.returns-in-Some
returns-in-Some c =
    let l = line_told c.line_at.ensures c.in_ok-p.was in
    let k = found_told c.args.s.now c.args.index.now c.args.count c.find.ensures (uri_part l.placed)
    c.in-Some.is in
    wrong (met_before c.requires.pack_limit_in_bounds.1 c.requires.from_in_bounds.0 l.line _ k.0 k.1)

pub returns-in-None : goal.returns-in-None
returns-in-None c =
    let l = line_told c.line_at.ensures c.in_ok-p.was in
    let told = c.is_accepted in
    let others = nowhere_told c.args.s.now c.args.index.now c.args.count c.find.ensures
    (uri_part l.placed) c.in-None.is in
    let accepted = accepted_told told.ensures (value_part l.placed) (not-false told.result c.if-not-is_accepted.false-raw) in
    rw c.put_places.ensures
    (before {b = record { 0 = c.in_ok-p.p.end.0 + 1 }} (omega (arith, l.from, l.placed.uri, l.placed.value)) (omega (arith, l.placed.inside))
    (one_pack_more c.requires.pack_limit_in_bounds.1 l.placed l.line accepted others (omega (arith, c.requires.from_in_bounds.1, c.requires.pack_limit_in_bounds.0))))
