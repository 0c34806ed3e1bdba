-- The loop passes pairs and runs of plain octets, and stands in the same phase behind each.
-- a pair, with the places as the code moves them
use Prim.Native.Nat.{ℕ, suc, ◌+◌, ◌-◌}
use native.Mathlib.Omega.{arith}
use native.Mathlib.Numerals.{add-one}
use mathlib.Core.Path.{◌≡◌, subst, ◌∙◌}
use mathlib.Core.List.{List}
use borrow.Author.Rules.{rules}
use borrow.Author.Tests.{not-false}
use Rattle.octets.specs.Sets.{is_plain, is_escapable}
use Rattle.grammar.specs.Grammar.{Extra, At, In}
use Rattle.cursor.specs.Passed.{Passed}
use Rattle.part_scan.specs.Moved.{Stays}
use Rattle.part_scan.proofs.Moves.{stays_on, stays_here, plain_stays, pair_stays}
use Rattle.part_scan.proofs.outside.past_quoted.Goals as goal

pair_on : {extra : Extra} {s : List ℕ} {base a d f e : ℕ} → At s a 92 → d ≡ a + 1 → In s is_escapable d → f ≡ d + 1 → Passed is_plain s f e → Stays extra s base 10 a e
pair_on {s = s} {a = a} {d} {f} {e} b p x q r =
    let u : d ≡ suc a = p ∙ add-one a in
    let v : f ≡ suc (suc a) = omega arith in
    pair_stays b (subst (In s is_escapable) u x) (subst (λ (k : ℕ). Passed is_plain s k e) v r)

pub past_plain-c-requires : goal.past_plain-c-requires
past_plain-c-requires c = (c.requires)

pub loop-d-init : goal.loop-d-init
loop-d-init c = λ extra base. stays_here c.past_plain-c.ensures.inside

pub past_octet-d-requires : goal.past_octet-d-requires
past_octet-d-requires c = (c.sees.ensures.yes c.loop-d-test.true).inside

pub returns-then-not-sees_in : goal.returns-then-not-sees_in
returns-then-not-sees_in c =
    λ extra base. stays_on (plain_stays c.past_plain-c.ensures) (c.loop-d.invariant extra base)

pub past_octet-requires : goal.past_octet-requires
past_octet-requires c =
    (c.sees_in.ensures.yes (not-false c.sees_in.result c.if-not-sees_in.false-raw)).inside

pub past_plain-c-requires-in-loop-d : goal.past_plain-c-requires-in-loop-d
past_plain-c-requires-in-loop-d c = (
    omega (
      arith,
      c.past_octet.ensures,
      (c.sees_in.ensures.yes (not-false c.sees_in.result c.if-not-sees_in.false-raw)).inside,
    ))

pub loop-d-smaller : goal.loop-d-smaller
loop-d-smaller c =
    omega (
      arith,
      c.past_octet.ensures,
      c.past_octet-d.ensures,
      c.past_plain-c-in-loop-d.ensures.forward,
      c.past_plain-c-in-loop-d.ensures.inside,
      (c.sees.ensures.yes c.loop-d-test.true).inside,
    )

pub loop-d-preserved : goal.loop-d-preserved
loop-d-preserved c =
    λ extra base.
    stays_on (c.loop-d.invariant extra base)
    (pair_on (c.sees.ensures.yes c.loop-d-test.true) c.past_octet-d.ensures
    (c.sees_in.ensures.yes (not-false c.sees_in.result c.if-not-sees_in.false-raw))
    c.past_octet.ensures c.past_plain-c-in-loop-d.ensures)

pub returns : goal.returns
returns c =
    λ extra base. stays_on (plain_stays c.past_plain-c.ensures) (c.loop-d.invariant extra base)
