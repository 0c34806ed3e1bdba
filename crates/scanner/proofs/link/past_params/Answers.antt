-- The loop passes one parameter at each turn, and notes it if it is kept; each return says why it ended there.
use native.Mathlib.Omega.{arith}
use mathlib.Core.Logic.{inl, inr}
use mathlib.Core.List.{[]}
use mathlib.Core.Path.{refl}
use Rattle.scanner.proofs.NotedInOrder.{none_noted, one_noted}
use Rattle.scanner.proofs.ParamsSoFar.{begin, few_so_far, told, more, param_inside, params_ended, neither, param_stuck}
use borrow.Author.Rules.{rules}
use Rattle.scanner.proofs.link.past_params.Goals as goal

pub loop-edition-init : goal.loop-edition-init
loop-edition-init c =
    ([], begin c.requires.0 c.none-seen.ensures, none_noted c.args.s.now c.args.m.0 c.args.notes.now)

pub returns-then-i-s : goal.returns-then-i-s
returns-then-i-s c =
    params_ended c.loop-edition.invariant.1 c.loop-edition.invariant.2 c.past_blanks-i.ensures (inl c.if-i-s.true)

pub returns-then-sees : goal.returns-then-sees
returns-then-sees c =
    params_ended c.loop-edition.invariant.1 c.loop-edition.invariant.2 c.past_blanks-i.ensures (inr (c.sees.ensures.yes c.if-sees.true))

pub returns-then-not-sees : goal.returns-then-not-sees
returns-then-not-sees c =
    neither c.loop-edition.invariant.1 c.past_blanks-i.ensures c.if-i-s.false c.if-sees.ensures c.if-not-sees.ensures

pub returns-in_err-parts : goal.returns-in_err-parts
returns-in_err-parts c =
    search (rules, param_stuck)

pub code-code-requires : goal.code-code-requires
code-code-requires c =
    (param_inside c.in_ok-parts.ensures).2

pub plus-requires : goal.plus-requires
plus-requires c =
    omega (
      arith,
      few_so_far c.loop-edition.invariant.1,
      c.requires.1,
      c.past_blanks-i.ensures.forward,
      c.if-i-s.false,
      c.well_formed.1.1.0,
    )

pub counted-kept-requires : goal.counted-kept-requires
counted-kept-requires c =
    omega (
      arith,
      few_so_far c.loop-edition.invariant.1,
      c.past_blanks-i.ensures.forward,
      c.if-i-s.false,
      c.well_formed.1.1.0,
    )

pub loop-edition-smaller : goal.loop-edition-smaller
loop-edition-smaller c =
    omega (
      arith,
      (param_inside c.in_ok-parts.ensures).0,
      (param_inside c.in_ok-parts.ensures).1,
      c.past_blanks-i.ensures.forward,
      c.past_octet.ensures,
      c.past_blanks.ensures.forward,
      c.if-i-s.false,
    )

pub loop-edition-preserved : goal.loop-edition-preserved
loop-edition-preserved c = (
  _,
  more c.loop-edition.invariant.1 c.past_blanks-i.ensures (c.if-not-sees.ensures.yes refl) c.past_octet.ensures c.past_blanks.ensures c.in_ok-parts.ensures c.code-code.ensures c.has-again.ensures c.counted-kept.ensures c.with-seen.ensures,
  one_noted c.args.s.now c.args.m.0 c.loop-edition.invariant.0 c.in_ok-parts.parts c.loop-edition.invariant.2 c.loop-edition.invariant.1.kept c.plus.ensures c.code-code.ensures (told c.in_ok-parts.parts c.loop-edition.invariant.1 c.code-code.ensures c.has-again.ensures) c.note_param.ensures,
)
