-- One parameter is written at each turn; the loop ends where no further one begins.
use Prim.Native.Nat.{◌-◌}
use native.Mathlib.Omega.{arith}
use borrow.Author.Rules.{rules}
use borrow.Author.Tests.{not-false}
use Rattle.scan_parts.proofs.ReadyBehindParam.{parsed_forward, parsed_name}
use Rattle.filling.proofs.ParamsWritten.{written_begin, filled_ends, known_param, keep_room, written_on, written_length}
use Rattle.filling.proofs.params.fill_params.Goals as goal

pub loop-edition-init : goal.loop-edition-init
loop-edition-init c =
    written_begin c.requires c.requires.ready.stands.inside c.none-seen.ensures

pub past_blanks-i-requires : goal.past_blanks-i-requires
past_blanks-i-requires c = (c.loop-edition.invariant.along.inside)

pub shape_of-params-then-not-sees : goal.shape_of-params-then-not-sees
shape_of-params-then-not-sees c =
    written_length c.requires c.loop-edition.invariant

pub returns-then-not-sees : goal.returns-then-not-sees
returns-then-not-sees c =
    filled_ends c.requires c.loop-edition.invariant c.past_blanks-i.ensures c.sees.ensures c.if-not-sees.true-raw

pub past_octet-requires : goal.past_octet-requires
past_octet-requires c = (c.sees.ensures.yes (not-false c.sees.result c.if-not-sees.false-raw)).inside

pub past_blanks-requires : goal.past_blanks-requires
past_blanks-requires c = (
    omega (
      arith,
      c.past_octet.ensures,
      (c.sees.ensures.yes (not-false c.sees.result c.if-not-sees.false-raw)).inside,
    ))

pub read_param-p-requires : goal.read_param-p-requires
read_param-p-requires c = (
    known_param c.requires c.loop-edition.invariant c.past_blanks-i.ensures
    (c.sees.ensures.yes (not-false c.sees.result c.if-not-sees.false-raw)) c.past_octet.ensures
    c.past_blanks.ensures)

pub code-code-requires : goal.code-code-requires
code-code-requires c = parsed_name c.read_param-p.ensures

pub keep-n-requires : goal.keep-n-requires
keep-n-requires c =
    keep_room c.requires c.loop-edition.invariant c.past_blanks-i.ensures
    (c.sees.ensures.yes (not-false c.sees.result c.if-not-sees.false-raw))
    c.past_octet.ensures c.past_blanks.ensures c.read_param-p.ensures
    c.code-code.ensures c.has.ensures

pub loop-edition-smaller : goal.loop-edition-smaller
loop-edition-smaller c =
    omega (
      arith,
      (parsed_forward c.read_param-p.ensures).0,
      (parsed_forward c.read_param-p.ensures).1,
      c.past_blanks-i.ensures.forward,
      c.past_octet.ensures,
      c.past_blanks.ensures.forward,
      (c.sees.ensures.yes (not-false c.sees.result c.if-not-sees.false-raw)).inside,
    )

pub loop-edition-preserved : goal.loop-edition-preserved
loop-edition-preserved c =
    written_on c.requires c.loop-edition.invariant c.past_blanks-i.ensures
    (c.sees.ensures.yes (not-false c.sees.result c.if-not-sees.false-raw))
    c.past_octet.ensures c.past_blanks.ensures c.read_param-p.ensures c.code-code.ensures
    c.has.ensures c.keep-n.ensures c.with-seen.ensures
