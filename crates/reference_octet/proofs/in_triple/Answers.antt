-- A first digit and a second one. Assumes nothing.
use mathlib.Core.Path.{◌∙◌, sym}
use borrow.Author.Tests.{lt-ltb, le-ltb}
use Rattle.reference_sets.proofs.Moves.{triple_step}
use Rattle.reference_sets.proofs.Has.{hex_has}
use Rattle.reference_octet.proofs.in_triple.Goals as goal

pub returns-then-q-lt32 : goal.returns-then-q-lt32
returns-then-q-lt32 c =
    rw (
      triple_step c.args.q c.args.c c.requires.0 c.requires.1,
      lt-ltb c.args.q 32 c.if-q-lt32.true,
      sym (hex_has c.args.c) ∙ sym c.is_in-hex.ensures,
    )
    c.pick.ensures

pub returns : goal.returns
returns c =
    rw (
      triple_step c.args.q c.args.c c.requires.0 c.requires.1,
      le-ltb c.args.q 32 c.if-q-lt32.false,
      sym (hex_has c.args.c) ∙ sym c.is_in-hex.ensures,
    )
    c.pick-2.ensures
