-- Copied from the notes, or written by the second pass.
use native.Mathlib.Omega.{arith}
use Rattle.noted_fill.proofs.FromNotes.{link_fits, param_fits, filled_from_notes}
use Rattle.noted_fill.proofs.fill.Goals as goal

pub copy-requires : goal.copy-requires
copy-requires c =
    (omega (arith, c.if-counts-link_notes.true), link_fits c.args.edition c.requires.reading_fits c.requires.header_noted.0)

pub copy-requires-then-counts-param_notes : goal.copy-requires-then-counts-param_notes
copy-requires-then-counts-param_notes c =
    (omega (arith, c.if-counts-param_notes.true), param_fits c.args.edition c.requires.reading_fits c.requires.header_noted.0)

pub returns-then-counts-param_notes : goal.returns-then-counts-param_notes
returns-then-counts-param_notes c =
    filled_from_notes c.args.edition c.requires.reading_fits c.requires.header_noted.0 c.requires.header_noted.1 c.if-counts-link_notes.true c.if-counts-param_notes.true c.copy.ensures c.copy-then-counts-param_notes.ensures
