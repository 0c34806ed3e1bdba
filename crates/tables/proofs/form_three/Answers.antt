-- The law holds.
use Rattle.tables.proofs.Forms.{form_three}
use Rattle.tables.proofs.form_three.Goals as goal

pub returns : goal.returns
returns c = form_three
