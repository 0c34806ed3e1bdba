-- What isn't exact is enough.
use Rattle.measuring.proofs.form_bound.Goals as goal

pub returns : goal.returns
returns c = λ h. (c.measure_form.ensures.within h).enough
