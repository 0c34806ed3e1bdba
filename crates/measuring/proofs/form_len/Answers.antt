-- What is exact is the length.
use mathlib.Core.Path.{refl}
use Rattle.measuring.proofs.form_len.Goals as goal

pub returns : goal.returns
returns c =
    let m = c.measure_form.ensures in
    record { exact = λ h. (m.within h).same refl; over = m.over refl }
