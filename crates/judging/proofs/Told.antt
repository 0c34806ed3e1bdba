-- What the machine's answer tells: whether a text is a URI, and whether it is a reference. Assumes nothing.
use Prim.Native.Nat.{ℕ}
use mathlib.Core.Path.{◌≡◌, sym, ◌∙◌}
use mathlib.Core.Bool.{Bool, true, false, false≢true}
use mathlib.Core.List.{List}
use Rattle.references.specs.AppendixA.{IsReference, IsURI}
use Rattle.reference_steps.specs.Machine.{run, accepts}
use Rattle.reference_steps.proofs.Exact.{steps_exact}

module _ {w : List ℕ} (b : Bool) where
  pub uri_told : b ≡ accepts (run 55 w) → b ≡ true → IsURI w
  uri_told e y = steps_exact.uri w (sym e ∙ y)

  pub uri_denied : b ≡ accepts (run 55 w) → b ≡ false → IsURI w → ⊥
  uri_denied e n u = false≢true (sym n ∙ e ∙ steps_exact.uri_accepted w u)

  pub reference_told : b ≡ accepts (run 0 w) → b ≡ true → IsReference w
  reference_told e y = steps_exact.reference w (sym e ∙ y)

  pub reference_denied : b ≡ accepts (run 0 w) → b ≡ false → IsReference w → ⊥
  reference_denied e n r = false≢true (sym n ∙ e ∙ steps_exact.accepted w r)
