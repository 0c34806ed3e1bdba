-- What resolving answers, by what was judged. Assumes nothing.
use Prim.Native.Nat.{ℕ, ◌≤◌}
use mathlib.Core.Path.{◌≡◌, ap, subst, ◌∙◌}
use mathlib.Core.Bool.{Bool, true, false}
use mathlib.Core.List.{List, [], ◌∷◌}
use lib.ListN.{length}
use lib.Seq.{slice, take-length}
use Rattle.kinds.specs.declared.Span.{Span}
use Rattle.kinds.proofs.UpTo.{all_of}
use Rattle.references.proofs.Clear.{Free}
use Rattle.resolution.specs.Resolve.{resolved}
use Rattle.reference_steps.specs.Machine.{run, accepts}
use Rattle.outcomes.specs.Number.{limit, bad_base_number, bad_reference_number}
use Rattle.outcomes.specs.Copy.{CopyOut, untouched}
use Rattle.outcomes.specs.Resolve.{Fitted, Resolve, bad_base, bad_reference, resolves}
use Rattle.bare.specs.Bare.{bare, bare_of}
use Rattle.bare.proofs.Unescaped.{uri_free, reference_bare}
use Rattle.judging.proofs.Told.{uri_told, uri_denied, reference_told, reference_denied}

-- the whole text
whole : (w : List ℕ) → slice 0 (length w) w ≡ w
whole w = take-length w

module _ (w base out : List ℕ) (h : length w ≤ limit) (k : length base ≤ limit) (b r : Bool) (e : b ≡ accepts (run 55 base))
    (f : r ≡ accepts (run 0 (slice 0 (length w) w))) where
  judged : r ≡ accepts (run 0 w)
  judged = f ∙ ap (λ (x : List ℕ). accepts (run 0 x)) (whole w)

  pub wrong_base : b ≡ false → Resolve w base out (untouched out bad_base_number)
  wrong_base n = bad_base h k (uri_denied b e n)

  pub wrong_reference : b ≡ true → r ≡ false → Resolve w base out (untouched out bad_reference_number)
  wrong_reference y n = bad_reference h k (uri_told b e y) (reference_denied r judged n)

  pub base_free : b ≡ true → Free (92 ∷ []) base
  base_free y = uri_free base (uri_told b e y)

  pub both_right : {o : CopyOut} {p : Span} → (p.from.0 ≡ 0) × (p.to.0 ≡ length w) → b ≡ true → r ≡ true
      → Fitted out (resolved base (bare_of w p.from.0 p.to.0)) o → Resolve w base out o
  both_right {o} {p} d y z t =
      let q : bare_of w p.from.0 p.to.0 ≡ w = ap bare (all_of w d) ∙ reference_bare w (reference_told r judged z) in
      resolves h k (uri_told b e y) (reference_told r judged z) (subst (λ (x : List ℕ). Fitted out (resolved base x) o) q t)
