-- A scheme as code finds it: the first of `:/?#` is a colon, or there is no scheme. Assumes nothing.
use Prim.Native.Nat.{ℕ, ◌+◌, ◌≤◌}
use native.Mathlib.Omega.{arith}
use mathlib.Core.Path.{◌≡◌, refl, sym, ap, ◌∙◌}
use mathlib.Core.List.{List, [], ◌++◌}
use mathlib.Core.Option.{Option}
use lib.ListN.{length, get_or}
use Rattle.octets.specs.Text.{octets}
use Rattle.references.specs.Components.{ended, before, behind, cut_at}
use Rattle.bare.specs.Bare.{bare_of, Past}
use Rattle.bare.proofs.Bare.{bare_of_empty, bare_of_join}
use Rattle.components.specs.Looks.{At, Plain, Found}
use Rattle.components.specs.Steps.{CutAt, scheme_of, SchemeCut}
use Rattle.components.proofs.Ends.{end_octet}
use Rattle.components.proofs.Marks.{mark_first, mark_none}
use Rattle.components.proofs.CutOff.{cut_none, cut_some, cut_past}

module _ {s : List ℕ} {a e k : ℕ} (f : Found (octets ":/?#") s a e k) (l : e ≤ length s) where
  -- what is cut off, by what is behind a colon at k
  told : {o : Option (List ℕ)} → behind (octets ":") (bare_of s k e) ≡ o
      → scheme_of (bare_of s a e) ≡ cut_at (bare_of s a e) (before (octets ":/?#") (bare_of s a e)) o
  told q =
      ap (cut_at (bare_of s a e) (before (octets ":/?#") (bare_of s a e))) (ap (behind (octets ":")) (sym f.rest) ∙ q)

  pub no_scheme : Plain s a e → (At s k e 58 → ⊥) → SchemeCut s a e a
  no_scheme p n =
      let plain : Plain s k e = λ h. end_octet (octets ":/?#") (get_or s k 0) refl (f.octet h) in
      record { cut = cut_none refl (omega (arith, f.forward, f.inside)) (told (mark_none n plain l [])); plain = p }

  at_colon : At s k e 58 → {j : ℕ} → j ≡ k + 1 → CutAt (scheme_of (bare_of s a e)) (ended (octets ":")) s a e j
  at_colon t {j} m =
      let inside = t.place in
      cut_some (omega (arith, f.forward, m)) (omega (arith, m, inside))
      (told (ap (behind (octets ":")) (mark_first t refl m e (omega (arith, m, inside)) l)))
      (bare_of_join s a k j f.forward (omega (arith, m))
      ∙ ap (λ (u : List ℕ). bare_of s a k ++ u) (mark_first t refl m j (omega arith) (omega (arith, m, inside)) ∙ rw (bare_of_empty s j) refl)
      ∙ ap (λ (u : List ℕ). u ++ octets ":") f.part)
      refl

  pub some_scheme : At s k e 58 → {j r : ℕ} → j ≡ k + 1 → Past s j e r → SchemeCut s a e r
  some_scheme t m p =
      record { cut = cut_past (omega (arith, f.forward, m)) (at_colon t m) p; plain = p.octet }
