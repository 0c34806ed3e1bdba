-- A component cut off at a place, or none. Assumes nothing.
use Prim.Native.Nat.{ℕ, ◌≤◌, ◌<◌}
use native.Mathlib.Omega.{arith}
use mathlib.Core.Path.{◌≡◌, refl, sym, ap, ◌∙◌}
use mathlib.Core.List.{List, [], ◌++◌, append-nil}
use mathlib.Core.Option.{Option, none, some}
use Rattle.references.specs.Components.{marked, behind, Cut, cut_before, cut_marked}
use Rattle.bare.specs.Bare.{bare_of, Past}
use Rattle.bare.proofs.Bare.{bare_of_empty, bare_of_join}
use Rattle.components.specs.Looks.{Found}
use Rattle.components.specs.Steps.{CutAt}

module _ {cut : Cut} {whole : Option (List ℕ) → List ℕ} {s : List ℕ} {a e : ℕ} where
  pub cut_none : whole none ≡ [] → a ≤ e → cut ≡ record { part = none; rest = bare_of s a e } → CutAt cut whole s a e a
  cut_none n h q =
      rw q
      (record {
        forward = omega arith;
        inside = h;
        part = bare_of_empty s a ∙ sym n;
        rest = refl;
        no_part = λ _. refl;
        some_part = λ k. absurd (k refl);
      })

  pub cut_some : {r : ℕ} {u v : List ℕ} → a < r → r ≤ e → cut ≡ record { part = some u; rest = v } → bare_of s a r ≡ whole (some u)
      → bare_of s r e ≡ v → CutAt cut whole s a e r
  cut_some h k q p t =
      rw q
      (record {
        forward = omega arith;
        inside = k;
        part = p;
        rest = t;
        no_part = λ o. absurd (omega (arith, o));
        some_part = λ _. tt;
      })

  -- backslashes behind the component belong to it
  pub cut_past : {k r : ℕ} → a < k → CutAt cut whole s a e k → Past s k e r → CutAt cut whole s a e r
  cut_past {k} {r} h c p =
      record {
        forward = omega (arith, p.from);
        inside = p.to;
        part =
            bare_of_join s a k r c.forward p.from
            ∙ ap (λ (u : List ℕ). bare_of s a k ++ u) p.nothing
            ∙ append-nil (bare_of s a k)
            ∙ c.part;
        rest = sym p.same ∙ c.rest;
        no_part = λ o. absurd (omega (arith, o, p.from));
        some_part = λ _. c.some_part (λ o. omega (arith, o));
      }

-- a component with the mark m that goes up to the first octet of cs
module _ (m cs : List ℕ) {s : List ℕ} {a e : ℕ} where
  pub marked_none : a ≤ e → behind m (bare_of s a e) ≡ none → CutAt (cut_marked m cs (bare_of s a e)) (marked m) s a e a
  marked_none h q = cut_none refl h (ap (cut_before cs (bare_of s a e)) q)

  -- where the text goes on at place b behind the mark
  pub marked_some : {b k : ℕ} → a < b → behind m (bare_of s a e) ≡ some (bare_of s b e) → Found cs s b e k
      → bare_of s a k ≡ m ++ bare_of s b k → CutAt (cut_marked m cs (bare_of s a e)) (marked m) s a e k
  marked_some h q f p =
      cut_some (omega (arith, f.forward)) f.inside (ap (cut_before cs (bare_of s a e)) q) (p ∙ ap (λ (u : List ℕ). m ++ u) f.part)
      f.rest
