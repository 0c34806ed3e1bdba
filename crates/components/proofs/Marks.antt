-- The mark of a component at a place: it stands there, or the text doesn't begin with it. Assumes nothing.
use Prim.Native.Nat.{ℕ, suc, ◌+◌, ◌≤◌, ◌<◌}
use native.Mathlib.Omega.{arith}
use native.Mathlib.Numerals.{add-one}
use mathlib.Core.Path.{◌≡◌, refl, sym, ap, ◌∙◌}
use mathlib.Core.Bool.{Bool, true, false, false≢true}
use mathlib.Core.List.{List, ◌∷◌, ◌++◌}
use mathlib.Core.Option.{none}
use lib.Dec.{ltb, eqb}
use lib.ListN.{length, get_or}
use borrow.Author.Tests.{ltb-true, ltb-false, eqb-true, eqb-false, eq-eqb, ne_eqb}
use Rattle.references.specs.Components.{behind}
use Rattle.tables.specs.Good.{InText}
use Rattle.bare.specs.Bare.{bare_of, Past}
use Rattle.bare.proofs.Bare.{bare_of_none, bare_of_join, bare_of_octet}
use Rattle.components.specs.Looks.{At, TellsAt, Plain}

-- ---- as code asks

module _ (s : List ℕ) (a c : ℕ) {e : ℕ} where
  pub told_octet : a < e → TellsAt (eqb (get_or s a 0) c) s a e c
  told_octet h =
      record {
        yes = λ t. record { place = h; octet = eqb-true (get_or s a 0) c t };
        no = λ t m. eqb-false (get_or s a 0) c t m.octet;
      }

  pub told_end : e ≤ a → TellsAt (ltb a e) s a e c
  told_end h =
      record { yes = λ t. absurd (omega (arith, ltb-true a e t)); no = λ t m. absurd (omega (arith, m.place)) }

-- the part from place j on, behind an octet that stands at a
pub behind_mark : {s : List ℕ} {a e c j : ℕ} → At s a e c → j ≡ a + 1 → e ≤ length s → InText s j e
behind_mark t m l = record { ordered = omega (arith, t.place, m); inside = l }

-- ---- in the text

module _ {s : List ℕ} {a e x : ℕ} where
  -- up to any place r behind the mark, the text is the mark and what follows, from place j on
  pub mark_first : At s a e x → eqb x 92 ≡ false → {j : ℕ} → j ≡ a + 1 → (r : ℕ) → j ≤ r → r ≤ length s
      → bare_of s a r ≡ x ∷ bare_of s j r
  mark_first t n {j} m r k l =
      rw (m, add-one a) (bare_of_octet s a r (omega (arith, m)) l plain ∙ ap (λ (c : ℕ). c ∷ bare_of s (suc a) r) t.octet)
    where
      plain : get_or s a 0 ≡ 92 → ⊥
      plain p = false≢true (sym n ∙ eq-eqb x 92 (sym t.octet ∙ p))

  pub mark_none : (At s a e x → ⊥) → Plain s a e → e ≤ length s → (m : List ℕ) → behind (x ∷ m) (bare_of s a e) ≡ none
  mark_none n p l m = go (ltb a e) refl
    where
      go : (b : Bool) → ltb a e ≡ b → behind (x ∷ m) (bare_of s a e) ≡ none
      go true t =
          let k = ltb-true a e t in
          rw (bare_of_octet s a e k l (p k), ne_eqb (get_or s a 0) x (λ q. n (record { place = k; octet = q }))) refl
      go false t = rw (bare_of_none s a e (ltb-false a e t)) refl

-- backslashes that are passed over add nothing, wherever the text ends
pub past_over : {s : List ℕ} {a e k : ℕ} → Past s a e k → (r : ℕ) → k ≤ r → bare_of s a r ≡ bare_of s k r
past_over {s} {a} {e} {k} p r h = bare_of_join s a k r p.from h ∙ ap (λ (u : List ℕ). u ++ bare_of s k r) p.nothing
