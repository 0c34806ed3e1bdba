-- What is seen at the beginning of a part. Assumes nothing.
use Prim.Native.Nat.{ℕ, ◌+◌, ◌≤◌, ◌<◌}
use native.Mathlib.Omega.{arith}
use native.Mathlib.Numerals.{add-one}
use mathlib.Core.Path.{◌≡◌, refl, sym, ap, subst, ◌∙◌}
use mathlib.Core.Bool.{Bool, true, false}
use mathlib.Core.List.{List, [], ◌∷◌}
use borrow.Author.Tests.{eqb-true, eqb-false}
use lib.Dec.{eqb}
use lib.ListN.{length, get_or}
use Rattle.bare.specs.Bare.{bare_of, Past}
use Rattle.bare.proofs.Bare.{bare_of_none, bare_of_octet, bare_of_empty}
use Rattle.leading_dots.specs.Leads.{NotFirst, Behind, Leads}
use Rattle.leading_dots.proofs.Trimming.{Dots, one, two, alone_goes, with_slash, other_stays, no_dot_stays}

module _ (s : List ℕ) (k e p : ℕ) (t : Past s k e p) where
  pub nothing_there : e ≤ p → bare_of s k e ≡ []
  nothing_there h = t.same ∙ bare_of_none s p e h

  pub octet_there : p < e → e ≤ length s → bare_of s k e ≡ get_or s p 0 ∷ bare_of s (p + 1) e
  octet_there h l = rw (add-one p) (t.same ∙ bare_of_octet s p e h l (t.octet h))

  -- one octet c, or none
  pub no_octet : (c : ℕ) → k ≤ e → e ≤ p → Behind s k e c k
  no_octet c l h =
      record {
        from = omega arith;
        to = l;
        none = λ _. rw (nothing_there h) tt;
        one = λ m. absurd (omega (arith, m));
      }

  pub other_octet : (c : ℕ) → p < e → e ≤ length s → (get_or s p 0 ≡ c → ⊥) → Behind s k e c k
  other_octet c h l n =
      record {
        from = omega arith;
        to = omega (arith, t.from, h);
        none = λ _. rw (octet_there h l) n;
        one = λ m. absurd (omega (arith, m));
      }

  pub same_octet : (c : ℕ) → p < e → e ≤ length s → get_or s p 0 ≡ c → Behind s k e c (p + 1)
  same_octet c h l n =
      record {
        from = omega (arith, t.from);
        to = omega (arith, h);
        none = λ m. absurd (omega (arith, m, t.from));
        one = λ _. octet_there h l ∙ ap (λ (x : ℕ). x ∷ bare_of s (p + 1) e) n;
      }

-- ---- dots, and what stands behind them at place p

pub no_dots : (s : List ℕ) (k e : ℕ) → k ≤ e → Behind s k e 46 k → Leads s k e k
no_dots s k e l b =
    record {
      from = omega arith;
      to = l;
      none = λ _. no_dot_stays (bare_of s k e) (b.none refl);
      one = λ m. absurd (omega (arith, m));
    }

module _ (s : List ℕ) (k e a b p : ℕ) (f : Behind s k e 46 a) (m : k < a) (g : Behind s a e 46 b) (t : Past s b e p) where
  pub dots : Dots (bare_of s k e) (bare_of s p e)
  dots = go (eqb b a) refl
    where
      go : (z : Bool) → eqb b a ≡ z → Dots (bare_of s k e) (bare_of s p e)
      go true q =
          let r : bare_of s a e ≡ bare_of s p e = ap (λ (x : ℕ). bare_of s x e) (sym (eqb-true b a q)) ∙ t.same in
          one (f.one m ∙ ap {B = List ℕ} (λ x. 46 ∷ x) r) (subst (NotFirst 46) r (g.none (eqb-true b a q)))
      go false q =
          let h : a < b = omega (arith, g.from, eqb-false b a q) in
          two (f.one m ∙ ap {B = List ℕ} (λ x. 46 ∷ x) (g.one h ∙ ap {B = List ℕ} (λ x. 46 ∷ x) t.same))

  pub only_dots : e ≤ p → Leads s k e e
  only_dots h =
      record {
        from = omega (arith, f.to, m);
        to = omega arith;
        none = λ q. absurd (omega (arith, f.to, m, q));
        one = λ _. alone_goes (bare_of s k e) (bare_of s p e) dots (bare_of_none s p e h) ∙ rw (bare_of_empty s e) refl;
      }

  module _ (h : p < e) (l : e ≤ length s) where
    at_it : bare_of s p e ≡ get_or s p 0 ∷ bare_of s (p + 1) e
    at_it = rw (add-one p) (bare_of_octet s p e h l (t.octet h))

    pub dots_and_other : (get_or s p 0 ≡ 47 → ⊥) → Leads s k e k
    dots_and_other n =
        record {
          from = omega arith;
          to = omega (arith, f.to, m);
          none = λ _. other_stays (bare_of s k e) (bare_of s p e) (get_or s p 0) (bare_of s (p + 1) e) dots at_it n;
          one = λ q. absurd (omega (arith, q));
        }

    pub dots_and_slash : get_or s p 0 ≡ 47 → Leads s k e (p + 1)
    dots_and_slash n =
        record {
          from = omega (arith, m, g.from, t.from);
          to = omega (arith, h);
          none = λ q. absurd (omega (arith, q, m, g.from, t.from));
          one = λ _. with_slash (bare_of s k e) (bare_of s p e) (bare_of s (p + 1) e) dots (at_it ∙ ap (λ (x : ℕ). x ∷ bare_of s (p + 1) e) n);
        }
