-- A path's folder, found from its right end. Assumes nothing.
use Prim.Native.Nat.{ℕ, ◌-◌, ◌≤◌, ◌<◌}
use native.Mathlib.Omega.{arith}
use mathlib.Core.Path.{◌≡◌, refl, sym, ap, subst, ◌∙◌}
use mathlib.Core.Bool.{Bool, true, false, cond}
use mathlib.Core.List.{List, [], ◌∷◌, ◌++◌, reverse, append-nil, reverse-append, reverse-reverse}
use borrow.Author.Tests.{ne_eqb}
use lib.Dec.{eqb}
use lib.ListN.{length, get_or}
use Rattle.resolution.specs.Resolve.{folder}
use Rattle.bare.specs.Bare.{bare_of}
use Rattle.bare.proofs.Bare.{bare_of_join, bare_of_empty}
use Rattle.dot_walk.proofs.Leftwards.{alone, one_left}
use Rattle.routing.specs.Folders.{Closed, FolderEnds}

-- ---- an octet at the right end

folder_slash : (u : List ℕ) → folder (u ++ (47 ∷ [])) ≡ u ++ (47 ∷ [])
folder_slash u =
    rw (reverse-append u (47 ∷ []))
    (ap (λ (t : List ℕ). reverse t) (sym (reverse-append u (47 ∷ []))) ∙ reverse-reverse (u ++ (47 ∷ [])))

folder_other : (u : List ℕ) (c : ℕ) → (c ≡ 47 → ⊥) → folder (u ++ (c ∷ [])) ≡ folder u
folder_other u c n = rw (reverse-append u (c ∷ []), ne_eqb c 47 n) refl

closed_slash : (u : List ℕ) → Closed (u ++ (47 ∷ []))
closed_slash [] = refl
closed_slash (c ∷ []) = refl
closed_slash (c ∷ d ∷ u) = closed_slash (d ∷ u)

-- ---- in a text

module _ (s : List ℕ) (a e : ℕ) (i : ℕ) (p : a < i) (h : i ≤ e) (l : e ≤ length s) where
  abbrev last : ℕ
  last = get_or s (i - 1) 0

  -- the octet before place i
  one_right : bare_of s a i ≡ bare_of s a (i - 1) ++ alone s (i - 1)
  one_right =
      bare_of_join s a (i - 1) i (omega arith) (omega arith)
      ∙ ap (λ (t : List ℕ). bare_of s a (i - 1) ++ t)
      (one_left s i i (omega arith) (omega arith) (omega arith)
      ∙ ap (λ (t : List ℕ). alone s (i - 1) ++ t) (bare_of_empty s i) ∙ append-nil (alone s (i - 1)))

  at_slash : last ≡ 47 → bare_of s a i ≡ bare_of s a (i - 1) ++ (47 ∷ [])
  at_slash q = one_right ∙ rw q refl

  pub past_other : (last ≡ 47 → ⊥) → folder (bare_of s a i) ≡ folder (bare_of s a (i - 1))
  past_other n = ap folder one_right ∙ go (eqb last 92)
    where
      go : (z : Bool) → folder (bare_of s a (i - 1) ++ cond z [] (last ∷ [])) ≡ folder (bare_of s a (i - 1))
      go true = ap folder (append-nil (bare_of s a (i - 1)))
      go false = folder_other (bare_of s a (i - 1)) last n

  pub ends_at_slash : folder (bare_of s a e) ≡ folder (bare_of s a i) → last ≡ 47 → FolderEnds s a e i
  ends_at_slash f q =
      record {
        from = omega arith;
        to = h;
        folder = at_slash q ∙ sym (folder_slash (bare_of s a (i - 1))) ∙ ap folder (sym (at_slash q)) ∙ sym f;
        closed = subst Closed (sym (at_slash q)) (closed_slash (bare_of s a (i - 1)));
      }

pub no_slash : (s : List ℕ) (a e : ℕ) → a ≤ e → folder (bare_of s a e) ≡ folder (bare_of s a a) → FolderEnds s a e a
no_slash s a e h f =
    record {
      from = omega arith;
      to = h;
      folder = bare_of_empty s a ∙ ap folder (sym (bare_of_empty s a)) ∙ sym f;
      closed = subst Closed (sym (bare_of_empty s a)) tt;
    }
