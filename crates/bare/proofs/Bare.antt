-- Octets without their backslashes: parts behind one another, parts without any, and the octet at a part's left end. Assumes nothing.
use Prim.Native.Nat.{ℕ, zero, suc, ◌≤◌, ◌<◌}
use native.Mathlib.Omega.{arith}
use mathlib.Core.Path.{◌≡◌, refl, ap, ◌∙◌}
use mathlib.Core.Bool.{Bool, true, false, cond, ◌||◌}
use mathlib.Core.List.{List, [], ◌∷◌, ◌++◌}
use lib.Dec.{eqb}
use lib.ListN.{length, get_or, take, drop, length-take, drop_of_length-le}
use lib.Seq.{slice, slice_empty, slice-cons, take-take, take-nil, drop-nil}
use borrow.Author.Tests.{eq-eqb, ne_eqb}
use Rattle.octets.specs.Sets.{one_of}
use Rattle.references.proofs.Clear.{Free}
use Rattle.bare.specs.Bare.{bare, bare_of}

pub bare_append : (u v : List ℕ) → bare (u ++ v) ≡ bare u ++ bare v
bare_append [] v = refl
bare_append (c ∷ u) v = go (eqb c 92) (bare_append u v)
  where
    go : (b : Bool) → bare (u ++ v) ≡ bare u ++ bare v
        → cond b (bare (u ++ v)) (c ∷ bare (u ++ v)) ≡ cond b (bare u) (c ∷ bare u) ++ bare v
    go true e = e
    go false e = ap {B = List ℕ} (λ t. c ∷ t) e

-- no backslash, as a test of one octet
pub no_backslash : (c : ℕ) → one_of (92 ∷ []) c ≡ false → eqb c 92 ≡ false
no_backslash c = go (eqb c 92)
  where
    go : (b : Bool) → (b || false) ≡ false → b ≡ false
    go true e = e
    go false e = e

pub bare_free : (w : List ℕ) → Free (92 ∷ []) w → bare w ≡ w
bare_free [] f = refl
bare_free (c ∷ w) f = rw (no_backslash c f.0) (ap {B = List ℕ} (λ t. c ∷ t) (bare_free w f.1))

-- a part in two
part_join : (w : List ℕ) (a m : ℕ) → a ≤ m → drop a w ≡ drop a (take m w) ++ drop m w
part_join [] zero m h = rw (take-nil {A = ℕ} m, drop-nil {A = ℕ} m) refl
part_join [] (suc a) m h = rw (take-nil {A = ℕ} m, drop-nil {A = ℕ} m) refl
part_join (c ∷ w) zero zero h = refl
part_join (c ∷ w) zero (suc m) h = ap {B = List ℕ} (λ t. c ∷ t) (part_join w zero m (omega arith))
part_join (c ∷ w) (suc a) zero h = absurd (omega arith)
part_join (c ∷ w) (suc a) (suc m) h = part_join w a m (omega arith)

slice_join : (s : List ℕ) (a m e : ℕ) → a ≤ m → m ≤ e → slice a e s ≡ slice a m s ++ slice m e s
slice_join s a m e h k =
    part_join (take e s) a m h ∙ ap (λ (t : List ℕ). drop a t ++ slice m e s) (take-take m e s k)

pub bare_of_join : (s : List ℕ) (a m e : ℕ) → a ≤ m → m ≤ e → bare_of s a e ≡ bare_of s a m ++ bare_of s m e
bare_of_join s a m e h k = ap bare (slice_join s a m e h k) ∙ bare_append (slice a m s) (slice m e s)

pub bare_of_empty : (s : List ℕ) (a : ℕ) → bare_of s a a ≡ []
bare_of_empty s a = ap bare (slice_empty a s)

-- nothing is left at the end
pub bare_of_none : (s : List ℕ) (a e : ℕ) → e ≤ a → bare_of s a e ≡ []
bare_of_none s a e h = ap bare (drop_of_length-le (take e s) {i = a} (simp length-take (omega arith)))

-- the octet at the left end
module _ (s : List ℕ) (a e : ℕ) (h : a < e) (l : e ≤ length s) where
  pub bare_of_cons : bare_of s a e ≡ cond (eqb (get_or s a 0) 92) (bare_of s (suc a) e) (get_or s a 0 ∷ bare_of s (suc a) e)
  bare_of_cons = ap bare (slice-cons a e s 0 h l)

  pub bare_of_backslash : get_or s a 0 ≡ 92 → bare_of s a e ≡ bare_of s (suc a) e
  bare_of_backslash b = bare_of_cons ∙ rw (eq-eqb (get_or s a 0) 92 b) refl

  pub bare_of_octet : (get_or s a 0 ≡ 92 → ⊥) → bare_of s a e ≡ get_or s a 0 ∷ bare_of s (suc a) e
  bare_of_octet n = bare_of_cons ∙ rw (ne_eqb (get_or s a 0) 92 n) refl
