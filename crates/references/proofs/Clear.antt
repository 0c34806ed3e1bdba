-- A rule no part of which takes an octet of cs derives texts that are free of cs. Assumes nothing.
use Prim.Native.Nat.{ℕ}
use mathlib.Core.Path.{◌≡◌, refl, sym, ap, ◌∙◌}
use mathlib.Core.Bool.{Bool, true, false, not, ◌&&◌, false≢true}
use mathlib.Core.List.{List, [], ◌∷◌, ◌++◌}
use mathlib.Core.Logic.{inl, inr}
use lib.Dec.{eqb}
use borrow.Author.Tests.{eqb-true}
use Rattle.octets.specs.Sets.{one_of}
use Rattle.rules.specs.Rule.{Rule, nothing, one, ◌then◌, ◌or◌, many, Many, no_more, and_one, Derives}
use Rattle.rules.proofs.Lefts.{both}
use Rattle.references.specs.Octets.{Octets, has}

-- no octet of w is in cs
abbrev pub Free : List ℕ → List ℕ → Type 0
Free cs [] = Unit
Free cs (c ∷ w) = (one_of cs c ≡ false) × Free cs w

-- no octet of cs is in the set
abbrev pub outside : Octets → List ℕ → Bool
outside f [] = true
outside f (x ∷ cs) = not (has f x) && outside f cs

abbrev pub clear : List ℕ → Rule Octets → Bool
clear cs nothing = true
clear cs (one f) = outside f cs
clear cs (a then b) = clear cs a && clear cs b
clear cs (a or b) = clear cs a && clear cs b
clear cs (many a) = clear cs a

pub free_append : (cs u v : List ℕ) → Free cs u → Free cs v → Free cs (u ++ v)
free_append cs [] v p q = q
free_append cs (c ∷ u) v p q = (p.0, free_append cs u v p.1 q)

outside_none : (f : Octets) (cs : List ℕ) (c : ℕ) → outside f cs ≡ true → has f c ≡ true → one_of cs c ≡ false
outside_none f [] c o h = refl
outside_none f (x ∷ cs) c o h = go (eqb c x) refl (both (not (has f x)) (outside f cs) o) (outside_none f cs c)
  where
    go : (b : Bool) → eqb c x ≡ b → (not (has f x) ≡ true) × (outside f cs ≡ true)
        → (outside f cs ≡ true → has f c ≡ true → one_of cs c ≡ false) → one_of (x ∷ cs) c ≡ false
    go true e t more = absurd (false≢true (ap not (sym h ∙ ap (has f) (eqb-true c x e)) ∙ t.0))
    go false e t more = rw e (more t.1 h)

module _ (cs : List ℕ) where
  many_free : {P : List ℕ → Type 0} {w : List ℕ} → ((u : List ℕ) → P u → Free cs u) → Many P w → Free cs w
  many_free f (no_more e) = rw e tt
  many_free f (and_one {w} {u} {v} e p m) = rw e (free_append cs u v (f u p) (many_free f m))

  pub clear_free : (r : Rule Octets) → clear cs r ≡ true → (w : List ℕ) → Derives has r w → Free cs w
  clear_free nothing e w d = rw d tt
  clear_free (one f) e w d = rw d.is (outside_none f cs d.octet e d.inside, tt)
  clear_free (a then b) e w d =
      let t = both (clear cs a) (clear cs b) e in
      rw d.whole
      (free_append cs d.left d.right (clear_free a t.0 d.left d.first) (clear_free b t.1 d.right d.second))
  clear_free (a or b) e w (inl d) = clear_free a (both (clear cs a) (clear cs b) e).0 w d
  clear_free (a or b) e w (inr d) = clear_free b (both (clear cs a) (clear cs b) e).1 w d
  clear_free (many a) e w d = many_free (clear_free a e) d
