-- The first line of a text: what stands before the first tab, and what stands between that and the next LF. Assumes nothing.
use Prim.Native.Nat.{ℕ}
use mathlib.Core.Path.{◌≡◌, refl, sym, ap, subst, ◌∙◌}
use mathlib.Core.Bool.{Bool, true, false, false≢true}
use mathlib.Core.Logic.{◌⊎◌, inl, inr}
use mathlib.Core.List.{List, [], ◌∷◌, ◌++◌}
use lib.Dec.{eqb}
use borrow.Author.Tests.{eqb-true, eq-eqb}
use Rattle.references.proofs.Clear.{Free}
use Rattle.catalogues.specs.Packs.{Pack, Room, RightPack, line_of}
use Rattle.catalogues.proofs.Lines.{uri_no_tab, laid, parted}

-- the text is cut at its first octet c
pub record CutAt (c : ℕ) (w : List ℕ) : Type 0 where
  pub left : List ℕ
  pub right : List ℕ
  pub free : Free (c ∷ []) left
  pub whole : w ≡ left ++ (c ∷ right)

unfoldable pub cut_at : (c : ℕ) (w : List ℕ) → CutAt c w ⊎ Free (c ∷ []) w
cut_at c [] = inr tt
cut_at c (d ∷ w) = go (eqb d c) refl (cut_at c w)
  where
    go : (b : Bool) → eqb d c ≡ b → CutAt c w ⊎ Free (c ∷ []) w → CutAt c (d ∷ w) ⊎ Free (c ∷ []) (d ∷ w)
    go true e x = inl (record { left = []; right = w; free = tt; whole = rw (eqb-true d c e) refl })
    go false e (inl x) =
        inl (record {
          left = d ∷ x.left;
          right = x.right;
          free = (rw e refl, x.free);
          whole = ap {B = List ℕ} (λ v. d ∷ v) x.whole;
        })
    go false e (inr f) = inr (rw e refl, f)

-- a text with the octet c in it is not free of it
pub not_free : (c : ℕ) (u x : List ℕ) → Free (c ∷ []) (u ++ (c ∷ x)) → ⊥
not_free c [] x f = false≢true (sym f.0 ∙ rw (eq-eqb c c refl) refl)
not_free c (d ∷ u) x f = not_free c u x f.1

pub record FirstLine (w : List ℕ) : Type 0 where
  pub uri : List ℕ
  pub value : List ℕ
  pub rest : List ℕ
  pub no_tab : Free (9 ∷ []) uri
  pub no_lf : Free (10 ∷ []) value
  pub whole : w ≡ uri ++ (9 ∷ (value ++ (10 ∷ rest)))

-- no right pack's line begins the text
abbrev pub NoLine : List ℕ → Type 0
NoLine w = (room : Room) (p : Pack) (x : List ℕ) → RightPack room p → w ≡ line_of p ++ x → ⊥

unfoldable pub first_line : (w : List ℕ) → FirstLine w ⊎ NoLine w
unfolding cut_at
first_line w = go (cut_at 9 w)
  where
    value : (t : CutAt 9 w) → CutAt 10 t.right ⊎ Free (10 ∷ []) t.right → FirstLine w ⊎ NoLine w
    value t (inl l) = inl (record {
      uri = t.left;
      value = l.left;
      rest = l.right;
      no_tab = t.free;
      no_lf = l.free;
      whole = t.whole ∙ ap (λ (v : List ℕ). t.left ++ (9 ∷ v)) l.whole;
    })
    value t (inr f) =
        inr
        (λ room p x r e.
        let a = parted 9 refl t.left p.uri _ _ t.free (uri_no_tab p.uri r.uri) (sym t.whole ∙ e ∙ laid p x) in
        not_free 10 p.value x (subst (Free (10 ∷ [])) a.1 f))

    go : CutAt 9 w ⊎ Free (9 ∷ []) w → FirstLine w ⊎ NoLine w
    go (inl t) = value t (cut_at 10 t.right)
    go (inr f) = inr (λ room p x r e. not_free 9 p.uri (p.value ++ (10 ∷ x)) (subst (Free (9 ∷ [])) (e ∙ laid p x) f))
