-- What stands behind an octet of the charset, and behind one of a language.
use Prim.Native.Nat.{ℕ}
use mathlib.Core.Path.{◌≡◌, refl, sym, ap, ◌∙◌}
use mathlib.Core.Bool.{Bool, true, false, cond}
use mathlib.Core.List.{List, [], ◌∷◌}
use mathlib.Core.Option.{Option, none, some}
use lib.Dec.{eqb}
use borrow.Author.Tests.{eq-eqb, ne_eqb}
use Rattle.octets.specs.Text.{octets}
use Rattle.octets.specs.Fold.{fold}
use Rattle.extended.specs.Value.{quote, is_language}
use Rattle.extended.specs.Decoded.{bind, behind_folded, charset_part, behind_language}
use Rattle.units.specs.declared.Reading.{Reading}
use Rattle.units.specs.Seen.{seen, ReadsOctet, ReadsNone}

-- ---- the charset, one octet behind another

one_more : (x : ℕ) (p : List ℕ) (o : Option (List ℕ))
    → bind o (behind_folded (x ∷ p)) ≡ bind (bind o (behind_folded (x ∷ []))) (behind_folded p)
one_more x p none = refl
one_more x p (some []) = refl
one_more x p (some (c ∷ w)) = go (eqb (fold c) x)
  where
    go : (b : Bool) → cond b (behind_folded p w) none ≡ bind (cond b (some w) none) (behind_folded p)
    go true = refl
    go false = refl

-- behind x, where q is what is left there
behind_one : (x : ℕ) (p : List ℕ) (o q : Option (List ℕ)) → q ≡ bind o (behind_folded (x ∷ []))
    → bind o (behind_folded (x ∷ p)) ≡ bind q (behind_folded p)
behind_one x p o q e = one_more x p o ∙ ap (λ (z : Option (List ℕ)). bind z (behind_folded p)) (sym e)

-- behind each octet of the charset and its quote, from w on
pub charset_behind : (w : List ℕ) (u t f h g r : Option (List ℕ)) → u ≡ behind_folded (117 ∷ []) w → t ≡ bind u (behind_folded (116 ∷ []))
    → f ≡ bind t (behind_folded (102 ∷ [])) → h ≡ bind f (behind_folded (45 ∷ [])) → g ≡ bind h (behind_folded (56 ∷ []))
    → r ≡ bind g (behind_folded (39 ∷ [])) → r ≡ behind_folded charset_part w
charset_behind w u t f h g r a b c d e z =
    z
    ∙ sym
    (behind_one 117 (octets "tf-8'") (some w) u a
    ∙ behind_one 116 (octets "f-8'") u t b
    ∙ behind_one 102 (octets "-8'") t f c
    ∙ behind_one 45 (octets "8'") f h d
    ∙ behind_one 56 (octets "'") h g e)

-- ---- what is read

module _ {b : Reading} {s : List ℕ} {e k : ℕ} (w : ReadsNone b s e k) where
  pub no_octet : (x : ℕ) → none ≡ behind_folded (x ∷ []) (seen b s e k)
  no_octet x = rw w.none

  pub no_language : none ≡ behind_language (seen b s e k)
  no_language = rw w.none

module _ {b : Reading} {s : List ℕ} {e k c n : ℕ} (w : ReadsOctet b s e k c n) where
  pub same_octet : (x : ℕ) → fold c ≡ x → some (seen b s e n) ≡ behind_folded (x ∷ []) (seen b s e k)
  same_octet x q = rw (w.octet, eq-eqb (fold c) x q)

  pub other_octet : (x : ℕ) → (fold c ≡ x → ⊥) → none ≡ behind_folded (x ∷ []) (seen b s e k)
  other_octet x q = rw (w.octet, ne_eqb (fold c) x q)

  pub language_ends : c ≡ quote → some (seen b s e n) ≡ behind_language (seen b s e k)
  language_ends q = rw (w.octet, eq-eqb c quote q)

  pub language_on : (c ≡ quote → ⊥) → is_language c ≡ true → behind_language (seen b s e n) ≡ behind_language (seen b s e k)
  language_on q h = rw (w.octet, ne_eqb c quote q, h)

  pub no_language_octet : (c ≡ quote → ⊥) → is_language c ≡ false → none ≡ behind_language (seen b s e k)
  no_language_octet q h = rw (w.octet, ne_eqb c quote q, h)
