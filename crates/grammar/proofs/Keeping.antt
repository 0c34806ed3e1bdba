-- Which parameters are kept, told name by name.
use Prim.Native.Nat.{ℕ}
use mathlib.Core.Path.{◌≡◌, refl, sym, ap, subst, ◌∙◌}
use mathlib.Core.Bool.{Bool, true, false, ◌&&◌, ◌||◌, true≢false}
use mathlib.Core.List.{List, [], ◌∷◌}
use Rattle.octets.specs.Text.{octets}
use Rattle.octets.specs.Fold.{same}
use Rattle.octets.proofs.Laws.{same_sound, same_refl, same_false}
use Rattle.grammar.specs.Link.{Param}
use Rattle.grammar.specs.Kept.{name_of, among, code_of, is_once, unless, keep_after}
use Rattle.grammar.specs.Laws.{of_name, first_only, Keeps}
use Rattle.grammar.proofs.Codes.{once_six}

module _ (s n : List ℕ) where
  this_name : (p : Param) (ps : List Param) → same (name_of s p) n ≡ true → of_name s n (p ∷ ps) ≡ p ∷ of_name s n ps
  this_name p ps e = rw (e, of_name)

  other_name : (p : Param) (ps : List Param) → same (name_of s p) n ≡ false → of_name s n (p ∷ ps) ≡ of_name s n ps
  other_name p ps e = rw (e, of_name)

  -- another name, kept or not, tells nothing of n
  passed : (b : Bool) (p : Param) (ps : List Param) → same (name_of s p) n ≡ false → of_name s n (unless b p ps) ≡ of_name s n ps
  passed true p ps e = refl
  passed false p ps e = other_name p ps e

  turned : (m : List ℕ) → same m n ≡ false → same n m ≡ false
  turned m e = same_false n m (λ q. true≢false (sym (subst (λ (x : List ℕ). same x n ≡ true) q (same_refl n)) ∙ e))

  -- a parameter of the name n, or of another, in front
  module _ (p : Param) (earlier : List (List ℕ)) (rest : List Param) where
    kept : same (name_of s p) n ≡ true → (is_once n && among earlier n) ≡ false
        → of_name s n (unless (is_once (name_of s p) && among earlier (name_of s p)) p rest) ≡ p ∷ of_name s n rest
    kept e f =
        ap (λ (b : Bool). of_name s n (unless b p rest))
        (ap (λ (m : List ℕ). is_once m && among earlier m) (same_sound (name_of s p) n e) ∙ f)
        ∙ this_name p rest e

    dropped : same (name_of s p) n ≡ true → (is_once n && among earlier n) ≡ true
        → of_name s n (unless (is_once (name_of s p) && among earlier (name_of s p)) p rest) ≡ of_name s n rest
    dropped e f =
        ap (λ (b : Bool). of_name s n (unless b p rest))
        (ap (λ (m : List ℕ). is_once m && among earlier m) (same_sound (name_of s p) n e) ∙ f)

    skipped : same (name_of s p) n ≡ false
        → of_name s n (unless (is_once (name_of s p) && among earlier (name_of s p)) p rest) ≡ of_name s n rest
    skipped e = passed (is_once (name_of s p) && among earlier (name_of s p)) p rest e

  -- a name that is kept each time
  each : (earlier : List (List ℕ)) (ps : List Param) → is_once n ≡ false → of_name s n (keep_after s earlier ps) ≡ of_name s n ps
  each earlier [] o = refl
  each earlier (p ∷ ps) o = go (same (name_of s p) n) refl (each (name_of s p ∷ earlier) ps o)
    where
      rest : List Param
      rest = keep_after s (name_of s p ∷ earlier) ps

      go : (b : Bool) → same (name_of s p) n ≡ b → of_name s n rest ≡ of_name s n ps
          → of_name s n (keep_after s earlier (p ∷ ps)) ≡ of_name s n (p ∷ ps)
      go true e h =
          kept p earlier rest e (ap (λ (b : Bool). b && among earlier n) o)
          ∙ ap (λ (x : List Param). p ∷ x) h ∙ sym (this_name p ps e)
      go false e h = skipped p earlier rest e ∙ h ∙ sym (other_name p ps e)

  -- a name kept once, which stood before: none more is kept
  none_after : (earlier : List (List ℕ)) (ps : List Param) → is_once n ≡ true → among earlier n ≡ true
      → of_name s n (keep_after s earlier ps) ≡ []
  none_after earlier [] o a = refl
  none_after earlier (p ∷ ps) o a =
      go (same (name_of s p) n) refl (none_after (name_of s p ∷ earlier) ps o (more (same n (name_of s p))))
    where
      more : (b : Bool) → (b || among earlier n) ≡ true
      more true = refl
      more false = a

      rest : List Param
      rest = keep_after s (name_of s p ∷ earlier) ps

      go : (b : Bool) → same (name_of s p) n ≡ b → of_name s n rest ≡ [] → of_name s n (keep_after s earlier (p ∷ ps)) ≡ []
      go true e h = dropped p earlier rest e (rw (o, a)) ∙ h
      go false e h = skipped p earlier rest e ∙ h

  -- a name kept once, which did not: the first is kept
  first_one : (earlier : List (List ℕ)) (ps : List Param) → is_once n ≡ true → among earlier n ≡ false
      → of_name s n (keep_after s earlier ps) ≡ first_only (of_name s n ps)
  first_one earlier [] o a = refl
  first_one earlier (p ∷ ps) o a =
      go (same (name_of s p) n) refl (none_after (name_of s p ∷ earlier) ps o) (first_one (name_of s p ∷ earlier) ps o)
    where
      rest : List Param
      rest = keep_after s (name_of s p ∷ earlier) ps

      go : (b : Bool) → same (name_of s p) n ≡ b → (among (name_of s p ∷ earlier) n ≡ true → of_name s n rest ≡ [])
          → (among (name_of s p ∷ earlier) n ≡ false → of_name s n rest ≡ first_only (of_name s n ps))
          → of_name s n (keep_after s earlier (p ∷ ps)) ≡ first_only (of_name s n (p ∷ ps))
      go true e None-more first =
          let here : same n (name_of s p) ≡ true =
          subst (λ (x : List ℕ). same n x ≡ true) (sym (same_sound (name_of s p) n e)) (same_refl n)
          in
          kept p earlier rest e (rw (o, a))
          ∙ ap (λ (x : List Param). p ∷ x) (None-more (ap (λ (b : Bool). b || among earlier n) here))
          ∙ ap first_only (sym (this_name p ps e))
      go false e None-more first =
          skipped p earlier rest e ∙ first (rw (turned (name_of s p) e, a)) ∙ ap first_only (sym (other_name p ps e))

pub keeps : Keeps
unfolding code_of is_once
keeps =
    record {
      once = λ s n ps o. first_one s n [] ps o refl;
      each_time = λ s n ps o. each s n [] ps o;
      hreflang = λ s ps. each s (octets "hreflang") [] ps refl;
      rev = λ s ps. each s (octets "rev") [] ps refl;
      only = once_six;
    }
