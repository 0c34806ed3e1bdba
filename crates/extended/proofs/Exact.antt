-- Trying a value octet by octet finds just what the definition says. Assumes nothing.
use Prim.Native.Nat.{ℕ}
use mathlib.Core.Path.{◌≡◌, refl, sym, ap, subst, ◌∙◌}
use mathlib.Core.Bool.{Bool, true, false, cond}
use mathlib.Core.List.{List, [], ◌∷◌, ◌++◌}
use mathlib.Core.Option.{Option, none, some}
use Rattle.rules.specs.Left.{matches}
use Rattle.rules.proofs.Lefts.{matches_sound, matches_complete}
use Rattle.octets.specs.Text.{octets}
use Rattle.octets.specs.Sets.{all}
use Rattle.octets.specs.Fold.{folded, same_folded}
use Rattle.utf8.specs.Sequences.{utf8_octets, in_range, WellFormed}
use Rattle.extended.specs.Value.{quote, is_language, Gives, Extended}
use Rattle.extended.specs.Decoded.{behind_folded, charset_part, behind_language, bind, value_chars, given, judged, decoded}
use Rattle.extended.specs.Laws.{DecodedExact, OneText}
use Rattle.extended.proofs.Given.{none_some, given_sound, given_all}
use Rattle.extended.proofs.Fronts.{charset_name, front_sound, front_all, charset_folded, folded_charset, language_sound, language_all}

-- something that came by two steps
pub bound : {A B : Type 0} (o : Option A) (f : A → Option B) {y : B} → bind o f ≡ some y → (x : A) × (o ≡ some x) × (f x ≡ some y)
bound none f e = absurd (none_some e)
bound (some x) f e = (x, refl, e)

-- ---- the parts before the characters

-- w has them, and behind them stand the characters x
pub record Parts (w x : List ℕ) : Type 0 where
  pub charset : List ℕ
  pub language : List ℕ
  pub whole : w ≡ charset ++ quote ∷ (language ++ quote ∷ x)
  pub utf_8 : same_folded charset (octets "UTF-8") ≡ true
  pub in_language : all is_language language ≡ true

parts_sound : (w x : List ℕ) → value_chars w ≡ some x → Parts w x
parts_sound w x e =
    let (y, f, g) = bound (behind_folded charset_part w) behind_language e in
    let front = front_sound charset_name w y f in
    let l = language_sound y x g in
    record {
      charset = front.text;
      language = l.text;
      whole = front.whole ∙ ap {B = List ℕ} (λ z. front.text ++ quote ∷ z) l.whole;
      utf_8 = folded_charset front.text front.is;
      in_language = l.is;
    }

parts_all : {w x : List ℕ} → Parts w x → value_chars w ≡ some x
parts_all {w} {x} p =
    let name : folded p.charset ≡ charset_name = charset_folded p.charset p.utf_8 in
    let front : behind_folded charset_part w ≡ some (p.language ++ quote ∷ x) =
    ap (behind_folded charset_part) p.whole
    ∙ subst (λ (n : List ℕ). behind_folded (n ++ quote ∷ []) (p.charset ++ quote ∷ (p.language ++ quote ∷ x)) ≡ some (p.language ++ quote ∷ x))
    name (front_all p.charset (p.language ++ quote ∷ x))
    in
    ap (λ (o : Option (List ℕ)). bind o behind_language) front ∙ language_all p.language x p.in_language

-- ---- the octets

judged_sound : (u v : List ℕ) → judged u ≡ some v → (u ≡ v) × WellFormed v
judged_sound u v = go (matches in_range utf8_octets u) refl
  where
    go : (b : Bool) → matches in_range utf8_octets u ≡ b → cond b (some u) none ≡ some v → (u ≡ v) × WellFormed v
    go true e h = let q : u ≡ v = cc in (q, rw (sym q) (matches_sound in_range utf8_octets u e))
    go false e h = absurd (none_some h)

pub extended_of : (w x v : List ℕ) → value_chars w ≡ some x → given x ≡ some v → WellFormed v → Extended w v
extended_of w x v h k f =
    let p = parts_sound w x h in
    record {
      charset = p.charset;
      language = p.language;
      chars = x;
      whole = p.whole;
      utf_8 = p.utf_8;
      in_language = p.in_language;
      gives = given_sound x v k;
      well_formed = f;
    }

decoded_right : (w v : List ℕ) → decoded w ≡ some v → Extended w v
unfolding decoded
decoded_right w v e =
    let (u, f, g) = bound (bind (value_chars w) given) judged e in
    let (x, h, k) = bound (value_chars w) given f in
    let j = judged_sound u v g in
    extended_of w x v h (k ∙ ap {B = Option (List ℕ)} some j.0) j.1

extended_parts : {w v : List ℕ} (x : Extended w v) → Parts w x.chars
extended_parts x =
    record { charset = x.charset; language = x.language; whole = x.whole; utf_8 = x.utf_8; in_language = x.in_language }

-- and its characters are found
pub extended_chars : {w v : List ℕ} (x : Extended w v) → (value_chars w ≡ some x.chars) × (given x.chars ≡ some v)
extended_chars x = (parts_all (extended_parts x), given_all x.gives)

decoded_all : (w v : List ℕ) → Extended w v → decoded w ≡ some v
unfolding decoded
decoded_all w v x =
    let found = extended_chars x in
    rw (found.0, found.1, matches_complete in_range utf8_octets v x.well_formed)

pub decoded_exact : DecodedExact
decoded_exact = record { right = decoded_right; all = decoded_all }

pub one_text : OneText
one_text w v u x y = let e : some v ≡ some u = sym (decoded_all w v x) ∙ decoded_all w u y in cc
