-- Every reference is a target by its octets: target octets, and triples of `%` and two hex digits. Assumes nothing.
use Prim.Native.Nat.{ℕ, ◌≤◌}
use native.Mathlib.Omega.{arith}
use mathlib.Core.Path.{◌≡◌, refl, sym, ap, subst, ◌∙◌}
use mathlib.Core.Bool.{Bool, true, false, not, ◌&&◌, ◌||◌, false≢true}
use mathlib.Core.List.{List, [], ◌∷◌, ◌++◌}
use mathlib.Core.Logic.{◌⊎◌, inl, inr}
use lib.ListN.{length, take, drop, take-append-drop}
use lib.Seq.{slice, length-slice, drop-append-le, length-take-le}
use borrow.Author.Tests.{eqb-true}
use Rattle.octets.specs.Sets.{is_target, is_hex, is_letter, is_digit}
use Rattle.octets.proofs.Octets.{within, both}
use Rattle.rules.specs.Rule.{Rule, nothing, one, ◌then◌, ◌or◌, many, Many, no_more, and_one, Derives}
use Rattle.rules.proofs.Lefts.{either}
use Rattle.rules.proofs.Search.{same_rule, same_rule_lem}
use Rattle.references.specs.Octets.{Octets, has}
use Rattle.references.specs.Octets.{ALPHA, DIGIT, HEXDIG, unreserved, sub_delims, colon, slash, question, hash, bracket, end_bracket, at}
use Rattle.references.specs.Octets.{percent, dot, plus, hyphen, vee, from_1_to_9, from_0_to_4, from_0_to_5, digit_1, digit_2, digit_5}
use Rattle.references.specs.AppendixA.{pct_encoded, uri_reference, IsReference}
use Rattle.references.proofs.SetNumbers.{same_set, same_set_lem}
use Rattle.references.proofs.SetOctets.{has_octets}
use Rattle.grammar.specs.Grammar.{Target}
use Rattle.tables.proofs.Texts.{TargetText, target_none, target_octet, target_triple}
use Rattle.tables.proofs.Spelt.{target_spells}

-- ---- octets

-- each set but that of `%` holds target octets only
in_target : Octets → Bool
in_target f = not (same_set f percent)

set_target : (f : Octets) → in_target f ≡ true → (c : ℕ) → has f c ≡ true → is_target c ≡ true
unfolding in_target is_target is_letter is_digit
set_target ALPHA e = within (has ALPHA) is_target (has_octets ALPHA) refl
set_target DIGIT e = within (has DIGIT) is_target (has_octets DIGIT) refl
set_target HEXDIG e = within (has HEXDIG) is_target (has_octets HEXDIG) refl
set_target unreserved e = within (has unreserved) is_target (has_octets unreserved) refl
set_target sub_delims e = within (has sub_delims) is_target (has_octets sub_delims) refl
set_target colon e = within (has colon) is_target (has_octets colon) refl
set_target slash e = within (has slash) is_target (has_octets slash) refl
set_target question e = within (has question) is_target (has_octets question) refl
set_target hash e = within (has hash) is_target (has_octets hash) refl
set_target bracket e = within (has bracket) is_target (has_octets bracket) refl
set_target end_bracket e = within (has end_bracket) is_target (has_octets end_bracket) refl
set_target at e = within (has at) is_target (has_octets at) refl
set_target dot e = within (has dot) is_target (has_octets dot) refl
set_target plus e = within (has plus) is_target (has_octets plus) refl
set_target hyphen e = within (has hyphen) is_target (has_octets hyphen) refl
set_target vee e = within (has vee) is_target (has_octets vee) refl
set_target from_1_to_9 e = within (has from_1_to_9) is_target (has_octets from_1_to_9) refl
set_target from_0_to_4 e = within (has from_0_to_4) is_target (has_octets from_0_to_4) refl
set_target from_0_to_5 e = within (has from_0_to_5) is_target (has_octets from_0_to_5) refl
set_target digit_1 e = within (has digit_1) is_target (has_octets digit_1) refl
set_target digit_2 e = within (has digit_2) is_target (has_octets digit_2) refl
set_target digit_5 e = within (has digit_5) is_target (has_octets digit_5) refl
set_target percent e = absurd (false≢true e)

hex_digit : (c : ℕ) → has HEXDIG c ≡ true → is_hex c ≡ true
unfolding is_hex is_digit
hex_digit = within (has HEXDIG) is_hex (has_octets HEXDIG) refl

-- ---- texts

text_append : {u v : List ℕ} → TargetText u → TargetText v → TargetText (u ++ v)
text_append target_none t = t
text_append (target_octet c r) t = target_octet c (text_append r t)
text_append (target_triple x y r) t = target_triple x y (text_append r t)

-- ---- rules

-- the rule is made of sets of target octets, and of triples
in_units : Rule Octets → Bool
in_units nothing = true
in_units (one f) = in_target f
in_units (a then b) = same_rule same_set (a then b) pct_encoded || (in_units a && in_units b)
in_units (a or b) = in_units a && in_units b
in_units (many a) = in_units a

triple_text : (w : List ℕ) → Derives has pct_encoded w → TargetText w
triple_text w d =
    let x = d.second.first in
    let y = d.second.second in
    let p : d.first.octet ≡ 37 = eqb-true d.first.octet 37 d.first.inside in
    let e : w ≡ 37 ∷ x.octet ∷ y.octet ∷ [] = spelt in
    subst TargetText (sym e)
    (target_triple (hex_digit x.octet x.inside) (hex_digit y.octet y.inside) target_none)
  where
    spelt : w ≡ 37 ∷ d.second.first.octet ∷ d.second.second.octet ∷ []
    spelt =
        d.whole
        ∙ ap (λ (u : List ℕ). u ++ d.right) (d.first.is ∙ ap (λ (c : ℕ). c ∷ []) (eqb-true d.first.octet 37 d.first.inside))
        ∙ ap (λ (u : List ℕ). 37 ∷ u)
        (d.second.whole
        ∙ ap (λ (u : List ℕ). u ++ d.second.right) d.second.first.is
        ∙ ap (λ (u : List ℕ). d.second.first.octet ∷ u) d.second.second.is)

many_text : (a : Rule Octets) → ((w : List ℕ) → Derives has a w → TargetText w) → {w : List ℕ} → Many (Derives has a) w → TargetText w
many_text a f (no_more e) = subst TargetText (sym e) target_none
many_text a f (and_one {u = u} e p m) = subst TargetText (sym e) (text_append (f u p) (many_text a f m))

derived_text : (r : Rule Octets) → in_units r ≡ true → (w : List ℕ) → Derives has r w → TargetText w
unfolding in_units
derived_text nothing e w d = subst TargetText (sym d) target_none
derived_text (one f) e w d =
    subst TargetText (sym d.is) (target_octet (set_target f e d.octet d.inside) target_none)
derived_text (a then b) e w d = go (either (same_rule same_set (a then b) pct_encoded) (in_units a && in_units b) e) (derived_text a) (derived_text b)
  where
    go : (same_rule same_set (a then b) pct_encoded ≡ true) ⊎ ((in_units a && in_units b) ≡ true)
        → (in_units a ≡ true → (u : List ℕ) → Derives has a u → TargetText u)
        → (in_units b ≡ true → (u : List ℕ) → Derives has b u → TargetText u) → TargetText w
    go (inl h) f g =
        triple_text w (subst (λ (r : Rule Octets). Derives has r w) (same_rule_lem same_set same_set_lem (a then b) pct_encoded h) d)
    go (inr h) f g =
        let p = both (in_units a) (in_units b) h in
        subst TargetText (sym d.whole) (text_append (f p.0 d.left d.first) (g p.1 d.right d.second))
derived_text (a or b) e w (inl d) = derived_text a (both (in_units a) (in_units b) e).0 w d
derived_text (a or b) e w (inr d) = derived_text b (both (in_units a) (in_units b) e).1 w d
derived_text (many a) e w d = many_text a (derived_text a e) d

pub reference_text : (w : List ℕ) → IsReference w → TargetText w
unfolding in_units in_target
reference_text w d = derived_text uri_reference refl w d

-- ---- a span of a text

-- what is left at a is the span and what is left at k
parted : (s : List ℕ) (a k : ℕ) → a ≤ k → k ≤ length s → drop a s ≡ slice a k s ++ drop k s
parted s a k h l =
    ap (drop a) (sym (take-append-drop k s))
    ∙ drop-append-le a (take k s) (drop k s) (omega (arith, length-take-le k s l))

pub reference_target : (s : List ℕ) (a k : ℕ) → a ≤ k → k ≤ length s → IsReference (slice a k s) → Target s a k
reference_target s a k h l d =
    let x = target_spells s (drop k s) a (reference_text (slice a k s) d) (omega arith) (parted s a k h l) in
    let e : x.stop ≡ k =
    omega
    (arith, x.forward, length-slice a x.stop s x.inside, length-slice a k s l, ap length x.spelt)
    in
    subst (Target s a) e x.derived
