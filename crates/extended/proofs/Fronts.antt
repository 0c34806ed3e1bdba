-- What stands behind the charset, and behind a language. Assumes nothing.
use Prim.Native.Nat.{ℕ, ◌+◌}
use native.Mathlib.Omega.{arith}
use mathlib.Core.Path.{◌≡◌, refl, sym, ap, ◌∙◌}
use mathlib.Core.Bool.{Bool, true, false, cond, false≢true}
use mathlib.Core.List.{List, [], ◌∷◌, ◌++◌}
use mathlib.Core.Option.{Option, none, some}
use lib.Dec.{eqb}
use borrow.Author.Tests.{eqb-true, eq-eqb}
use Rattle.octets.specs.Text.{octets}
use Rattle.octets.specs.Sets.{between, all, is_letter, is_digit}
use Rattle.octets.specs.Fold.{fold, folded, same, same_folded}
use Rattle.octets.proofs.Laws.{not_eqb, same_sound}
use Rattle.octets.proofs.Octets.{both, between_bounds}
use Rattle.extended.specs.Value.{quote, is_language}
use Rattle.extended.specs.Decoded.{behind_folded, charset_part, behind_language}
use Rattle.extended.proofs.Given.{none_some}

-- only a quote is folded to a quote
fold_quote : (c : ℕ) → fold c ≡ quote → c ≡ quote
unfolding fold
fold_quote c = go (between 65 90 c) refl
  where
    go : (b : Bool) → between 65 90 c ≡ b → cond b (c + 32) c ≡ quote → c ≡ quote
    go true e h = absurd (omega (arith, (between_bounds 65 90 c e).0))
    go false e h = h

-- what stands behind a text c that is folded to p, and a quote
pub record Front (p w x : List ℕ) : Type 0 where
  pub text : List ℕ
  pub whole : w ≡ text ++ quote ∷ x
  pub is : folded text ≡ p

pub front_sound : (p w x : List ℕ) → behind_folded (p ++ quote ∷ []) w ≡ some x → Front p w x
front_sound [] [] x e = absurd (none_some e)
front_sound [] (c ∷ w) x e = go (eqb (fold c) quote) refl e
  where
    go : (b : Bool) → eqb (fold c) quote ≡ b → cond b (some w) none ≡ some x → Front [] (c ∷ w) x
    go true q h =
        let is : c ≡ quote = fold_quote c (eqb-true (fold c) quote q) in
        let rest : w ≡ x = cc in
        record { text = []; whole = rw (is, rest); is = refl }
    go false q h = absurd (none_some h)
front_sound (y ∷ p) [] x e = absurd (none_some e)
front_sound (y ∷ p) (c ∷ w) x e = go (eqb (fold c) y) refl e (front_sound p w x)
  where
    go : (b : Bool) → eqb (fold c) y ≡ b → cond b (behind_folded (p ++ quote ∷ []) w) none ≡ some x
        → (behind_folded (p ++ quote ∷ []) w ≡ some x → Front p w x) → Front (y ∷ p) (c ∷ w) x
    go true q h more =
        let f = more h in
        record { text = c ∷ f.text; whole = ap {B = List ℕ} (λ z. c ∷ z) f.whole; is = rw (f.is, eqb-true (fold c) y q) }
    go false q h more = absurd (none_some h)

pub front_all : (t x : List ℕ) → behind_folded (folded t ++ quote ∷ []) (t ++ quote ∷ x) ≡ some x
unfolding fold
front_all [] x = refl
front_all (c ∷ t) x = rw (eq-eqb (fold c) (fold c) refl, front_all t x)

-- the charset's name, folded
abbrev pub charset_name : List ℕ
charset_name = octets "utf-8"

pub charset_folded : (t : List ℕ) → same_folded t (octets "UTF-8") ≡ true → folded t ≡ charset_name
unfolding same_folded fold
charset_folded t h = same_sound (folded t) (octets "utf-8") h

same_self : (u : List ℕ) → same u u ≡ true
same_self [] = refl
same_self (c ∷ u) = rw (eq-eqb c c refl, same_self u)

pub folded_charset : (t : List ℕ) → folded t ≡ charset_name → same_folded t (octets "UTF-8") ≡ true
unfolding same_folded fold
folded_charset t h = rw h (same_self charset_name)

-- ---- a language

pub record Language (w x : List ℕ) : Type 0 where
  pub text : List ℕ
  pub whole : w ≡ text ++ quote ∷ x
  pub is : all is_language text ≡ true

pub language_sound : (w x : List ℕ) → behind_language w ≡ some x → Language w x
language_sound [] x e = absurd (none_some e)
language_sound (c ∷ w) x e = go (eqb c quote) refl (is_language c) refl e (language_sound w x)
  where
    go : (b : Bool) → eqb c quote ≡ b → (d : Bool) → is_language c ≡ d
        → cond b (some w) (cond d (behind_language w) none) ≡ some x → (behind_language w ≡ some x → Language w x) → Language (c ∷ w) x
    go true q d p h more = let rest : w ≡ x = cc in record { text = []; whole = rw (eqb-true c quote q, rest); is = refl }
    go false q true p h more =
        let l = more h in
        record { text = c ∷ l.text; whole = ap {B = List ℕ} (λ z. c ∷ z) l.whole; is = rw p l.is }
    go false q false p h more = absurd (none_some h)

quote_apart : (c : ℕ) → is_language c ≡ true → eqb c quote ≡ false
unfolding is_language is_letter is_digit
quote_apart c h = not_eqb is_language quote c refl h

pub language_all : (t x : List ℕ) → all is_language t ≡ true → behind_language (t ++ quote ∷ x) ≡ some x
language_all [] x h = refl
language_all (c ∷ t) x h =
    let b = both (is_language c) (all is_language t) h in
    rw (quote_apart c b.0, b.0, language_all t x b.1)
