-- What the octets of a good table's targets, names and values are, apart from where they stand.
use Prim.Native.Nat.{ℕ, suc, ◌≤◌}
use native.Mathlib.Omega.{arith}
use mathlib.Core.Path.{◌≡◌, refl, ap, ◌∙◌}
use mathlib.Core.Bool.{Bool, true, false, ◌||◌}
use mathlib.Core.List.{List, [], ◌∷◌}
use lib.Dec.{eqb}
use lib.ListN.{length, get_or}
use lib.Seq.{slice, slice_empty, slice-cons}
use Rattle.octets.specs.Sets.{all, is_token, is_escapable, is_target, is_hex}
use Rattle.octets.specs.Fold.{folded}
use Rattle.octets.proofs.Laws.{plain_escapable, fold_fold}
use Rattle.grammar.specs.Grammar.{
  Run,
  run_end,
  run_more,
  Inside,
  inside_end,
  plain,
  pair,
  Target,
  target_end,
  octet,
  triple,
  Extra,
  is_bare,
  Wider,
  from_token,
}
use Rattle.grammar.proofs.Classes.{plain_not_backslash}
use Rattle.grammar.proofs.Spans.{run_inside}
use Rattle.tables.specs.Meaning.{unescape_from}

-- octets that are a target
pub data TargetText : List ℕ → Type 0 where
  target_none : TargetText []
  target_octet : {c : ℕ} {cs : List ℕ} → is_target c ≡ true → TargetText cs → TargetText (c ∷ cs)
  target_triple : {a b : ℕ} {cs : List ℕ} → is_hex a ≡ true → is_hex b ≡ true → TargetText cs → TargetText (37 ∷ a ∷ b ∷ cs)

pub folded_folded : (xs : List ℕ) → folded (folded xs) ≡ folded xs
folded_folded [] = refl
folded_folded (c ∷ xs) = rw (fold_fold c, folded_folded xs)

pub or_true : (a : Bool) {b : Bool} → b ≡ true → (a || b) ≡ true
or_true true e = refl
or_true false e = e

-- a backslash is taken out, and any other octet stays
pub unescape_pair : (d : ℕ) (cs : List ℕ) → unescape_from false (92 ∷ d ∷ cs) ≡ d ∷ unescape_from false cs
unescape_pair d cs = refl

pub unescape_plain : (c : ℕ) (cs : List ℕ) → eqb c 92 ≡ false → unescape_from false (c ∷ cs) ≡ c ∷ unescape_from false cs
unescape_plain c cs e = rw (e, unescape_from)

module _ (s : List ℕ) where
  pub run_le : {f : ℕ → Bool} {i j : ℕ} → Run s f i j → i ≤ j
  run_le run_end = omega arith
  run_le (run_more c r) = omega (arith, run_le r)

  pub inside_le : {i j : ℕ} → Inside s i j → i ≤ j
  inside_le inside_end = omega arith
  inside_le (plain c r) = omega (arith, inside_le r)
  inside_le (pair b c r) = omega (arith, inside_le r)

  pub target_le : {i j : ℕ} → Target s i j → i ≤ j
  target_le target_end = omega arith
  target_le (octet c r) = omega (arith, target_le r)
  target_le (triple p a b r) = omega (arith, target_le r)

  -- a wider value is a run of the edition's bare octets
  pub wider_run : {extra : Extra} {i j : ℕ} → Wider extra s i j → Run s (is_bare extra) i j
  wider_run {extra} {i} {j} (from_token {k = k} t x r) = go t
    where
      go : {a : ℕ} → Run s is_token a k → Run s (is_bare extra) a j
      go {a} run_end = run_more (record { inside = x.inside; is = or_true (is_token (get_or s a 0)) x.is }) r
      go (run_more c t) = run_more (record { inside = c.inside; is = rw c.is }) (go t)

  pub wider_inside : {extra : Extra} {i j : ℕ} → Wider extra s i j → j ≤ length s
  wider_inside (from_token t x r) = run_inside s x.inside r

  -- the part from i on begins with the octet at i
  begins : {i j : ℕ} {c : ℕ} → suc i ≤ j → j ≤ length s → get_or s i 0 ≡ c → slice i j s ≡ c ∷ slice (suc i) j s
  begins {i} {j} h k e = slice-cons i j s 0 h k ∙ ap (λ (x : ℕ). x ∷ slice (suc i) j s) e

  pub run_text : {f : ℕ → Bool} {i j : ℕ} → j ≤ length s → Run s f i j → all f (slice i j s) ≡ true
  run_text {f} {i} k run_end = rw (slice_empty i s)
  run_text {f} {i} {j} k (run_more c r) = rw (begins (run_le r) k refl, c.is, run_text k r)

  pub target_text : {i j : ℕ} → j ≤ length s → Target s i j → TargetText (slice i j s)
  target_text {i} k target_end = rw (slice_empty i s) target_none
  target_text {i} k (octet c r) = rw (begins (target_le r) k refl) (target_octet c.is (target_text k r))
  target_text {i} {j} k (triple p a b r) =
      let h : suc (suc (suc i)) ≤ j = target_le r in
      rw (begins {i = i} (omega arith) k p.is, begins {i = suc i} (omega arith) k refl, begins {i = suc (suc i)} h k refl)
      (target_triple a.is b.is (target_text k r))

  pub inside_text : {i j : ℕ} → j ≤ length s → Inside s i j → all is_escapable (unescape_from false (slice i j s)) ≡ true
  inside_text {i} k inside_end = rw (slice_empty i s)
  inside_text {i} {j} k (plain c r) =
      rw (
        begins (inside_le r) k refl,
        unescape_plain (get_or s i 0) (slice (suc i) j s) (plain_not_backslash _ c.is),
        plain_escapable _ c.is,
        inside_text k r,
      )
  inside_text {i} {j} k (pair b c r) =
      let h : suc (suc i) ≤ j = inside_le r in
      rw (begins {i = i} (omega arith) k b.is, begins {i = suc i} h k refl, c.is, inside_text k r)
