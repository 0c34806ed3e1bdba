-- A loop over the inside of a quoted string from a to e is at place k: it knows how many backslashes were dropped so far, and whether the
-- octets met are all token octets. At the end it knows how many octets the value takes.
use Prim.Native.Nat.{ℕ, suc, ◌+◌, ◌-◌, ◌≤◌, ◌<◌}
use native.Mathlib.Omega.{arith}
use native.Mathlib.Numerals.{add-one}
use mathlib.Core.Path.{◌≡◌, refl, sym, ap, ◌∙◌}
use mathlib.Core.Bool.{Bool, true, false, ◌&&◌, true≢false}
use mathlib.Core.List.{List, []}
use lib.ListN.{length, get_or}
use borrow.Author.Tests.{eq-eqb}
use Rattle.octets.specs.Sets.{all, is_token, is_plain}
use Rattle.grammar.specs.Grammar.{In, Inside, inside_end, plain, pair}
use Rattle.grammar.proofs.Classes.{plain_not_backslash}
use Rattle.tables.specs.Written.{escape, written_value}
use Rattle.tables.proofs.Texts.{inside_le}
use Rattle.values.specs.Rest.{rest, Meant}
use Rattle.values.proofs.Meant.{none_left, at_plain, at_backslash}
use Rattle.shape.specs.Shape.{len_for, escaped_len}
use Rattle.shape.proofs.EscapedLengths.{escaped_bounds}
use Rattle.shape.proofs.SpanLengths.{plain_len, meant_escaped}
use Rattle.shape.proofs.ValueLengths.{length_for}

pub record DroppedUpTo (s : List ℕ) (e a dropped : ℕ) (tokens : Bool) (k : ℕ) : Type 0 where
  pub inside : Inside s k e
  pub few : dropped + a ≤ k
  pub octets : length (escape (rest s e a)) + dropped + a ≡ k + length (escape (rest s e k))
  pub all_tokens : all is_token (rest s e a) ≡ (tokens && all is_token (rest s e k))

pub drop_begin : {s : List ℕ} {e a : ℕ} → Inside s a e → DroppedUpTo s e a 0 true a
drop_begin i = record { inside = i; few = omega arith; octets = omega arith; all_tokens = refl }

-- ---- what stands at a place inside

module _ {s : List ℕ} {k e : ℕ} (l : k < e) where
  -- no backslash: an octet that stands for itself
  plain_on : (get_or s k 0 ≡ 92 → ⊥) → Inside s k e → In s is_plain k × Inside s (suc k) e
  plain_on n i = go l i
    where
      go : {j : ℕ} → k < j → Inside s k j → In s is_plain k × Inside s (suc k) j
      go h inside_end = absurd (omega arith)
      go h (plain c r) = (c, r)
      go h (pair b c r) = absurd (n b.is)

  -- a backslash: it and the octet behind it
  pair_on : get_or s k 0 ≡ 92 → Inside s k e → Inside s (suc (suc k)) e
  pair_on b i = go l i
    where
      go : {j : ℕ} → k < j → Inside s k j → Inside s (suc (suc k)) j
      go h inside_end = absurd (omega arith)
      go h (plain c r) = absurd (true≢false (sym (eq-eqb (get_or s k 0) 92 b) ∙ plain_not_backslash (get_or s k 0) c.is))
      go h (pair b' c r) = r

-- ---- a turn

and_none : (b : Bool) → (b && true) ≡ b
and_none true = refl
and_none false = refl

and_both : (a b d : Bool) → (a && (b && d)) ≡ (a && b && d)
and_both true b d = refl
and_both false b d = refl

module _ {s : List ℕ} {e a dropped : ℕ} {tokens : Bool} {k : ℕ} (w : DroppedUpTo s e a dropped tokens k) where
  pub drop_end : e ≤ k → {n r : ℕ} → n ≡ e - a → r ≡ len_for (n - dropped) tokens → r ≡ length (written_value (rest s e a))
  drop_end l {n} is told =
      let none : rest s e k ≡ [] = none_left s l in
      let same_length : n - dropped ≡ length (escape (rest s e a)) =
      omega (arith, is, w.octets, inside_le s w.inside, ap (λ v. length (escape v)) none)
      in
      let same_tokens : tokens ≡ all is_token (rest s e a) = sym (w.all_tokens ∙ rw none (and_none tokens)) in
      told ∙ rw (same_length, same_tokens) (length_for (rest s e a))

  -- what is dropped and the escaped octet make the octets of the span
  step : (x : ℕ) {p : ℕ} {t : Bool} → Meant s e k p → Inside s (suc p) e → k + (x + escaped_len (get_or s p 0)) ≡ suc p
      → t ≡ is_token (get_or s p 0) → DroppedUpTo s e a (dropped + x) (tokens && t) (p + 1)
  step x {p} {t} m i adds is =
      let l : p < e = inside_le s i in
      rw (add-one p)
      (record {
        inside = i;
        few = omega (arith, w.few, adds, escaped_bounds (get_or s p 0));
        octets = omega (arith, w.octets, meant_escaped m l, adds);
        all_tokens =
            w.all_tokens ∙ ap (λ v. tokens && all is_token v) (m.octet l)
            ∙ rw is (and_both tokens (is_token (get_or s p 0)) (all is_token (rest s e (suc p))));
      })

  module _ (l : k < e) (short : e ≤ length s) where
    pub drop_none : (get_or s k 0 ≡ 92 → ⊥) → {t : Bool} → t ≡ is_token (get_or s k 0) → DroppedUpTo s e a dropped (tokens && t) (k + 1)
    drop_none n {t} is =
        let on = plain_on l n w.inside in
        let d : dropped + 0 ≡ dropped = omega arith in
        rw d at
        (step 0 (at_plain l short n) on.1 (omega (arith, plain_len (get_or s k 0) on.0.is)) is)

    -- the octet behind the backslash, at p
    module _ (b : get_or s k 0 ≡ 92) {p : ℕ} (at : p ≡ k + 1) where
      pub pair_inside : p < e
      pair_inside = omega (arith, at, inside_le s (pair_on l b w.inside))

      pub drop_more : (x : ℕ) {t : Bool} → x + escaped_len (get_or s p 0) ≡ 2 → t ≡ is_token (get_or s p 0)
          → DroppedUpTo s e a (dropped + x) (tokens && t) (p + 1)
      drop_more x adds is =
          let next : suc p ≡ suc (suc k) = omega (arith, at) in
          step x (rw at (at_backslash l short b)) (rw next (pair_on l b w.inside)) (omega (arith, at, adds)) is
