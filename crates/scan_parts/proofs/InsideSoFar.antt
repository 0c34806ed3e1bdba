-- The inside of a quoted string passed so far: it is derived, and where nothing fits the header is malformed.
use Prim.Native.Nat.{ℕ, suc, ◌+◌, ◌≤◌, ◌<◌}
use native.Mathlib.Omega.{arith}
use native.Mathlib.Numerals.{add-one}
use mathlib.Core.Path.{◌≡◌, refl, sym, ap, subst, ◌∙◌}
use mathlib.Core.Bool.{false}
use mathlib.Core.List.{List}
use lib.ListN.{length, get_or}
use Rattle.octets.specs.Sets.{is_plain, is_escapable}
use Rattle.grammar.specs.Grammar.{Extra, At, In, Run, run_end, run_more, Inside, inside_end, plain, pair}
use Rattle.grammar.proofs.Classes.{plain_not_quote, plain_not_backslash}
use Rattle.grammar.specs.Machine.{quote, escape, Open}
use Rattle.cursor.specs.Passed.{Passed, Looked, LookedIn}
use Rattle.std.specs.Prelude.{Err}
use Rattle.scan_parts.specs.Stands.{Stands}
use Rattle.scan_parts.specs.Scanned.{InsideScanned, no_quote}
use Rattle.scan_parts.proofs.Standing.{stands_on, halts}

-- how far the inside has been passed, from place a: to i, where no plain octet stands
pub record InsideSoFar (s : List ℕ) (a i : ℕ) : Type 0 where
  pub derived : Inside s a i
  pub forward : a ≤ i
  pub inside : i ≤ length s
  pub stops : i < length s → is_plain (get_or s i 0) ≡ false

module _ {s : List ℕ} where
  run_inside : {a e : ℕ} → Run s is_plain a e → Inside s a e
  run_inside run_end = inside_end
  run_inside (run_more c r) = plain c (run_inside r)

  inside_append : {a i j : ℕ} → Inside s a i → Inside s i j → Inside s a j
  inside_append inside_end u = u
  inside_append (plain c t) u = plain c (inside_append t u)
  inside_append (pair b c t) u = pair b c (inside_append t u)

  pub inside_stands : {extra : Extra} {a k : ℕ} (o : Open) (n e v : ℕ) → Inside s a k → Stands extra s (quote o n e v) a
      → Stands extra s (quote o n e v) k
  inside_stands o n e v inside_end p = p
  inside_stands o n e v (plain c t) p =
      inside_stands o n e v t
      (stands_on (quote o n e v) p c.inside
      (rw (plain_not_quote _ c.is, plain_not_backslash _ c.is, c.is)))
  inside_stands o n e v (pair b c t) p =
      inside_stands o n e v t
      (stands_on (quote o n e v) (stands_on (escape o n e v) p b.inside (rw b.is)) c.inside (rw c.is))

  pub begin : {a b : ℕ} → Passed is_plain s a b → InsideSoFar s b b
  begin p = record { derived = inside_end; forward = omega arith; inside = p.inside; stops = p.stops }

  pub since : {a b i : ℕ} → Passed is_plain s a b → InsideSoFar s b i → InsideSoFar s a i
  since p g =
      record {
        derived = inside_append (run_inside p.run) g.derived;
        forward = omega (arith, p.forward, g.forward);
        inside = g.inside;
        stops = g.stops;
      }

  -- a pair, and a run behind it
  module _ {a i j : ℕ} (g : InsideSoFar s a i) (q : At s i 92) (k : j ≡ i + 1) where
    pub more : {m e : ℕ} → In s is_escapable j → m ≡ j + 1 → Passed is_plain s m e → InsideSoFar s a e
    more {m} {e} u z p =
        let n : j ≡ suc i = k ∙ add-one i in
        record {
          derived =
              inside_append g.derived
              (pair q (subst (In s is_escapable) n u)
              (subst (λ (x : ℕ). Inside s x e) (z ∙ add-one j ∙ ap suc n) (run_inside p.run)));
          forward = omega (arith, g.forward, p.forward, z, k);
          inside = p.inside;
          stops = p.stops;
        }

    pub no_pair : LookedIn is_escapable s j false → InsideScanned s a (Err (record { 0 = j }))
    no_pair u =
        no_quote
        (λ extra o n e v p z.
        halts
        (subst (Stands extra s (escape o n e v)) (sym (k ∙ add-one i))
        (stands_on (escape o n e v) (inside_stands o n e v g.derived p) q.inside (rw q.is))) refl refl
        (λ h. rw (u.not refl h)) z)

  pub no_octet : {a i : ℕ} → InsideSoFar s a i → Looked s i 34 false → Looked s i 92 false → InsideScanned s a (Err (record { 0 = i }))
  no_octet g l k =
      no_quote
      (λ extra o n e v p z.
      halts (inside_stands o n e v g.derived p) refl refl (λ h. rw (l.not refl h, k.not refl h, g.stops h)) z)
