-- The octet meant at a place, and the meaning's length and end.
use Prim.Native.Nat.{ℕ, suc, ◌+◌, ◌≤◌, ◌<◌}
use native.Mathlib.Omega.{arith}
use native.Mathlib.Numerals.{add-one}
use mathlib.Core.Path.{◌≡◌, ap}
use mathlib.Core.List.{List, [], ◌∷◌}
use lib.ListN.{length, get_or, take, length-take, drop_of_length-le}
use lib.Seq.{slice, slice_empty, slice-cons}
use borrow.Author.Tests.{ne_eqb}
use Rattle.tables.specs.Meaning.{unescape}
use Rattle.tables.proofs.Texts.{unescape_plain}
use Rattle.values.specs.Rest.{rest, Meant}

-- nothing is left at the end
pub none_left : (s : List ℕ) {e k : ℕ} → e ≤ k → rest s e k ≡ []
unfolding unescape
none_left s {e} {k} h = rw (drop_of_length-le (take e s) {i = k} (simp length-take (omega arith)))

module _ {s : List ℕ} {e k : ℕ} (h : k < e) (l : e ≤ length s) where
  pub at_plain : (get_or s k 0 ≡ 92 → ⊥) → Meant s e k k
  unfolding unescape
  at_plain n =
      record {
        from = omega arith;
        to = omega arith;
        octet = λ _. rw (slice-cons k e s 0 h l) (unescape_plain (get_or s k 0) (slice (suc k) e s) (ne_eqb (get_or s k 0) 92 n));
        none = λ q. absurd (omega arith);
      }

  pub at_backslash : get_or s k 0 ≡ 92 → Meant s e k (k + 1)
  unfolding unescape
  at_backslash b =
      rw (add-one k)
      (record {
        from = omega arith;
        to = omega arith;
        octet = λ q. rw (slice-cons k e s 0 h l, b, slice-cons (suc k) e s 0 q l);
        none = λ q. let x : suc k ≡ e = omega arith in rw (slice-cons k e s 0 h l, b, x, slice_empty e s);
      })

  -- as code has it, which moved on by one
  pub behind_backslash : {p : ℕ} → get_or s k 0 ≡ 92 → p ≡ k + 1 → Meant s e k p
  behind_backslash b i = rw i (at_backslash b)

-- one octet less is left behind the octet meant, and with none nothing is left
module _ {s : List ℕ} {e k p : ℕ} (m : Meant s e k p) where
  pub octet_step : p < e → rest s e k ≡ get_or s p 0 ∷ rest s e (p + 1)
  octet_step l = rw (add-one p) (m.octet l)

  pub length_step : p < e → length (rest s e k) ≡ suc (length (rest s e (p + 1)))
  length_step l = ap length (octet_step l)

  pub length_none : e ≤ p → length (rest s e k) ≡ 0
  length_none l = ap length (m.none l)
