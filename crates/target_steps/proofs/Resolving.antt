-- A target resolved on a pack's URI, in octets enough for any result. Assumes nothing.
use Prim.Native.Nat.{ℕ, ◌≤◌, ◌<◌}
use native.Mathlib.Omega.{arith}
use mathlib.Core.Path.{◌≡◌, refl, sym, ap, subst, ◌∙◌}
use mathlib.Core.Bool.{Bool, true, false, cond, ◌&&◌}
use mathlib.Core.List.{List, ◌++◌}
use mathlib.Core.Option.{Option, none, some}
use lib.Dec.{leb}
use lib.ListN.{length, take, drop, length-append}
use lib.Seq.{slice, take-append_seam}
use borrow.Author.Tests.{eq-eqb, eqb-false, lt-leb, le-leb}
use Rattle.std.specs.Prelude.{Result, Ok, Err}
use Rattle.references.specs.AppendixA.{IsReference}
use Rattle.resolution.specs.Resolve.{resolved}
use Rattle.outcomes.specs.Number.{limit, done}
use Rattle.outcomes.specs.Copy.{CopyOut}
use Rattle.outcomes.specs.Resolve.{Fitted, too_long, no_room, fits}
use Rattle.answers.specs.Length.{length_numbers, length_out}
use Rattle.answers.specs.declared.Refusal.{Refusal}
use Rattle.answers.proofs.Refusals.{no_refusal_is_done}
use Rattle.bare.specs.Bare.{bare_of}
use Rattle.bare.proofs.Unescaped.{reference_bare}
use Rattle.target_steps.specs.Stepped.{within}

-- what is written is all of the result
pub record Written (out v : List ℕ) (n : ℕ) : Type 0 where
  pub short : length v ≤ limit
  pub inside : n ≤ length out
  pub octets : take n out ≡ v

written : {out v : List ℕ} {o : CopyOut} → Fitted out v o → o.number ≡ done → Written o.buffer v o.count
written (too_long l) e = absurd (omega (arith, e))
written (no_room h l) e = absurd (omega (arith, e))
written {out} {v} (fits h l) e =
    record {
      short = h;
      inside = omega (arith, length-append v (drop (length v) out));
      octets = take-append_seam v (drop (length v) out);
    }

refused : {out v : List ℕ} {o : CopyOut} → Fitted out v o → limit ≤ length out → (o.number ≡ done → ⊥) → limit < length v
refused (too_long l) h n = l
refused (no_room s l) h n = absurd (omega (arith, h, s, l))
refused (fits s l) h n = absurd (n refl)

-- the answer, told apart
module _ {out out' v : List ℕ} {r : Result ℕ Refusal} (f : Fitted out v (length_out (length_numbers r) out')) where
  told : {x : Result ℕ Refusal} → r ≡ x → Fitted out v (length_out (length_numbers x) out')
  told e = subst (λ (y : Result ℕ Refusal). Fitted out v (length_out (length_numbers y) out')) e f

  pub wrote : {n : ℕ} → r ≡ Ok n → Written out' v n
  wrote e = written (told e) refl

  pub over_limit : {w : Refusal} → r ≡ Err w → limit ≤ length out → limit < length v
  over_limit {w} e h = refused (told e) h (eqb-false _ _ (no_refusal_is_done w))

-- for a reference, the octets without backslashes are its octets
pub as_written : (u v : List ℕ) (a e : ℕ) → IsReference (slice a e v) → resolved u (bare_of v a e) ≡ resolved u (slice a e v)
as_written u v a e r = ap (resolved u) (reference_bare (slice a e v) r)

module _ (u w : List ℕ) where
  pub long_uri : limit < length u → within u w ≡ none
  long_uri h = rw (lt-leb (length u) limit h) refl

  pub long_result : length u ≤ limit → limit < length w → within u w ≡ none
  long_result h k = rw (le-leb (length u) limit h, lt-leb (length w) limit k) refl

  pub both_short : length u ≤ limit → length w ≤ limit → within u w ≡ some w
  both_short h k = rw (le-leb (length u) limit h, le-leb (length w) limit k) refl
