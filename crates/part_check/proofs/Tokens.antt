-- A part is a token if it has an octet, and a run of token octets from its start, cut at its end, ends there.
use Prim.Native.Nat.{ℕ, ◌≤◌, ◌<◌}
use native.Mathlib.Nat.{eq-or-lt_of_le}
use native.Mathlib.Omega.{arith}
use mathlib.Core.Path.{◌≡◌, sym, subst, ◌∙◌}
use mathlib.Core.Logic.{⊎_elim}
use mathlib.Core.Bool.{Bool, false, ◌&&◌, false≢true}
use mathlib.Core.List.{List}
use lib.Dec.{ltb, eqb}
use lib.ListN.{length, take, get_or}
use lib.Seq.{length-take-le, get_or-take}
use Rattle.octets.specs.Sets.{is_token}
use Rattle.grammar.specs.Grammar.{Run, run_end, run_more, Some, Token}
use Rattle.tables.specs.Good.{InText}
use Rattle.tables.proofs.Forms.{run_has}
use Rattle.tables.proofs.Texts.{run_le}
use Rattle.cursor.specs.Passed.{Passed}
use Rattle.part_check.specs.Decides.{Decides}
use Rattle.part_check.proofs.Deciding.{also, both, tests_lt, tests_eq}

module _ (s : List ℕ) {f : ℕ → Bool} where
  -- a run in the text cut at n is one in the text
  pub uncut : {n a e : ℕ} → n ≤ length s → Run (take n s) f a e → Run s f a e
  uncut h run_end = run_end
  uncut {n} {a} h (run_more b r) =
      let l : a < n = subst (λ (k : ℕ). a < k) (length-take-le n s h) b.inside in
      let m : a < length s = omega arith in
      run_more (record { inside = m; is = rw (get_or-take n s a 0 l) at b.is }) (uncut h r)

pub split : {s : List ℕ} {f : ℕ → Bool} {a e : ℕ} → a < e → Run s f a e → Some s f a e
split l run_end = absurd (omega arith)
split l (run_more b r) = record { first = b; rest = r }

-- what is passed in the text cut at e, up to j
module _ (s : List ℕ) {f : ℕ → Bool} {a e j : ℕ} (h : e ≤ length s) (p : Passed f (take e s) a j) where
  -- the octet there is none of the set's
  pub stopped : j < e → f (get_or s j 0) ≡ false
  stopped l = rw (get_or-take e s j 0 l) at (p.stops (rw (length-take-le e s h) l))

  -- a run up to e is passed as a whole
  pub reached : Run s f a e → j ≡ e
  reached r = ⊎_elim (λ q. q) short (eq-or-lt_of_le (subst (λ (k : ℕ). j ≤ k) (length-take-le e s h) p.inside))
    where
      short : j < e → j ≡ e
      short l = absurd (false≢true (sym (stopped l) ∙ run_has s j r p.forward l))

module _ (s : List ℕ) {a e j : ℕ} (h : InText s a e) (p : Passed is_token (take e s) a j) where
  pub token_told : Decides (ltb a e && eqb j e) (Token s a e)
  token_told =
      also (λ q. split q.0 (subst (Run s is_token a) q.1 (uncut s h.inside p.run)))
      (λ t. (run_le s t.rest, reached s h.inside p (run_more t.first t.rest))) (both (tests_lt a e) (tests_eq j e))
