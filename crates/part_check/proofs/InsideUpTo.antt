-- The inside of a quoted string passed up to i, where no plain octet stands: what is left of the part tells what the whole part is.
use Prim.Native.Nat.{ℕ, suc, ◌≤◌, ◌<◌}
use native.Mathlib.Omega.{arith}
use mathlib.Core.Path.{◌≡◌, sym, subst, ◌∙◌}
use mathlib.Core.Bool.{true, false, false≢true}
use mathlib.Core.List.{List}
use lib.ListN.{length, take, get_or}
use lib.Seq.{length-take-le}
use borrow.Author.Tests.{eqb-false}
use Rattle.octets.specs.Sets.{is_plain}
use Rattle.grammar.specs.Grammar.{Run, run_end, run_more, Inside, inside_end, plain, pair}
use Rattle.grammar.proofs.Classes.{plain_not_backslash}
use Rattle.tables.proofs.Texts.{inside_le, run_le}
use Rattle.cursor.specs.Passed.{Passed}
use Rattle.part_check.specs.Decides.{Decides}
use Rattle.part_check.specs.Pairs.{PairAt}
use Rattle.part_check.proofs.Deciding.{is_so, not_so}
use Rattle.part_check.proofs.Tokens.{uncut, stopped}

pub record InsideUpTo (s : List ℕ) (a i e : ℕ) : Type 0 where
  pub within : i ≤ e
  back : Inside s i e → Inside s a e
  on : Inside s a e → Inside s i e
  stops : i < e → is_plain (get_or s i 0) ≡ false

module _ (s : List ℕ) where
  -- a run of plain octets in front of an inside, and read off one
  run_back : {a j e : ℕ} → Run s is_plain a j → Inside s j e → Inside s a e
  run_back run_end x = x
  run_back (run_more b r) x = plain b (run_back r x)

  past_plain : {i e : ℕ} → i < e → is_plain (get_or s i 0) ≡ true → Inside s i e → Inside s (suc i) e
  past_plain h p inside_end = absurd (omega arith)
  past_plain h p (plain b r) = r
  past_plain h p (pair b c r) = absurd (eqb-false _ 92 (plain_not_backslash _ p) b.is)

  run_on : {a j e : ℕ} → Run s is_plain a j → j ≤ e → Inside s a e → Inside s j e
  run_on run_end l x = x
  run_on (run_more b r) l x = run_on r l (past_plain (omega (arith, run_le s r)) b.is x)

  -- what begins an inside that begins with no plain octet
  record Paired (i e : ℕ) : Type 0 where
    here : PairAt s i e
    rest : Inside s (suc (suc i)) e

  paired : {i e : ℕ} → i < e → is_plain (get_or s i 0) ≡ false → Inside s i e → Paired i e
  paired h n inside_end = absurd (omega arith)
  paired h n (plain b r) = absurd (false≢true (sym n ∙ b.is))
  paired h n (pair b c r) = record { here = record { backslash = b; next = c; room = inside_le s r }; rest = r }

  -- a run passed in the text cut at the part's end
  module _ {a b e : ℕ} (h : e ≤ length s) (p : Passed is_plain (take e s) a b) where
    ends : b ≤ e
    ends = subst (λ (k : ℕ). b ≤ k) (length-take-le e s h) p.inside

    pub begin : InsideUpTo s b b e
    begin = record { within = ends; back = λ x. x; on = λ x. x; stops = stopped s h p }

    pub since : {i : ℕ} → InsideUpTo s b i e → InsideUpTo s a i e
    since g =
        record {
          within = g.within;
          back = λ x. run_back (uncut s h p.run) (g.back x);
          on = λ x. g.on (run_on (uncut s h p.run) ends x);
          stops = g.stops;
        }

  -- a pair, and a run behind it
  pub more : {a i m j e : ℕ} → InsideUpTo s a i e → i < e → PairAt s i e → m ≡ suc (suc i) → (h : e ≤ length s) →
      Passed is_plain (take e s) m j → InsideUpTo s a j e
  more {a} {i} {m} {j} {e} g l q z h p =
      let behind = since h p (begin h p) in
      record {
        within = behind.within;
        back = λ x. g.back (pair q.backslash q.next (subst (λ (k : ℕ). Inside s k e) z (behind.back x)));
        on = λ x. behind.on (subst (λ (k : ℕ). Inside s k e) (sym z) (paired l (g.stops l) (g.on x)).rest);
        stops = behind.stops;
      }

  pub no_more : {a i e : ℕ} → InsideUpTo s a i e → i < e → (PairAt s i e → ⊥) → Decides false (Inside s a e)
  no_more g l n = not_so (λ x. n (paired l (g.stops l) (g.on x)).here)

  pub whole : {a i e : ℕ} → InsideUpTo s a i e → e ≤ i → Decides true (Inside s a e)
  whole {a} {i} {e} g h = let q : i ≡ e = omega (arith, g.within) in is_so (g.back (rw q inside_end))
