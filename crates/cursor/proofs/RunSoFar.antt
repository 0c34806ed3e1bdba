-- A loop that passes octets of a set f, from place a: it stands at i.
use Prim.Native.Nat.{ℕ, suc, ◌+◌, ◌≤◌, ◌<◌}
use native.Mathlib.Omega.{arith}
use native.Mathlib.Numerals.{add-one}
use mathlib.Core.Path.{◌≡◌}
use mathlib.Core.Bool.{Bool, true, false}
use mathlib.Core.List.{List}
use lib.ListN.{length, get_or}
use Rattle.grammar.specs.Grammar.{In, Run, run_end, run_more}
use Rattle.cursor.specs.Passed.{Passed}

pub record RunSoFar (f : ℕ → Bool) (s : List ℕ) (a i : ℕ) : Type 0 where
  pub forward : a ≤ i
  pub inside : i ≤ length s
  pub run : Run s f a i

module _ {f : ℕ → Bool} {s : List ℕ} where
  pub run_snoc : {a i : ℕ} → Run s f a i → In s f i → Run s f a (suc i)
  run_snoc run_end c = run_more c run_end
  run_snoc (run_more b r) c = run_more b (run_snoc r c)

  run_on : {a b e : ℕ} → Run s f a b → Run s f b e → Run s f a e
  run_on run_end q = q
  run_on (run_more c r) q = run_more c (run_on r q)

  pub begin : {a : ℕ} → a ≤ length s → RunSoFar f s a a
  begin h = record { forward = omega arith; inside = h; run = run_end }

  pub more : {a i : ℕ} → RunSoFar f s a i → i < length s → f (get_or s i 0) ≡ true → RunSoFar f s a (i + 1)
  more {a} {i} g h e =
      record {
        forward = omega (arith, g.forward);
        inside = omega arith;
        run = rw (add-one i) (run_snoc g.run (record { inside = h; is = e }));
      }

  -- a run behind it
  pub further : {a b e : ℕ} → RunSoFar f s a b → RunSoFar f s b e → RunSoFar f s a e
  further g h =
      record { forward = omega (arith, g.forward, h.forward); inside = h.inside; run = run_on g.run h.run }

  pub at_its_end : {a i : ℕ} → RunSoFar f s a i → length s ≤ i → Passed f s a i
  at_its_end g h = record { forward = g.forward; inside = g.inside; run = g.run; stops = λ l. absurd (omega arith) }

  -- the same, told of the text's end
  pub up_to_the_end : {a i : ℕ} → RunSoFar f s a i → length s ≤ i → Passed f s a (length s)
  up_to_the_end {a} {i} g h = let q : i ≡ length s = omega (arith, g.inside) in rw q at (at_its_end g h)

  pub stop : {a i : ℕ} → RunSoFar f s a i → f (get_or s i 0) ≡ false → Passed f s a i
  stop g e = record { forward = g.forward; inside = g.inside; run = g.run; stops = λ l. e }
