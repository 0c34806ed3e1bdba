-- Whether all octets of a block from place a on are in the set f, found octet by octet. Assumes nothing.
use Prim.Native.Nat.{ℕ, zero, suc, ◌+◌, ◌≤◌, ◌<◌}
use native.Mathlib.Omega.{arith}
use mathlib.Core.Path.{◌≡◌, refl, sym, ap, ◌∙◌}
use mathlib.Core.Bool.{Bool, true, ◌&&◌, and_assoc, and-true}
use mathlib.Core.List.{List}
use lib.ListN.{length, get_or}
use lib.Seq.{slice, slice_empty, slice-cons}
use Rattle.octets.specs.Sets.{all}
use Rattle.octets.proofs.Octets.{both}
use Rattle.grammar.specs.Grammar.{Run, run_end, run_more}
use Rattle.cursor.proofs.RunSoFar.{RunSoFar}

module _ (f : ℕ → Bool) (s : List ℕ) where
  -- by its first octet
  all_first : (a e : ℕ) → a < e → e ≤ length s → all f (slice a e s) ≡ (f (get_or s a 0) && all f (slice (suc a) e s))
  all_first a e l h = ap (all f) (slice-cons a e s 0 l h)

  -- and by its last
  all_last : (n a e : ℕ) → a + n ≡ e → e < length s → (all f (slice a e s) && f (get_or s e 0)) ≡ all f (slice a (suc e) s)
  all_last zero a e w h =
      let here : a ≡ e = omega arith in
      rw (here, ap (all f) (slice_empty e s), all_first e (suc e) (omega arith) (omega arith), ap (all f) (slice_empty (suc e) s))
      (sym (and-true (f (get_or s e 0))))
  all_last (suc n) a e w h =
      rw (all_first a e (omega arith) (omega arith), all_first a (suc e) (omega arith) (omega arith))
      (and_assoc (f (get_or s a 0)) (all f (slice (suc a) e s)) (f (get_or s e 0))
      ∙ ap (λ (b : Bool). f (get_or s a 0) && b) (all_last n (suc a) e (omega arith) h))

  all_run : (n a e : ℕ) → a + n ≡ e → e ≤ length s → all f (slice a e s) ≡ true → Run s f a e
  all_run zero a e w h g = let here : a ≡ e = omega arith in rw here run_end
  all_run (suc n) a e w h g =
      let found = both (f (get_or s a 0)) (all f (slice (suc a) e s)) (sym (all_first a e (omega arith) h) ∙ g) in
      let here : a < length s = omega arith in
      run_more (record { inside = here; is = found.0 }) (all_run n (suc a) e (omega arith) h found.1)

  module _ (a : ℕ) where
    pub all_none : true ≡ all f (slice a (a + 0) s)
    all_none = let here : a + 0 ≡ a = omega arith in rw here (sym (ap (all f) (slice_empty a s)))

    -- one octet more
    pub all_more : {b : Bool} (n : ℕ) → b ≡ all f (slice a (a + n) s) → a + n < length s →
        (b && f (get_or s (a + n) 0)) ≡ all f (slice a (a + (n + 1)) s)
    all_more n e h =
        let next : a + (n + 1) ≡ suc (a + n) = omega arith in rw (e, next) (all_last n a (a + n) refl h)

    -- so a block is passed
    pub all_passed : (n : ℕ) → a + n ≤ length s → all f (slice a (a + n) s) ≡ true → RunSoFar f s a (a + n)
    all_passed n h g = record { forward = omega arith; inside = h; run = all_run n a (a + n) refl h g }
