-- What is passed up to the first of some octets is what a text is cut into there. Assumes nothing.
use Prim.Native.Nat.{ℕ, suc, ◌≤◌, ◌<◌}
use native.Mathlib.Omega.{arith}
use native.Mathlib.Decide.{dec_le}
use mathlib.Core.Path.{◌≡◌, sym, ap, subst, ◌∙◌}
use mathlib.Core.Bool.{Bool, true, false}
use mathlib.Core.List.{List, ◌∷◌, ◌++◌}
use lib.ListN.{length, get_or, take, drop, take-append-drop, length-drop}
use lib.Seq.{slice, slice_empty, slice-cons, drop-cons, drop-length, drop-append-le, length-take-le}
use Rattle.octets.specs.Sets.{one_of}
use Rattle.references.specs.Components.{before, from}
use Rattle.references.proofs.Clear.{Free}
use Rattle.references.proofs.Cuts.{Stops, before_free, from_free}
use Rattle.grammar.specs.Grammar.{Run, run_end, run_more}
use Rattle.tables.proofs.Texts.{run_le}
use Rattle.cursor.specs.Passed.{Passed}

-- f is the set of all octets that are none of cs
pub record Outside (cs : List ℕ) (f : ℕ → Bool) : Type 0 where
  pub free : (c : ℕ) → f c ≡ true → one_of cs c ≡ false
  pub stops : (c : ℕ) → f c ≡ false → one_of cs c ≡ true

-- a text from place a on, in two
pub two_parts : (s : List ℕ) (a e : ℕ) → a ≤ e → e ≤ length s → drop a s ≡ slice a e s ++ drop e s
two_parts s a e l h =
    ap (drop a) (sym (take-append-drop e s)) ∙ drop-append-le a (take e s) (drop e s) (omega (arith, length-take-le e s h))

module _ {cs : List ℕ} {f : ℕ → Bool} (o : Outside cs f) {s : List ℕ} where
  run_free : {a e : ℕ} → Run s f a e → e ≤ length s → Free cs (slice a e s)
  run_free {a} run_end h = subst (Free cs) (sym (slice_empty a s)) tt
  run_free {a} {e} (run_more c r) h =
      subst (Free cs) (sym (slice-cons a e s 0 (run_le s r) h)) (o.free (get_or s a 0) c.is, run_free r h)

  module _ {a e : ℕ} (p : Passed f s a e) where
    pub passed_free : Free cs (slice a e s)
    passed_free = run_free p.run p.inside

    passed_stops : Stops cs (drop e s)
    passed_stops = go (dec_le (length s) e)
      where
        go : Dec (length s ≤ e) → Stops cs (drop e s)
        go (yes h) =
            let end : e ≡ length s = omega (arith, h, p.inside) in
            subst (Stops cs) (sym (ap (λ (k : ℕ). drop k s) end ∙ drop-length s)) tt
        go (no n) =
            let l : e < length s = omega arith in
            subst (Stops cs) (sym (drop-cons s e 0 l)) (o.stops (get_or s e 0) (p.stops l))

    -- where some text u, free of them, stands before one of them
    module _ (u x : List ℕ) (g : Free cs u) (t : Stops cs x) (whole : drop a s ≡ u ++ x) where
      pub cut_front : slice a e s ≡ u
      cut_front =
          sym (before_free cs (slice a e s) (drop e s) passed_free passed_stops)
          ∙ ap (before cs) (sym (two_parts s a e p.forward p.inside) ∙ whole)
          ∙ before_free cs u x g t

      pub cut_behind : drop e s ≡ x
      cut_behind =
          sym (from_free cs (slice a e s) (drop e s) passed_free passed_stops)
          ∙ ap (from cs) (sym (two_parts s a e p.forward p.inside) ∙ whole)
          ∙ from_free cs u x g t

-- an octet that is there stands first in what is left
pub first_left : (s : List ℕ) (e c : ℕ) {x : List ℕ} → drop e s ≡ c ∷ x → (e < length s) × (get_or s e 0 ≡ c) × (drop (suc e) s ≡ x)
first_left s e c {x} q = go (dec_le (length s) e)
  where
    go : Dec (length s ≤ e) → (e < length s) × (get_or s e 0 ≡ c) × (drop (suc e) s ≡ x)
    go (yes h) = absurd (omega (arith, ap length q, drop_none h))
      where
        drop_none : length s ≤ e → length (drop e s) ≡ 0
        drop_none k = length-drop e s ∙ omega arith
    go (no n) =
        let l : e < length s = omega arith in
        let both : get_or s e 0 ∷ drop (suc e) s ≡ c ∷ x = sym (drop-cons s e 0 l) ∙ q in
        (l, ap (λ (w : List ℕ). get_or w 0 0) both, ap (drop 1) both)
