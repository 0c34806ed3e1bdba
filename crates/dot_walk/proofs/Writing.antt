-- What a part of a text adds, written before the place `right`, octet by octet from its right end: of the part from place `from` to
-- place e, what stands from place i on is passed. Assumes nothing.
use Prim.Native.Nat.{ℕ, ◌+◌, ◌-◌, ◌≤◌, ◌<◌}
use native.Mathlib.Omega.{arith}
use mathlib.Core.Path.{◌≡◌, refl, sym, ap, ◌∙◌}
use mathlib.Core.List.{List, ◌++◌, append-nil}
use lib.ListN.{length, get_or, length-append}
use lib.Seq.{sets, length-sets}
use Rattle.resolution.specs.Walking.{run, text}
use Rattle.resolution.specs.declared.Walk.{Walk}
use Rattle.resolution.proofs.Appended.{text_append, kept_text}
use Rattle.bare.specs.Bare.{bare_of}
use Rattle.bare.proofs.Bare.{bare_of_join, bare_of_empty}
use Rattle.dot_walk.specs.Put.{gained, Written}
use Rattle.dot_walk.proofs.Leftwards.{alone, one_left, run_left}
use Rattle.dot_walk.proofs.StoredBefore.{sets_before, added}

module _ (s old : List ℕ) (from right e : ℕ) (b : Walk) where
  pub record Writing (new : List ℕ) (i : ℕ) (t : Walk) : Type 0 where
    pub low : from ≤ i
    pub high : i ≤ e
    pub state : t ≡ run (bare_of s i e) b
    pub stored : new ≡ sets old (right - t.kept) (text (bare_of s i e) b)
    pub room : t.kept + length (text (bare_of s from i) t) ≤ right

  pub begin : from ≤ e → b.kept + length (text (bare_of s from e) b) ≤ right → Writing old e b
  begin h r =
      record {
        low = h;
        high = omega arith;
        state = rw (bare_of_empty s e) refl;
        stored = rw (bare_of_empty s e) refl;
        room = r;
      }

  pub same_length : {new : List ℕ} {i : ℕ} {t : Walk} → Writing new i t → length new ≡ length old
  same_length {new} {i} {t} w = ap length w.stored ∙ length-sets old (right - t.kept) (text (bare_of s i e) b)

  -- at the octet before place i
  module _ {new : List ℕ} {i : ℕ} {t : Walk} (n : Walk) (w : Writing new i t) (h : from < i) (l : e ≤ length s)
      (f : n ≡ run (alone s (i - 1)) t) where
    pub grows : n.kept ≡ t.kept + length (text (alone s (i - 1)) t)
    grows = ap (λ (x : Walk). x.kept) f ∙ kept_text (alone s (i - 1)) t

    before_it : bare_of s from i ≡ bare_of s from (i - 1) ++ alone s (i - 1)
    before_it =
        bare_of_join s from (i - 1) i (omega (arith, h)) (omega arith)
        ∙ ap (λ (x : List ℕ). bare_of s from (i - 1) ++ x)
        (one_left s i i (omega (arith, h)) (omega arith) (omega (arith, l, w.high))
        ∙ ap (λ (x : List ℕ). alone s (i - 1) ++ x) (bare_of_empty s i) ∙ append-nil (alone s (i - 1)))

    pub room_left : n.kept + length (text (bare_of s from (i - 1)) n) ≤ right
    room_left =
        let u = bare_of s from (i - 1) in
        let a = ap (λ (x : List ℕ). length (text x t)) before_it ∙ ap length (text_append u (alone s (i - 1)) t)
        ∙ length-append (text u (run (alone s (i - 1)) t)) (text (alone s (i - 1)) t) in
        let g = ap (λ (x : Walk). length (text u x)) f in
        omega (arith, w.room, a, g, grows)

    -- what the octet adds is stored before what is stored
    pub again : {new' : List ℕ}
        → new' ≡ sets new (right - t.kept - (n.kept - t.kept)) (gained (n.kept - t.kept) (get_or s (i - 1) 0))
        → Writing new' (i - 1) n
    again {new'} g =
        let v = alone s (i - 1) in
        let m : n.kept - t.kept ≡ length (text v t) = omega (arith, grows) in
        let k : right - t.kept - (n.kept - t.kept) ≡ right - n.kept = omega (arith, grows) in
        let z : right - t.kept ≡ right - n.kept + length (text v t) = omega (arith, grows, room_left) in
        let whole = ap (λ (x : List ℕ). text x b) (one_left s i e (omega (arith, h)) w.high l) ∙ text_append v (bare_of s i e) b in
        record {
          low = omega (arith, h);
          high = omega (arith, w.high);
          state = run_left s e b i (omega (arith, h)) w.high l w.state f;
          stored =
              g
              ∙ ap (λ (x : ℕ). sets new (right - t.kept - (n.kept - t.kept)) (gained x (get_or s (i - 1) 0))) m
              ∙ ap (λ (x : ℕ). sets new x (gained (length (text v t)) (get_or s (i - 1) 0))) k
              ∙ ap (λ (x : List ℕ). sets new (right - n.kept) x) (sym (added t (get_or s (i - 1) 0)))
              ∙ ap (λ (x : List ℕ). sets x (right - n.kept) (text v t)) w.stored
              ∙ sets_before old (right - n.kept) (right - t.kept) (text v t) (text (bare_of s i e) b) z
              ∙ ap (λ (x : Walk). sets old (right - n.kept) (text v x ++ text (bare_of s i e) b)) w.state
              ∙ ap (λ (x : List ℕ). sets old (right - n.kept) x) (sym whole);
          room = room_left;
        }

  -- all is passed
  pub finish : {new : List ℕ} {i : ℕ} {t : Walk} → Writing new i t → i ≤ from → Written old new right (bare_of s from e) b t
  finish {new} {i} {t} w h =
      let q : i ≡ from = omega (arith, w.low, h) in
      record {
        state = w.state ∙ ap (λ (k : ℕ). run (bare_of s k e) b) q;
        buffer = w.stored ∙ ap (λ (k : ℕ). sets old (right - t.kept) (text (bare_of s k e) b)) q;
      }
