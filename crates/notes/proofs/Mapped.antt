-- Numbers put one behind another, each as f makes it: the first e of s, from slot `at` on.
use Prim.Native.Nat.{ℕ, suc, ◌+◌, ◌≤◌, ◌<◌}
use native.Mathlib.Omega.{arith}
use native.Mathlib.Nat.{add-zero, sub-zero}
use native.Mathlib.Numerals.{add-one}
use mathlib.Core.Path.{◌≡◌, sym, ap, subst, ◌∙◌}
use mathlib.Core.List.{List, [], ◌∷◌, map}
use lib.ListN.{length, take, get_or, set, length-map}
use lib.Seq.{slice, slice_empty, slice-cons, length-slice, sets}
use Rattle.kinds.proofs.Putting.{Putting, begin, finish, octet, octet_room, onto}

-- those before place k have been put
pub record PutSoFar (f : ℕ → ℕ) (s : List ℕ) (e : ℕ) (old : List ℕ) (at : ℕ) (new : List ℕ) (k : ℕ) : Type 0 where
  pub inside : k ≤ e
  pub within : e ≤ length s
  pub put : Putting old at (map f (take e s)) new (at + k) (map f (slice k e s))

module _ {f : ℕ → ℕ} {s : List ℕ} {e : ℕ} {old : List ℕ} {at : ℕ} where
  pub none_put : e ≤ length s → at + e ≤ length old → PutSoFar f s e old at old 0
  none_put h r =
      let n : length (map f (take e s)) ≡ e = length-map (take e s) f ∙ length-slice 0 e s h ∙ sub-zero e in
      record {
        inside = omega arith;
        within = h;
        put = rw (add-zero at) (begin old at (map f (take e s)) (omega (arith, n)));
      }

  module _ {new : List ℕ} {k : ℕ} (w : PutSoFar f s e old at new k) where
    pub all_put : e ≤ k → new ≡ sets old at (map f (take e s))
    all_put l =
        let q : k ≡ e = omega (arith, w.inside) in
        let nothing : map f (slice k e s) ≡ [] = rw q (ap (map f) (slice_empty e s)) in
        (finish (onto nothing w.put)).buffer

    next : k < e → map f (slice k e s) ≡ f (get_or s k 0) ∷ map f (slice (suc k) e s)
    next l = ap (map f) (slice-cons k e s 0 l w.within)

    pub slot : k < e → at + k < length new
    slot l = octet_room (onto (next l) w.put)

    pub one_put : k < e → PutSoFar f s e old at (set new (at + k) (f (get_or s k 0))) (k + 1)
    one_put l =
        rw (add-one k)
        (record {
          inside = l;
          within = w.within;
          put =
              subst
              (λ (t : ℕ). Putting old at (map f (take e s)) (set new (at + k) (f (get_or s k 0))) t (map f (slice (suc k) e s)))
              (add-one (at + k) ∙ sym (omega arith)) (octet (onto (next l) w.put));
        })
