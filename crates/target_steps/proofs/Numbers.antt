-- What is found in the index is the pack's number. Assumes nothing.
use Prim.Native.Nat.{ℕ, zero, suc, ◌≤◌, ◌<◌}
use native.Mathlib.Omega.{arith}
use mathlib.Core.Path.{◌≡◌, refl, sym, ap, subst, ◌∙◌}
use mathlib.Core.Bool.{Bool, true, false}
use mathlib.Core.List.{List, [], ◌∷◌}
use mathlib.Core.Option.{none, some}
use lib.ListN.{length}
use Rattle.octets.specs.Fold.{same}
use Rattle.kinds.specs.declared.PackNumber.{PackNumber}
use Rattle.catalogues.specs.Packs.{Pack}
use Rattle.catalogues.specs.Steps.{pack_at, next, number_of}
use Rattle.pack_index.specs.Index.{places_at, uri_in, Held, FoundBy}
use Rattle.std.specs.Prelude.{Option, Some, None}
use Rattle.catalogues.proofs.Packing.{pack_there}
use Rattle.target_steps.specs.Stepped.{Listed, Stands}

-- f tells which packs have the URI w
abbrev Tells : (ℕ → Bool) → List ℕ → List Pack → Type 0
Tells f w ps = (j : ℕ) (p : Pack) → pack_at ps j ≡ some p → same p.uri w ≡ f j

number_first : (w : List ℕ) (ps : List Pack) (f : ℕ → Bool) → Tells f w ps → (k : ℕ) → k < length ps → f k ≡ true
    → ((j : ℕ) → j < k → f j ≡ false) → number_of w ps ≡ some k
number_first w [] f t k h y n = absurd (omega (arith, h))
number_first w (p ∷ ps) f t zero h y n = rw (t 0 p refl ∙ y) refl
number_first w (p ∷ ps) f t (suc k) h y n =
    rw (t 0 p refl ∙ n 0 (omega arith))
    (ap next
    (number_first w ps (λ j. f (suc j)) (λ j. t (suc j)) k (omega (arith, h)) y (λ j l. n (suc j) (omega (arith, l)))))

number_none : (w : List ℕ) (ps : List Pack) (f : ℕ → Bool) → Tells f w ps → ((j : ℕ) → j < length ps → f j ≡ false)
    → number_of w ps ≡ none
number_none w [] f t n = refl
number_none w (p ∷ ps) f t n =
    rw (t 0 p refl ∙ n 0 (omega arith))
    (ap next (number_none w ps (λ j. f (suc j)) (λ j. t (suc j)) (λ j l. n (suc j) (omega (arith, l)))))

-- the index has the packs' places
pub held : {s X : List ℕ} {n : ℕ} → Stands s X n → Held s X n
held (ps, l) =
    record {
      room = l.room;
      placed = λ i k. let (q, at) = pack_there ps i (omega (arith, k, l.count)) in (l.indexed i q at).placed;
    }

tells : {s X : List ℕ} {n : ℕ} {ps : List Pack} → Listed s X n ps → (w : List ℕ) → Tells (λ j. same (uri_in s (places_at X j)) w) w ps
tells l w j p at = ap (λ (u : List ℕ). same u w) (sym (l.indexed j p at).uri)

module _ {s X : List ℕ} {n : ℕ} {ps : List Pack} (l : Listed s X n ps) (w : List ℕ) {r : Option PackNumber} (h : FoundBy s X n w r) where
  pub found_number : {k : PackNumber} → r ≡ Some k → number_of w ps ≡ some k.0
  found_number {k} e =
      let t = subst (FoundBy s X n w) e h in
      number_first w ps (λ j. same (uri_in s (places_at X j)) w) (tells l w) k.0 (omega (arith, t.0, l.count)) t.1 t.2

  pub nowhere_number : r ≡ None → number_of w ps ≡ none
  nowhere_number e =
      number_none w ps (λ j. same (uri_in s (places_at X j)) w) (tells l w)
      (λ j k. subst (FoundBy s X n w) e h j (omega (arith, k, l.count)))
