-- Notes taken one behind another.
use Prim.Native.Nat.{ℕ, ◌+◌, ◌<◌}
use native.Mathlib.Omega.{arith}
use mathlib.Core.Path.{◌≡◌, refl, sym, ap, ap₂, ◌∙◌}
use mathlib.Core.List.{List, [], ◌++◌, map, map-append}
use lib.ListN.{length, length-map, length-append}
use lib.Seq.{sets, length-sets}
use Rattle.kinds.proofs.Stores.{sets_append}
use Rattle.notes.specs.Noted.{low, Noted}

-- all of them were put
pub noted_put : {old new : List ℕ} {at : ℕ} {ms ns : List ℕ} → ms ≡ ns → new ≡ sets old at (map low ms) → Noted old new at ns
noted_put {old} {at = at} {ns = ns} e p =
    let q = p ∙ ap (λ (ks : List ℕ). sets old at (map low ks)) e in
    record { lengths = ap length q ∙ length-sets old at (map low ns); holds = λ h. q }

-- there was no room for them
pub noted_out : {old : List ℕ} {at : ℕ} (ns : List ℕ) → length old < at + length ns → Noted old old at ns
noted_out ns l = record { lengths = refl; holds = λ h. absurd (omega arith) }

pub noted_none : (old : List ℕ) (at : ℕ) → Noted old old at []
noted_none old at = record { lengths = refl; holds = λ h. refl }

pub noted_then : {a b c : List ℕ} {at next : ℕ} (xs ys : List ℕ) → Noted a b at xs → next ≡ at + length xs → Noted b c next ys
    → Noted a c at (xs ++ ys)
noted_then {a} {b} {c} {at} {next} xs ys p e q =
    record {
      lengths = q.lengths ∙ p.lengths;
      holds =
          λ h.
          let n : length (xs ++ ys) ≡ length xs + length ys = length-append xs ys in
          let first : b ≡ sets a at (map low xs) = p.holds (omega (arith, h, n)) in
          let second : c ≡ sets b next (map low ys) = q.holds (omega (arith, h, n, e, p.lengths)) in
          let behind : next ≡ at + length (map low xs) = e ∙ ap (λ (k : ℕ). at + k) (sym (length-map xs low)) in
          second ∙ ap₂ (λ (t : List ℕ) (k : ℕ). sets t k (map low ys)) first behind
          ∙ sym (sets_append a at (map low xs) (map low ys)) ∙ ap (sets a at) (sym (map-append low xs ys));
    }
