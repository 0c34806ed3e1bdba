-- Octets put behind others. Assumes nothing.
use Prim.Native.Nat.{ℕ}
use native.Mathlib.Omega.{arith}
use mathlib.Core.Path.{◌≡◌, sym, ap, ◌∙◌}
use mathlib.Core.List.{List, ◌++◌}
use lib.ListN.{length-append}
use lib.Seq.{sets}
use Rattle.kinds.specs.Put.{Put}
use Rattle.kinds.proofs.Stores.{sets_append}

pub then : {a b c : List ℕ} {i j k : ℕ} {xs ys : List ℕ} → Put a b i j xs → Put b c j k ys → Put a c i k (xs ++ ys)
then {a} {i = i} {j} {xs = xs} {ys} p q =
    record {
      buffer =
          q.buffer
          ∙ ap (λ (l : List ℕ). sets l j ys) p.buffer
          ∙ ap (λ (n : ℕ). sets (sets a i xs) n ys) p.place
          ∙ sym (sets_append a i xs ys);
      place = omega (arith, p.place, q.place, length-append xs ys);
    }
