-- One test over all entries of a table tells that each of them is right, of each set. Assumes nothing.
use Prim.Native.Nat.{ℕ, zero, suc, ◌<◌}
use native.Mathlib.Omega.{arith}
use mathlib.Core.Path.{◌≡◌}
use mathlib.Core.Bool.{Bool, true, ◌&&◌}
use mathlib.Core.List.{List, [], ◌∷◌}
use lib.ListN.{length, get_or}
use Rattle.octets.proofs.Octets.{both, every, every_at, agree, agreed}
use Rattle.octet_classes.specs.Sets.{is_in}
use Rattle.octet_classes.specs.Classes.{says, Classes}
use Rattle.octet_classes.specs.declared.Set.{Set}
use Rattle.octet_classes.specs.declared.Set.TheVariants.{Token, Plain, Escapable, Target, Hex, Older, Blank, Ptoken}

abbrev sets : List Set
sets = Token ∷ Plain ∷ Escapable ∷ Target ∷ Hex ∷ Older ∷ Blank ∷ Ptoken ∷ []

-- f holds of each set listed
abbrev each : (Set → Bool) → List Set → Bool
each f [] = true
each f (x ∷ xs) = f x && each f xs

at : (f : Set → Bool) (xs : List Set) → each f xs ≡ true → (k : ℕ) → k < length xs → f (get_or xs k Token) ≡ true
at f [] e k l = absurd (omega arith)
at f (x ∷ xs) e zero l = (both (f x) (each f xs) e).0
at f (x ∷ xs) e (suc k) l = at f xs (both (f x) (each f xs) e).1 k (omega arith)

of_one : (f : Set → Bool) → each f sets ≡ true → (set : Set) → f set ≡ true
of_one f e Token = at f sets e 0 (omega arith)
of_one f e Plain = at f sets e 1 (omega arith)
of_one f e Escapable = at f sets e 2 (omega arith)
of_one f e Target = at f sets e 3 (omega arith)
of_one f e Hex = at f sets e 4 (omega arith)
of_one f e Older = at f sets e 5 (omega arith)
of_one f e Blank = at f sets e 6 (omega arith)
of_one f e Ptoken = at f sets e 7 (omega arith)

-- the entry x of octet c agrees with each set
abbrev pub agrees : ℕ → ℕ → Bool
agrees c x = each (λ set. agree (says set x) (is_in set c)) sets

abbrev pub tested : List ℕ → Bool
tested t = every (λ c. agrees c (get_or t c 0)) 256

pub holds : (t : List ℕ) → tested t ≡ true → Classes t
holds t e =
    record {
      right = λ set c l. agreed (says set (get_or t c 0)) (is_in set c)
          (of_one (λ k. agree (says k (get_or t c 0)) (is_in k c)) (every_at (λ k. agrees k (get_or t k 0)) 256 e c l) set);
    }

-- what an entry says, of a set that is known to be k
pub told : {t : List ℕ} → Classes t → (c : ℕ) → c < 256 → {set k : Set} → set ≡ k → says k (get_or t c 0) ≡ is_in set c
told h c l {set} {k} e = rw e (h.right k c l)
