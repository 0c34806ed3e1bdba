-- What is known of a name, its length or its length and an octet, leaves one known name at most: no other need be compared.
use Prim.Native.Nat.{ℕ, suc, ◌-◌}
use native.Mathlib.Omega.{arith}
use mathlib.Core.Path.{◌≡◌, refl, sym, ap, subst, ◌∙◌}
use mathlib.Core.Bool.{Bool, true, false, cond, not, ◌||◌, true≢false}
use mathlib.Core.List.{List, []}
use lib.Dec.{eqb}
use lib.ListN.{length, get_or, length-map}
use borrow.Author.Tests.{eqb-true, eqb-false, eq-eqb, ne_eqb}
use Rattle.octets.specs.Fold.{fold, folded, same, same_folded}
use Rattle.octets.proofs.Laws.{fold_at, same_sound}
use Rattle.octets.proofs.Low.{low, low_fold}
use Rattle.octets.proofs.Octets.{every, every_at}
use Rattle.grammar.specs.Kept.{known_names, code_of}
use Rattle.grammar.proofs.Codes.{codes, code_same}

-- p holds of no known name but the one of code k
abbrev pub leaves : (List ℕ → Bool) → ℕ → Bool
leaves p k = every (λ j. not (p (get_or known_names j [])) || eqb (suc j) k) (length known_names)

-- a name of l octets, and one with the octet d at place i, the bit that parts small letters from capitals set
abbrev pub long : ℕ → List ℕ → Bool
long l m = eqb (length m) l

abbrev pub low_at : ℕ → ℕ → List ℕ → Bool
low_at i d m = eqb (low (get_or m i 0)) d

-- both are told by the name as it is written
module _ (n : List ℕ) {l : ℕ} where
  pub is_long_lem : length n ≡ l → long l (folded n) ≡ true
  is_long_lem e = eq-eqb (length (folded n)) l (length-map n fold ∙ e)

  pub not_long : (length n ≡ l → ⊥) → long l (folded n) ≡ false
  not_long h = ne_eqb (length (folded n)) l (λ e. h (sym (length-map n fold) ∙ e))

low_told : (n : List ℕ) (i : ℕ) → low (get_or (folded n) i 0) ≡ low (get_or n i 0)
low_told n i = ap low (fold_at n i) ∙ low_fold (get_or n i 0)

module _ (n : List ℕ) (i : ℕ) {d : ℕ} where
  pub is_low : low (get_or n i 0) ≡ d → low_at i d (folded n) ≡ true
  is_low e = eq-eqb (low (get_or (folded n) i 0)) d (low_told n i ∙ e)

  pub not_low : (low (get_or n i 0) ≡ d → ⊥) → low_at i d (folded n) ≡ false
  not_low h = ne_eqb (low (get_or (folded n) i 0)) d (λ e. h (sym (low_told n i) ∙ e))

module _ (n : List ℕ) (p : List ℕ → Bool) (h : p (folded n) ≡ true) where
  -- so a known name of which p holds has the code k
  left : (k : ℕ) → leaves p k ≡ true → (code_of (folded n) ≡ 0 → ⊥) → code_of (folded n) ≡ k
  left k e o =
      let (most, named) = codes.known (folded n) o in
      let held : p (get_or known_names (code_of (folded n) - 1) []) ≡ true = subst (λ (m : List ℕ). p m ≡ true) named h in
      let here = every_at (λ j. not (p (get_or known_names j [])) || eqb (suc j) k) (length known_names) e (code_of (folded n) - 1) (omega arith) in
      let told : eqb (suc (code_of (folded n) - 1)) k ≡ true = rw held at here in
      omega (arith, eqb-true _ k told)

  pub none_left : leaves p 0 ≡ true → 0 ≡ code_of (folded n)
  none_left e = go (eqb (code_of (folded n)) 0) refl
    where
      go : (b : Bool) → eqb (code_of (folded n)) 0 ≡ b → 0 ≡ code_of (folded n)
      go true q = sym (eqb-true (code_of (folded n)) 0 q)
      go false q = sym (left 0 e (eqb-false (code_of (folded n)) 0 q))

  -- and one comparison with that name tells the code
  pub one_left : {m : List ℕ} {k r : ℕ} → code_of m ≡ suc k → folded m ≡ m → leaves p (suc k) ≡ true
      → r ≡ cond (same_folded n m) (suc k) 0 → r ≡ code_of (folded n)
  unfolding same_folded
  one_left {m} {k} {r} c low e a = a ∙ rw low (go (same (folded n) m) refl (eqb (code_of (folded n)) 0) refl)
    where
      go : (b : Bool) → same (folded n) m ≡ b → (z : Bool) → eqb (code_of (folded n)) 0 ≡ z
          → cond (same (folded n) m) (suc k) 0 ≡ code_of (folded n)
      go true q z w = rw q (sym (ap code_of (same_sound (folded n) m q) ∙ c))
      go false q true w = rw q (sym (eqb-true (code_of (folded n)) 0 w))
      go false q false w =
          let o = eqb-false (code_of (folded n)) 0 w in
          absurd (true≢false (sym (code_same (folded n) m o (left (suc k) e o ∙ sym c)) ∙ q))
