-- An option holds something or nothing, and no two things.
use Prim.Native.Nat.{ℕ}
use native.Mathlib.Omega.{arith}
use mathlib.Core.Path.{◌≡◌, refl}
use mathlib.Core.Logic.{◌⊎◌, inl, inr}
use mathlib.Core.Option.{Option, none, some}

module _ {A : Type 0} where
  pub some_or_none : (x : Option A) → ((a : A) × (x ≡ some a)) ⊎ (x ≡ none)
  some_or_none (some a) = inl (a, refl)
  some_or_none none = inr refl

  pub not_none : {x : Option A} {a : A} → x ≡ some a → x ≡ none → ⊥
  not_none e n = let z : ◌≡◌ {A = ℕ} 0 1 = cc in omega arith

  pub same_some : {x : Option A} {a b : A} → x ≡ some a → x ≡ some b → a ≡ b
  same_some e f = cc
