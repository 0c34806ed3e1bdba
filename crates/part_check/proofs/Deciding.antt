-- Answers that decide claims, and answers made of others.
use Prim.Native.Nat.{ℕ, ◌≤◌, ◌<◌}
use mathlib.Core.Path.{◌≡◌, refl, sym, ◌∙◌}
use mathlib.Core.Bool.{Bool, true, false, ◌&&◌, false≢true, true≢false}
use lib.Dec.{leb, ltb, eqb}
use borrow.Author.Tests.{leb-true, ltb-true, eqb-true, le-leb, lt-ltb, eqb-false}
use Rattle.part_check.specs.Decides.{Decides}

module _ {X : Type 0} where
  pub is_so : X → Decides true X
  is_so x = record { holds = λ q. x; fails = λ q y. true≢false q }

  pub not_so : (X → ⊥) → Decides false X
  not_so n = record { holds = λ q. absurd (false≢true q); fails = λ q x. n x }

  -- the same claim in other words
  pub also : {Y : Type 0} {b : Bool} → (X → Y) → (Y → X) → Decides b X → Decides b Y
  also to from d = record { holds = λ q. to (d.holds q); fails = λ q y. d.fails q (from y) }

pub both : {X Y : Type 0} {a b : Bool} → Decides a X → Decides b Y → Decides (a && b) (X × Y)
both {a = true} x y = record { holds = λ q. (x.holds refl, y.holds q); fails = λ q p. y.fails q p.1 }
both {a = false} x y = not_so (λ p. x.fails refl p.0)

-- a test decides what it tests
pub tests_le : (a b : ℕ) → Decides (leb a b) (a ≤ b)
tests_le a b = record { holds = leb-true a b; fails = λ q h. false≢true (sym q ∙ le-leb a b h) }

pub tests_lt : (a b : ℕ) → Decides (ltb a b) (a < b)
tests_lt a b = record { holds = ltb-true a b; fails = λ q h. false≢true (sym q ∙ lt-ltb a b h) }

pub tests_eq : (a b : ℕ) → Decides (eqb a b) (a ≡ b)
tests_eq a b = record { holds = eqb-true a b; fails = eqb-false a b }
