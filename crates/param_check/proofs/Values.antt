-- A value against the rule of its form.
use Prim.Native.Nat.{ℕ}
use native.Mathlib.Omega.{arith}
use mathlib.Core.Path.{◌≡◌}
use mathlib.Core.Bool.{Bool, false, ◌&&◌, false≢true}
use mathlib.Core.List.{List}
use lib.Dec.{eqb}
use Rattle.octets.specs.Editions.{further}
use Rattle.octets.specs.declared.editions.Edition.TheVariants.{Rfc8288}
use Rattle.grammar.specs.Link.{Param}
use Rattle.grammar.specs.Grammar.{Extra, Token, Inside, Wider, from_token}
use Rattle.tables.specs.Good.{GoodValue, no_value, token_value, quoted_value, wider_value}
use Rattle.part_check.specs.Decides.{Decides}
use Rattle.param_check.specs.Params.{WiderValue}
use Rattle.part_check.proofs.Deciding.{also, not_so, both, tests_eq}

module _ {extra : Extra} {s : List ℕ} {p : Param} where
  -- what a good value of each form holds
  none_from : p.form ≡ 0 → GoodValue extra s p → (p.value_from ≡ p.name_to) × (p.value_to ≡ p.name_to)
  none_from f (no_value g a b) = (a, b)
  none_from f (token_value g v) = absurd (omega arith)
  none_from f (quoted_value g v) = absurd (omega arith)
  none_from f (wider_value g v) = absurd (omega arith)

  token_from : p.form ≡ 1 → GoodValue extra s p → Token s p.value_from p.value_to
  token_from f (no_value g a b) = absurd (omega arith)
  token_from f (token_value g v) = v
  token_from f (quoted_value g v) = absurd (omega arith)
  token_from f (wider_value g v) = absurd (omega arith)

  inside_from : p.form ≡ 2 → GoodValue extra s p → Inside s p.value_from p.value_to
  inside_from f (no_value g a b) = absurd (omega arith)
  inside_from f (token_value g v) = absurd (omega arith)
  inside_from f (quoted_value g v) = v
  inside_from f (wider_value g v) = absurd (omega arith)

  wider_from : (p.form ≡ 0 → ⊥) → (p.form ≡ 1 → ⊥) → (p.form ≡ 2 → ⊥) → GoodValue extra s p → WiderValue extra s p
  wider_from a b c (no_value g x y) = absurd (a g)
  wider_from a b c (token_value g v) = absurd (b g)
  wider_from a b c (quoted_value g v) = absurd (c g)
  wider_from a b c (wider_value g v) = record { form = g; value = v }

  pub of_none : p.form ≡ 0 → Decides (eqb p.value_from p.name_to && eqb p.value_to p.name_to) (GoodValue extra s p)
  of_none f = also (λ q. no_value f q.0 q.1) (none_from f) (both (tests_eq _ _) (tests_eq _ _))

  pub of_token : {r : Bool} → p.form ≡ 1 → Decides r (Token s p.value_from p.value_to) → Decides r (GoodValue extra s p)
  of_token f = also (token_value f) (token_from f)

  pub of_quoted : {r : Bool} → p.form ≡ 2 → Decides r (Inside s p.value_from p.value_to) → Decides r (GoodValue extra s p)
  of_quoted f = also (quoted_value f) (inside_from f)

  pub of_wider : {r : Bool} → (p.form ≡ 0 → ⊥) → (p.form ≡ 1 → ⊥) → (p.form ≡ 2 → ⊥) → Decides r (WiderValue extra s p)
      → Decides r (GoodValue extra s p)
  of_wider a b c = also (λ w. wider_value w.form w.value) (wider_from a b c)

  -- form 3 alone is asked for a wider value
  pub of_form_three : {r : Bool} → p.form ≡ 3 → Decides r (Wider extra s p.value_from p.value_to) → Decides r (WiderValue extra s p)
  of_form_three f = also (λ w. record { form = f; value = w }) (λ w. w.value)

  pub other_form : (p.form ≡ 3 → ⊥) → Decides false (WiderValue extra s p)
  other_form n = not_so (λ w. n w.form)

-- without further octets there is none
pub no_wider : {s : List ℕ} {p : Param} → Decides false (WiderValue (further Rfc8288) s p)
no_wider {s} = not_so (λ w. none w.value)
  where
    none : {i j : ℕ} → Wider (further Rfc8288) s i j → ⊥
    none (from_token t x r) = false≢true x.is
