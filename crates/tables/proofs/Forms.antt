-- Which values have form 3, and which form 1.
use Prim.Native.Nat.{ℕ, ◌≤◌, ◌<◌}
use native.Mathlib.Nat.{eq-or-lt_of_le}
use native.Mathlib.Omega.{arith}
use mathlib.Core.Path.{◌≡◌, sym, subst, ◌∙◌}
use mathlib.Core.Logic.{⊎_elim}
use mathlib.Core.Bool.{Bool, true, false≢true}
use mathlib.Core.List.{List}
use lib.ListN.{get_or}
use Rattle.octets.specs.Editions.{further}
use Rattle.octets.specs.declared.editions.Edition.TheVariants.{Rfc8288}
use Rattle.grammar.specs.Link.{Param}
use Rattle.grammar.specs.Grammar.{Extra, Admissible, Run, run_end, run_more, Token, Wider, from_token}
use Rattle.tables.specs.Good.{GoodValue, no_value, token_value, quoted_value, wider_value}
use Rattle.tables.specs.Laws.{FormThree}
use Rattle.tables.proofs.Texts.{run_le}

-- each octet of a run is in its set
pub run_has : (s : List ℕ) {f : ℕ → Bool} {i j : ℕ} (k : ℕ) → Run s f i j → i ≤ k → k < j → f (get_or s k 0) ≡ true
run_has s k run_end a b = absurd (omega arith)
run_has s {f} k (run_more c r) a b =
    ⊎_elim (λ q. subst (λ (n : ℕ). f (get_or s n 0) ≡ true) q c.is) (λ l. run_has s k r l b) (eq-or-lt_of_le a)

module _ {extra : Extra} {s : List ℕ} where
  wider_from : {p : Param} → GoodValue extra s p → p.form ≡ 3 → Wider extra s p.value_from p.value_to
  wider_from (no_value g a b) f = absurd (omega arith)
  wider_from (token_value g v) f = absurd (omega arith)
  wider_from (quoted_value g v) f = absurd (omega arith)
  wider_from (wider_value g v) f = v

  token_from : {p : Param} → GoodValue extra s p → p.form ≡ 1 → Token s p.value_from p.value_to
  token_from (no_value g a b) f = absurd (omega arith)
  token_from (token_value g v) f = v
  token_from (quoted_value g v) f = absurd (omega arith)
  token_from (wider_value g v) f = absurd (omega arith)

  wider_some : {i j : ℕ} → Wider extra s i j → i < j
  wider_some (from_token t x r) = omega (arith, run_le s t, run_le s r)

  -- its first octet outside a token lies within it
  wider_no_token : Admissible extra → {i j : ℕ} → Wider extra s i j → Token s i j → ⊥
  wider_no_token a (from_token {k = k} t x r) w =
      false≢true
      (sym (a.token (get_or s k 0) x.is)
      ∙ run_has s k (run_more w.first w.rest) (run_le s t) (run_le s r))

none_wider : {s : List ℕ} {i j : ℕ} → Wider (further Rfc8288) s i j → ⊥
none_wider (from_token t x r) = false≢true x.is

pub form_three : FormThree
form_three =
    record {
      none = λ s p g f. none_wider (wider_from g f);
      no_token = λ extra a s p g f. wider_no_token a (wider_from g f);
      not_empty = λ extra s p g f. wider_some (wider_from g f);
      wider = λ extra s p g f. wider_from g f;
      token = λ extra s p g f. token_from g f;
    }
