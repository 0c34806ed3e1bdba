-- What each case of the code says of spots.
use Prim.Native.Nat.{ℕ}
use mathlib.Core.Path.{◌≡◌, sym, ap, ◌∙◌}
use mathlib.Core.Bool.{Bool, true, false, cond}
use borrow.Author.Tests.{eq-eqb, ne_eqb}
use Rattle.reference_steps.specs.Machine as judge
use Rattle.grammar.specs.Grammar.{Extra}
use Rattle.phases.specs.declared.spot.Spot.{Spot}
use Rattle.phases.specs.Steps.{step_in}
use Rattle.phases.specs.Spots.{unfit, spot, flat, is_open, normal, behind_target, onward}

-- a choice whose side is known
pub chosen : {A : Type 0} {b : Bool} (x y : A) → b ≡ true → cond b x y ≡ x
chosen x y e = rw e

pub passed : {A : Type 0} {b : Bool} (x y : A) → b ≡ false → cond b x y ≡ y
passed x y e = rw e

module _ (x : Spot) where
  pub normal_open : is_open x.phase ≡ true → x ≡ normal x
  normal_open e = sym (chosen x (flat x.phase) e)

  pub normal_flat : is_open x.phase ≡ false → flat x.phase ≡ normal x
  normal_flat e = sym (passed x (flat x.phase) e)

  module _ (p c : ℕ) where
    pub goes_on : (p ≡ 4 → ⊥) → spot p x.target.0 (judge.step x.judged c) ≡ behind_target x p c
    unfolding behind_target
    goes_on n = sym (passed _ _ (ne_eqb p 4 n))

    pub is_reference_lem : p ≡ 4 → judge.accepts x.judged ≡ true → flat 4 ≡ behind_target x p c
    unfolding behind_target
    is_reference_lem e a = sym (chosen _ _ (eq-eqb p 4 e) ∙ chosen (flat 4) _ a)

    pub no_reference : p ≡ 4 → judge.accepts x.judged ≡ false → spot unfit x.target.0 0 ≡ behind_target x p c
    unfolding behind_target
    no_reference e a = sym (chosen _ _ (eq-eqb p 4 e) ∙ passed (flat 4) _ a)

  module _ (extra : Extra) (a c : ℕ) {p : ℕ} (n : p ≡ step_in extra x.phase c) where
    pub onward_open : is_open x.phase ≡ true → behind_target x p c ≡ onward extra x a c
    unfolding onward
    onward_open o = ap (λ (q : ℕ). behind_target x q c) n ∙ sym (chosen _ _ o)

    pub onward_begins : is_open x.phase ≡ false → p ≡ 1 → spot p a 0 ≡ onward extra x a c
    unfolding onward
    onward_begins o e =
        ap (λ (q : ℕ). spot q a 0) e
        ∙ sym (passed _ _ o ∙ chosen (spot 1 a 0) _ (eq-eqb (step_in extra x.phase c) 1 (sym n ∙ e)))

    pub onward_flat : is_open x.phase ≡ false → (p ≡ 1 → ⊥) → flat p ≡ onward extra x a c
    unfolding onward
    onward_flat o m =
        ap flat n ∙ sym (passed _ _ o ∙ passed (spot 1 a 0) _ (ne_eqb (step_in extra x.phase c) 1 (λ e. m (n ∙ e))))
