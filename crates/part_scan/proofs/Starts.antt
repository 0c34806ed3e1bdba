-- Where the target that is open began: before the part, or in it; and it is only in a target that one is refused.
use Prim.Native.Nat.{ℕ, suc, ◌+◌, ◌≤◌}
use native.Mathlib.Omega.{arith}
use mathlib.Core.Path.{◌≡◌, refl, sym, ap, subst, ◌∙◌}
use mathlib.Core.Bool.{Bool, true, false, cond, true≢false, false≢true}
use mathlib.Core.Logic.{◌⊎◌, inl, inr}
use mathlib.Core.List.{List}
use lib.Dec.{eqb}
use lib.ListN.{get_or}
use borrow.Author.Tests.{eqb-false}
use Rattle.reference_steps.specs.Machine as judge
use Rattle.grammar.specs.Grammar.{Extra}
use Rattle.phases.specs.declared.spot.Spot.{Spot}
use Rattle.phases.specs.Steps.{stuck, step_in}
use Rattle.phases.specs.Spots.{unfit, spot, flat, is_open, Normal, behind_target, onward, Leads, here, further}
use Rattle.part_scan.proofs.Normals.{onward_normal}
use Rattle.part_scan.proofs.OutSteps.{Out, opens, outside, out_step}

-- ---- one octet

-- in a target its start stays, also where it is refused; outside, an open one begins behind the octet
from_outside : {n : ℕ} (a : ℕ) → Out n → ((cond (eqb n 1) (spot 1 a 0) (flat n)).phase ≡ unfit → ⊥)
    × (is_open (cond (eqb n 1) (spot 1 a 0) (flat n)).phase ≡ true → (cond (eqb n 1) (spot 1 a 0) (flat n)).target.0 ≡ a)
from_outside a opens = (λ e. omega arith, λ o. refl)
from_outside {n} a (outside closed not) = go (eqb n 1) refl
  where
    go : (b : Bool) → eqb n 1 ≡ b → ((cond b (spot 1 a 0) (flat n)).phase ≡ unfit → ⊥)
        × (is_open (cond b (spot 1 a 0) (flat n)).phase ≡ true → (cond b (spot 1 a 0) (flat n)).target.0 ≡ a)
    go true e = (λ z. omega arith, λ o. refl)
    go false e = (eqb-false n unfit not, λ o. absurd (true≢false (sym o ∙ closed)))

from_inside : (x : Spot) (p c : ℕ) → is_open (behind_target x p c).phase ≡ true → (behind_target x p c).target.0 ≡ x.target.0
unfolding behind_target
from_inside x p c = go (eqb p 4) (judge.accepts x.judged)
  where
    go : (b d : Bool) → is_open (cond b (cond d (flat 4) (spot unfit x.target.0 0)) (spot p x.target.0 (judge.step x.judged c))).phase ≡ true
        → (cond b (cond d (flat 4) (spot unfit x.target.0 0)) (spot p x.target.0 (judge.step x.judged c))).target.0 ≡ x.target.0
    go true true o = absurd (false≢true o)
    go true false o = absurd (false≢true o)
    go false d o = refl

refused_inside : (x : Spot) (p c : ℕ) → (behind_target x p c).phase ≡ unfit → (behind_target x p c).target.0 ≡ x.target.0
unfolding behind_target
refused_inside x p c = go (eqb p 4) (judge.accepts x.judged)
  where
    go : (b d : Bool) → (cond b (cond d (flat 4) (spot unfit x.target.0 0)) (spot p x.target.0 (judge.step x.judged c))).phase ≡ unfit
        → (cond b (cond d (flat 4) (spot unfit x.target.0 0)) (spot p x.target.0 (judge.step x.judged c))).target.0 ≡ x.target.0
    go true true e = absurd (omega arith)
    go true false e = refl
    go false d e = refl

-- ---- a part

-- the target of the spot y, which is open, began before the part or at some place of it up to i
abbrev pub Since : ℕ → Spot → Spot → ℕ → Type 0
Since base x y i = ((y.target.0 ≡ x.target.0) × (is_open x.phase ≡ true)) ⊎ ((j : ℕ) × (y.target.0 ≡ base + j) × (j ≤ i))

module _ {extra : Extra} {s : List ℕ} {base : ℕ} {x : Spot} where
  pub leads_since : {y : Spot} {i : ℕ} → Leads extra s base x 0 y i → is_open y.phase ≡ true → Since base x y i
  unfolding onward
  leads_since here o = inl (refl, o)
  leads_since (further {y = y} {z = z} {i = i} l h e live) o = go (is_open y.phase) refl (λ w. leads_since {y = y} {i = i} l w) e
    where
      go : (b : Bool) → is_open y.phase ≡ b → (is_open y.phase ≡ true → Since base x y i)
          → cond b (behind_target y (step_in extra y.phase (get_or s i 0)) (get_or s i 0))
          (cond (eqb (step_in extra y.phase (get_or s i 0)) 1) (spot 1 (base + suc i) 0) (flat (step_in extra y.phase (get_or s i 0)))) ≡ z
          → Since base x z (suc i)
      go true q more e =
          let t : z.target.0 ≡ y.target.0 =
          subst (λ (w : Spot). is_open w.phase ≡ true → w.target.0 ≡ y.target.0) e
          (from_inside y (step_in extra y.phase (get_or s i 0)) (get_or s i 0)) o
          in
          later t (more q)
        where
          later : z.target.0 ≡ y.target.0 → Since base x y i → Since base x z (suc i)
          later t (inl (w, o)) = inl (t ∙ w, o)
          later t (inr (j, w, m)) = inr (j, t ∙ w, omega arith)
      go false q more e =
          inr (
            suc i,
            subst (λ (w : Spot). is_open w.phase ≡ true → w.target.0 ≡ base + suc i) e
                (from_outside (base + suc i) (out_step extra y.phase (get_or s i 0) q)).1 o,
            omega arith,
          )

  leads_normal : {y : Spot} {i : ℕ} → Normal x → Leads extra s base x 0 y i → Normal y
  leads_normal n here = n
  leads_normal n (further {y = y} {i = i} l h e live) =
      subst (λ (w : Spot). (w.phase ≡ stuck → ⊥) → (w.phase ≡ unfit → ⊥) → Normal w) e
      (onward_normal extra y (base + suc i) (get_or s i 0)) live.not_stuck live.not_unfit

  -- a start that isn't behind what stands before the part isn't behind what was passed of it
  pub start_within : {y : Spot} {i : ℕ} → Normal x → x.target.0 ≤ base → Leads extra s base x 0 y i → y.target.0 ≤ base + i
  start_within {y} {i} n h l = go (is_open y.phase) refl
    where
      began : Since base x y i → y.target.0 ≤ base + i
      began (inl (e, _)) = omega arith
      began (inr (j, e, m)) = omega arith

      go : (b : Bool) → is_open y.phase ≡ b → y.target.0 ≤ base + i
      go true o = began (leads_since l o)
      go false o = let e : y.target.0 ≡ 0 = ap (λ (z : Spot). z.target.0) (leads_normal n l o) in omega arith

  -- and so it is of one that is refused
  pub refused_since : {y : Spot} {i : ℕ} (c : ℕ) → Leads extra s base x 0 y i → (onward extra y (base + suc i) c).phase ≡ unfit
      → (((onward extra y (base + suc i) c).target.0 ≡ x.target.0) × (is_open x.phase ≡ true)) ⊎ ((j : ℕ) × ((onward extra y (base + suc i) c).target.0 ≡ base + j) × (j ≤ i))
  unfolding onward
  refused_since {y} {i} c l e = go (is_open y.phase) refl e
    where
      go : (b : Bool) → is_open y.phase ≡ b
          → (cond b (behind_target y (step_in extra y.phase c) c)
          (cond (eqb (step_in extra y.phase c) 1) (spot 1 (base + suc i) 0) (flat (step_in extra y.phase c)))).phase ≡ unfit
          → (((cond b (behind_target y (step_in extra y.phase c) c)
          (cond (eqb (step_in extra y.phase c) 1) (spot 1 (base + suc i) 0) (flat (step_in extra y.phase c)))).target.0 ≡ x.target.0)
          × (is_open x.phase ≡ true))
          ⊎ ((j : ℕ)
          × ((cond b (behind_target y (step_in extra y.phase c) c)
          (cond (eqb (step_in extra y.phase c) 1) (spot 1 (base + suc i) 0) (flat (step_in extra y.phase c)))).target.0 ≡ base + j) × (j ≤ i))
      go false q e = absurd ((from_outside (base + suc i) (out_step extra y.phase c q)).0 e)
      go true q e = moved (leads_since l q)
        where
          t : (behind_target y (step_in extra y.phase c) c).target.0 ≡ y.target.0
          t = refused_inside y (step_in extra y.phase c) c e

          moved : Since base x y i
              → (((behind_target y (step_in extra y.phase c) c).target.0 ≡ x.target.0) × (is_open x.phase ≡ true))
              ⊎ ((j : ℕ) × ((behind_target y (step_in extra y.phase c) c).target.0 ≡ base + j) × (j ≤ i))
          moved (inl (w, o)) = inl (t ∙ w, o)
          moved (inr (j, w, m)) = inr (j, t ∙ w, m)
