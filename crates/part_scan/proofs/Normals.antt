-- The spots that octets lead to are as they are handed out.
use Prim.Native.Nat.{ℕ, zero, suc}
use native.Mathlib.Omega.{arith}
use mathlib.Core.Path.{◌≡◌, refl, sym, ap, ◌∙◌}
use mathlib.Core.Bool.{Bool, true, false, cond, true≢false, false≢true}
use lib.Dec.{eqb, leb}
use borrow.Author.Tests.{eqb-true, leb-true}
use Rattle.octets.proofs.Octets.{both}
use Rattle.octets.specs.Sets.{is_target, is_hex}
use Rattle.reference_steps.specs.Machine as judge
use Rattle.grammar.specs.Grammar.{Extra}
use Rattle.phases.specs.declared.spot.Spot.{Spot}
use Rattle.phases.specs.Steps.{stuck, step_in, first_of}
use Rattle.phases.specs.Spots.{unfit, spot, flat, is_open, normal, Normal, behind_target, onward}

pub normal_is_normal : (x : Spot) → Normal (normal x)
normal_is_normal x = go (is_open x.phase) refl
  where
    go : (b : Bool) → is_open x.phase ≡ b → Normal (cond b x (flat x.phase))
    go true e o = absurd (true≢false (sym e ∙ o))
    go false e o = refl

flat_normal : (p : ℕ) → Normal (flat p)
flat_normal p o = refl

open_normal : (p a q : ℕ) → is_open p ≡ true → Normal (spot p a q)
open_normal p a q o c = absurd (true≢false (sym o ∙ c))

-- an open phase leads to an open one, behind the target, or nowhere
data OpenStep : ℕ → Type 0 where
  stays_open : {p : ℕ} → is_open p ≡ true → OpenStep p
  closes : OpenStep 4
  nowhere : OpenStep 12

choose : (b : Bool) {x y : ℕ} → OpenStep x → OpenStep y → OpenStep (cond b x y)
choose true p q = p
choose false p q = q

open_step : (extra : Extra) (p c : ℕ) → is_open p ≡ true → OpenStep (step_in extra p c)
unfolding step_in first_of
open_step extra zero c o = absurd (false≢true o)
open_step extra (suc zero) c o =
    choose (eqb c 62) closes (choose (eqb c 37) (stays_open refl) (choose (is_target c) (stays_open refl) nowhere))
open_step extra (suc (suc zero)) c o = choose (is_hex c) (stays_open refl) nowhere
open_step extra (suc (suc (suc zero))) c o = choose (is_hex c) (stays_open refl) nowhere
open_step extra (suc (suc (suc (suc p)))) c o =
    let q = both (leb 1 (suc (suc (suc (suc p))))) (leb (suc (suc (suc (suc p)))) 3) o in
    absurd (omega (arith, leb-true (suc (suc (suc (suc p)))) 3 q.1))

behind_normal : (x : Spot) (c : ℕ) {p : ℕ} → OpenStep p → ((behind_target x p c).phase ≡ stuck → ⊥) → ((behind_target x p c).phase ≡ unfit → ⊥)
    → Normal (behind_target x p c)
unfolding behind_target
behind_normal x c {p} (stays_open o) m n = go (eqb p 4) refl
  where
    go : (b : Bool) → eqb p 4 ≡ b
        → Normal (cond b (cond (judge.accepts x.judged) (flat 4) (spot unfit x.target.0 0)) (spot p x.target.0 (judge.step x.judged c)))
    go true e = absurd (false≢true (sym (ap is_open (eqb-true p 4 e)) ∙ o))
    go false e = open_normal p x.target.0 (judge.step x.judged c) o
behind_normal x c closes m n = go (judge.accepts x.judged) n
  where
    go : (b : Bool) → ((cond b (flat 4) (spot unfit x.target.0 0)).phase ≡ unfit → ⊥) → Normal (cond b (flat 4) (spot unfit x.target.0 0))
    go true n = flat_normal 4
    go false n = absurd (n refl)
behind_normal x c nowhere m n = absurd (m refl)

pub onward_normal : (extra : Extra) (x : Spot) (a c : ℕ) → ((onward extra x a c).phase ≡ stuck → ⊥) → ((onward extra x a c).phase ≡ unfit → ⊥)
    → Normal (onward extra x a c)
unfolding onward
onward_normal extra x a c m n = go (is_open x.phase) refl m n
  where
    outside : (b : Bool) → Normal (cond b (spot 1 a 0) (flat (step_in extra x.phase c)))
    outside true = open_normal 1 a 0 refl
    outside false = flat_normal (step_in extra x.phase c)

    go : (b : Bool) → is_open x.phase ≡ b
        → ((cond b (behind_target x (step_in extra x.phase c) c)
        (cond (eqb (step_in extra x.phase c) 1) (spot 1 a 0) (flat (step_in extra x.phase c)))).phase ≡ stuck → ⊥)
        → ((cond b (behind_target x (step_in extra x.phase c) c)
        (cond (eqb (step_in extra x.phase c) 1) (spot 1 a 0) (flat (step_in extra x.phase c)))).phase ≡ unfit → ⊥)
        → Normal
        (cond b (behind_target x (step_in extra x.phase c) c)
        (cond (eqb (step_in extra x.phase c) 1) (spot 1 a 0) (flat (step_in extra x.phase c))))
    go true e m n = behind_normal x c (open_step extra x.phase c e) m n
    go false e m n = outside (eqb (step_in extra x.phase c) 1)
