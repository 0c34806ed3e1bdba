-- The phases by their numbers: dead is the one that is none, and no state has that of a target that is no reference.
use Prim.Native.Nat.{ℕ, ◌≤◌}
use native.Mathlib.Omega.{arith}
use mathlib.Core.Path.{◌≡◌, refl, sym, ◌∙◌}
use mathlib.Core.Bool.{Bool, true, false, cond, true≢false}
use borrow.Author.Tests.{leb-true}
use Rattle.octets.proofs.Octets.{both}
use mathlib.Core.List.{List}
use lib.Dec.{eqb, leb}
use Rattle.grammar.specs.Machine.{
  State,
  gap,
  target,
  percent,
  hex,
  after,
  semi,
  name,
  named,
  equals,
  bare,
  wide,
  quote,
  escape,
  dead,
  phase_of,
  open_at,
}
use Rattle.grammar.proofs.Prefix.{is_dead}
use Rattle.grammar.proofs.TargetsHeld.{OpenFrom}
use Rattle.outcomes.specs.Feeding.{start_of, InTarget}
use Rattle.phases.specs.Steps.{stuck}
use Rattle.phases.specs.declared.spot.Spot.{Spot}
use Rattle.phases.specs.Spots.{unfit, flat, is_open, normal}
use Rattle.feeding.proofs.SpotSteps.{spot_in}

-- dead is the phase that is none
pub dead_phase : (st : State) → is_dead st ≡ eqb (phase_of st) stuck
dead_phase (gap ls) = refl
dead_phase (target ls a) = refl
dead_phase (percent ls a) = refl
dead_phase (hex ls a) = refl
dead_phase (after o) = refl
dead_phase (semi o) = refl
dead_phase (name o n) = refl
dead_phase (named o n e) = refl
dead_phase (equals o n e) = refl
dead_phase (bare o n e v) = refl
dead_phase (wide o n e v) = refl
dead_phase (quote o n e v) = refl
dead_phase (escape o n e v) = refl
dead_phase dead = refl

pub never_unfit : (st : State) → phase_of st ≡ unfit → ⊥
never_unfit (gap ls) e = omega arith
never_unfit (target ls a) e = omega arith
never_unfit (percent ls a) e = omega arith
never_unfit (hex ls a) e = omega arith
never_unfit (after o) e = omega arith
never_unfit (semi o) e = omega arith
never_unfit (name o n) e = omega arith
never_unfit (named o n k) e = omega arith
never_unfit (equals o n k) e = omega arith
never_unfit (bare o n k v) e = omega arith
never_unfit (wide o n k v) e = omega arith
never_unfit (quote o n k v) e = omega arith
never_unfit (escape o n k v) e = omega arith
never_unfit dead e = omega arith

-- the spot of a state is as it is handed out
pub spot_normal : (fed : List ℕ) (st : State) → normal (spot_in fed st) ≡ spot_in fed st
spot_normal fed (gap ls) = refl
spot_normal fed (target ls a) = refl
spot_normal fed (percent ls a) = refl
spot_normal fed (hex ls a) = refl
spot_normal fed (after o) = refl
spot_normal fed (semi o) = refl
spot_normal fed (name o n) = refl
spot_normal fed (named o n k) = refl
spot_normal fed (equals o n k) = refl
spot_normal fed (bare o n k v) = refl
spot_normal fed (wide o n k v) = refl
spot_normal fed (quote o n k v) = refl
spot_normal fed (escape o n k v) = refl
spot_normal fed dead = refl

-- of an open one the start stays
pub normal_target : (x : Spot) → is_open (normal x).phase ≡ true → (normal x).target.0 ≡ x.target.0
normal_target x = go (is_open x.phase) refl
  where
    go : (b : Bool) → is_open x.phase ≡ b → is_open (cond b x (flat x.phase)).phase ≡ true
        → (cond b x (flat x.phase)).target.0 ≡ x.target.0
    go true e o = refl
    go false e o = absurd (true≢false (sym o ∙ e))

-- outside it is 0
pub normal_start : (x : Spot) → (normal x).target.0 ≤ x.target.0
normal_start x = go (is_open x.phase)
  where
    go : (b : Bool) → (cond b x (flat x.phase)).target.0 ≤ x.target.0
    go true = omega arith
    go false = omega arith

-- an open one's phase is one in a target
pub normal_phase : (x : Spot) → is_open (normal x).phase ≡ true → InTarget x.phase
normal_phase x = go (is_open x.phase) refl
  where
    go : (b : Bool) → is_open x.phase ≡ b → is_open (cond b x (flat x.phase)).phase ≡ true → InTarget x.phase
    go true e o =
        let q = both (leb 1 x.phase) (leb x.phase 3) e in
        (leb-true 1 x.phase q.0, leb-true x.phase 3 q.1)
    go false e o = absurd (true≢false (sym o ∙ e))

-- no target starts behind the octets that are read
pub start_inside : (n : ℕ) (st : State) → OpenFrom (λ (a : ℕ). a ≤ n) st → start_of (open_at st) ≤ n
start_inside n (gap ls) h = omega arith
start_inside n (target ls a) h = h
start_inside n (percent ls a) h = h
start_inside n (hex ls a) h = h
start_inside n (after o) h = omega arith
start_inside n (semi o) h = omega arith
start_inside n (name o m) h = omega arith
start_inside n (named o m e) h = omega arith
start_inside n (equals o m e) h = omega arith
start_inside n (bare o m e v) h = omega arith
start_inside n (wide o m e v) h = omega arith
start_inside n (quote o m e v) h = omega arith
start_inside n (escape o m e v) h = omega arith
start_inside n dead h = omega arith
