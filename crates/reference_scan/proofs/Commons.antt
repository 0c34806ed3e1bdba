-- Octets that blocks are tested for are a path's, and those of each run keep the states that it is passed in. Assumes nothing.
use Prim.Native.Nat.{ℕ}
use native.Mathlib.Omega.{arith}
use mathlib.Core.Path.{◌≡◌, refl}
use mathlib.Core.Bool.{Bool, true, false, ◌||◌}
use lib.Dec.{eqb}
use borrow.Author.Tests.{eqb-true}
use Rattle.octets.proofs.Octets.{within, or_octets, between_octets, one_octets}
use Rattle.references.specs.Octets.{ALPHA}
use Rattle.references.proofs.SetOctets.{has_octets}
use Rattle.reference_steps.specs.Machine.{step}
use Rattle.reference_sets.specs.Sets.{is_path}
use Rattle.reference_sets.specs.Runs.{in_run}
use Rattle.reference_sets.specs.declared.sets.Run.TheVariants.{Host, Port, Scheme, Segment}
use Rattle.reference_scan.specs.Common.{is_common}
use Rattle.reference_scan.specs.Passed.{keeps}

pub common_path : (c : ℕ) → is_common c ≡ true → is_path c ≡ true
common_path =
    within is_common is_path
    (or_octets (or_octets (has_octets ALPHA) (between_octets 38 59 (omega arith)))
    (or_octets
    (or_octets
    (or_octets (or_octets (one_octets 61 (omega arith)) (one_octets 63 (omega arith))) (one_octets 95 (omega arith)))
    (one_octets 64 (omega arith)))
    (one_octets 126 (omega arith))))
    refl

-- what goes on in a path keeps its state, and a fragment's
pub path_keeps : (c : ℕ) → is_path c ≡ true → keeps 13 c ≡ true
unfolding step
path_keeps c h = rw h

pub fragment_keeps : (c : ℕ) → is_path c ≡ true → keeps 15 c ≡ true
unfolding step
fragment_keeps c h = rw h

-- the octets of each other run keep the states that it is passed in
pub authority_keeps : (c : ℕ) → in_run Host c ≡ true → keeps 6 c ≡ true
unfolding step
authority_keeps c h = rw h

pub host_keeps : (c : ℕ) → in_run Host c ≡ true → keeps 10 c ≡ true
unfolding step
host_keeps c h = rw h

pub number_keeps : (c : ℕ) → in_run Port c ≡ true → keeps 7 c ≡ true
unfolding step
number_keeps c h = rw h

pub port_keeps : (c : ℕ) → in_run Port c ≡ true → keeps 11 c ≡ true
unfolding step
port_keeps c h = rw h

pub scheme_keeps : (c : ℕ) → in_run Scheme c ≡ true → keeps 1 c ≡ true
unfolding step
scheme_keeps c h = rw h

pub segment_keeps : (c : ℕ) → in_run Segment c ≡ true → keeps 2 c ≡ true
unfolding step
segment_keeps c h = rw h

-- what keeps each of two states keeps either of them
pub either_keeps : {f : ℕ → Bool} (p r : ℕ) → ((c : ℕ) → f c ≡ true → keeps p c ≡ true) → ((c : ℕ) → f c ≡ true → keeps r c ≡ true) →
    (q : ℕ) → (eqb q p || eqb q r) ≡ true → (c : ℕ) → f c ≡ true → keeps q c ≡ true
either_keeps p r x y q w c h = side (eqb q p) refl w
  where
    side : (t : Bool) → eqb q p ≡ t → (t || eqb q r) ≡ true → keeps q c ≡ true
    side true e w = rw (eqb-true q p e) (x c h)
    side false e w = rw (eqb-true q r w) (y c h)

pub both_keep : (q : ℕ) → (eqb q 13 || eqb q 15) ≡ true → (c : ℕ) → is_path c ≡ true → keeps q c ≡ true
both_keep q w = either_keeps 13 15 path_keeps fragment_keeps q w
