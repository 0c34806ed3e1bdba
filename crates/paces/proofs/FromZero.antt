-- How far a signed number is from zero, and on which side, by the tests that are made on its bits.
use Prim.Native.Nat.{◌≤◌, ◌<◌}
use native.Mathlib.Omega.{arith}
use native.Mathlib.Nat.{zero-add}
use mathlib.Core.Path.{◌≡◌, refl, sym, ap, ◌∙◌}
use mathlib.Core.Bool.{true, false, true≢false, false≢true}
use lib.Dec.{T}
use lib.IntN.{ℤ, pos, negsuc, nat_abs, ◌-ℤ◌}
use lib.Signed.{lt_z, non_neg}
use borrow.Author.Tests.{ltb-true, ltb-false}
use mir.Syntax.{w32, w64}
use mir.Val.{Fits, SFits, to_z, of_z}
use mir.ValLaws.{to_z-of_z}
use Rattle.catalogues.specs.Walks.{relation_of}
use Rattle.catalogues.specs.Outcome.{step_limit}
use Rattle.paces.specs.Paces.{relation_on, IsPaces, far, go}
use Rattle.paces.specs.declared.Way.{Way}
use Rattle.paces.specs.declared.Way.TheVariants.{Next, Prev}
use Rattle.std.specs.Prelude.{Some, None}

-- n is near enough, and going the way w it asks for z steps
pub record Told (w : Way) (n z : ℤ) : Type 0 where
  pub near : nat_abs n ≤ step_limit
  pub count : z ≡ pos (nat_abs n)
  pub relation : relation_of n ≡ relation_on w

-- ---- by the sign of n

below : (n : ℤ) → lt_z n (negsuc 63) ≡ true → step_limit < nat_abs n
below (pos k) e = absurd (false≢true e)
below (negsuc k) e = omega (arith, ltb-true 63 k e)

above : (n : ℤ) → lt_z (pos 64) n ≡ true → step_limit < nat_abs n
above (pos k) e = ltb-true 64 k e
above (negsuc k) e = absurd (false≢true e)

between : (n : ℤ) → lt_z n (negsuc 63) ≡ false → lt_z (pos 64) n ≡ false → nat_abs n ≤ step_limit
between (pos k) b a = ltb-false 64 k a
between (negsuc k) b a = omega (arith, ltb-false 63 k b)

negative : (n : ℤ) → nat_abs n ≤ step_limit → lt_z n (pos 0) ≡ true → Told Prev n (pos 0 -ℤ n)
negative (pos k) l e = absurd (omega (arith, ltb-true k 0 e))
negative (negsuc k) l e = record { near = l; count = ap pos (zero-add _); relation = refl }

positive : (n : ℤ) → nat_abs n ≤ step_limit → lt_z n (pos 0) ≡ false → Told Next n n
positive (pos k) l e = record { near = l; count = refl; relation = refl }
positive (negsuc k) l e = absurd (true≢false e)

-- ---- as n is read from its bits

module _ {n : ℤ} (f : SFits w32 n) where
  pub far_below : lt_z (to_z w32 (of_z w32 n)) (negsuc 63) ≡ true → IsPaces n None
  far_below e = far (below n (rw (to_z-of_z w32 n f) at e))

  pub far_above : lt_z (pos 64) (to_z w32 (of_z w32 n)) ≡ true → IsPaces n None
  far_above e = far (above n (rw (to_z-of_z w32 n f) at e))

  module _ (b : lt_z (to_z w32 (of_z w32 n)) (negsuc 63) ≡ false) (a : lt_z (pos 64) (to_z w32 (of_z w32 n)) ≡ false) where
    is_near : nat_abs n ≤ step_limit
    is_near = between n (rw (to_z-of_z w32 n f) at b) (rw (to_z-of_z w32 n f) at a)

    pub backward : lt_z (to_z w32 (of_z w32 n)) (pos 0) ≡ true → Told Prev n (pos 0 -ℤ to_z w32 (of_z w32 n))
    backward e = rw (to_z-of_z w32 n f) (negative n is_near (rw (to_z-of_z w32 n f) at e))

    pub forward : lt_z (to_z w32 (of_z w32 n)) (pos 0) ≡ false → Told Next n n
    forward e = positive n is_near (rw (to_z-of_z w32 n f) at e)

-- ---- as its steps are

module _ {w : Way} {n z : ℤ} (t : Told w n z) where
  pub steps_fit : SFits w32 z
  steps_fit = rw t.count (record { sfits = omega (arith, t.near) })

  pub steps_cast : T (non_neg (to_z w32 (of_z w32 z))) × Fits w64 (nat_abs (to_z w32 (of_z w32 z)))
  steps_cast = rw (to_z-of_z w32 z steps_fit, t.count) (tt, record { fits = omega (arith, t.near) })

  pub goes : IsPaces n (Some (record { way = w; steps = nat_abs (to_z w32 (of_z w32 z)) }))
  goes = go t.near t.relation (sym (ap nat_abs (to_z-of_z w32 z steps_fit ∙ t.count)))
