-- How the walk from the right takes a segment: it holds `.` and `..` back, and keeps or drops any other whole. Assumes nothing.
use Prim.Native.Nat.{ℕ}
use mathlib.Core.Path.{◌≡◌, refl, ap}
use mathlib.Core.Bool.{Bool, true, false, cond, ◌||◌, true≢false}
use mathlib.Core.List.{List, [], ◌∷◌, ◌++◌}
use lib.Dec.{eqb}
use borrow.Author.Tests.{eqb-true}
use Rattle.octets.specs.Text.{octets}
use Rattle.references.proofs.Clear.{Free}
use Rattle.resolution.specs.declared.Walk.{Walk}
use Rattle.resolution.specs.Segments.{is_dots}
use Rattle.resolution.specs.Walking.{held, holds, run, text}

-- at the right end of a segment, with p waiting and k kept
abbrev pub fresh : ℕ → ℕ → Walk
fresh p k = record { pending = p; kind = 0; kept = k }

pub no_slash : (b : Bool) → (b || false) ≡ false → b ≡ false
no_slash true e = e
no_slash false e = e

module _ (p k : ℕ) where
  data Shape (u : List ℕ) : Type 0 where
    nothing : u ≡ [] → Shape u
    one_dot : u ≡ 46 ∷ [] → Shape u
    two_dots : u ≡ 46 ∷ 46 ∷ [] → Shape u
    other : (run u (fresh p k)).kind ≡ 3 → (run u (fresh p k)).pending ≡ p → text u (fresh p k) ≡ cond (eqb p 0) u [] → Shape u

  -- an octet that isn't held back, on the left of u: t was added of it, and the rest is held back
  longer : (c : ℕ) (u t : List ℕ) → eqb c 47 ≡ false → holds (run u (fresh p k)) c ≡ false → (run u (fresh p k)).pending ≡ p
      → text u (fresh p k) ≡ cond (eqb p 0) t [] → held (run u (fresh p k)).kind ++ t ≡ u → Shape (c ∷ u)
  longer c u t n h q a e = other (rw (n, h) refl) (rw n q) (rw (n, h, q, a) (pick (eqb p 0)))
    where
      pick : (z : Bool) → cond z (c ∷ held (run u (fresh p k)).kind) [] ++ cond z t [] ≡ cond z (c ∷ u) []
      pick true = ap {B = List ℕ} (λ x. c ∷ x) e
      pick false = refl

  none_either : (z : Bool) → ◌≡◌ {A = List ℕ} [] (cond z [] [])
  none_either true = refl
  none_either false = refl

  grown : (c : ℕ) (u : List ℕ) → eqb c 47 ≡ false → Shape u → Shape (c ∷ u)
  grown c u n s = go (eqb c 46) refl s
    where
      go : (d : Bool) → eqb c 46 ≡ d → Shape u → Shape (c ∷ u)
      go true e (nothing q) = one_dot (rw (q, eqb-true c 46 e) refl)
      go true e (one_dot q) = two_dots (rw (q, eqb-true c 46 e) refl)
      go true e (two_dots q) = rw q (longer c (46 ∷ 46 ∷ []) [] n (rw e refl) refl (none_either (eqb p 0)) refl)
      go true e (other d q a) = longer c u u n (rw (e, d) refl) q a (rw d refl)
      go false e (nothing q) = rw q (longer c [] [] n (rw e refl) refl (none_either (eqb p 0)) refl)
      go false e (one_dot q) = rw q (longer c (46 ∷ []) [] n (rw e refl) refl (none_either (eqb p 0)) refl)
      go false e (two_dots q) = rw q (longer c (46 ∷ 46 ∷ []) [] n (rw e refl) refl (none_either (eqb p 0)) refl)
      go false e (other d q a) = longer c u u n (rw e refl) q a (rw d refl)

  shape : (u : List ℕ) → Free (octets "/") u → Shape u
  shape [] f = nothing refl
  shape (c ∷ u) f = grown c u (no_slash (eqb c 47) f.0) (shape u f.1)

-- the segment u is kept if no `..` waits, else dropped
pub record Settled (u : List ℕ) (b : Walk) : Type 0 where
  pub no_dot : eqb (run u b).kind 1 ≡ false
  pub no_dots : eqb (run u b).kind 2 ≡ false
  pub waits : (run u b).pending ≡ b.pending
  pub adds : text u b ≡ cond (eqb b.pending 0) u []

pub settled : (p k : ℕ) (u : List ℕ) → Free (octets "/") u → is_dots u ≡ false → Settled u (fresh p k)
settled p k u f n = go (shape p k u f)
  where
    go : Shape p k u → Settled u (fresh p k)
    go (nothing q) = rw q (record { no_dot = refl; no_dots = refl; waits = refl; adds = none_either p k (eqb p 0) })
    go (one_dot q) = absurd (true≢false (rw q at n))
    go (two_dots q) = absurd (true≢false (rw q at n))
    go (other d q a) = record { no_dot = rw d refl; no_dots = rw d refl; waits = q; adds = a }
