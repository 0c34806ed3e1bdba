-- A walk ends at a pack, with all its steps taken if it arrives and fewer if it stops short; walking on from where it arrives is the
-- rest of a longer walk. Assumes nothing.
use Prim.Native.Nat.{ℕ, zero, suc, ◌+◌, ◌≤◌, ◌<◌}
use native.Mathlib.Nat.{zero-add, suc-add}
use native.Mathlib.Omega.{arith}
use mathlib.Core.Path.{◌≡◌, refl, ap, subst, ◌∙◌}
use mathlib.Core.List.{List}
use lib.ListN.{length}
use Rattle.catalogues.specs.Packs.{Pack}
use Rattle.catalogues.specs.Steps.{arrived, Step, to, stop, step_from}
use Rattle.catalogues.specs.Walks.{Ended, one_more_step, going_on, walk}
use Rattle.catalogues.proofs.StepEnds.{Short, Taken, taken, stopped, step_taken}

-- n steps were asked for, and it ended so
pub record Ends (ps : List Pack) (n : ℕ) (r : Ended) : Type 0 where
  pub pack : r.pack < length ps
  pub all : r.end ≡ arrived → r.steps ≡ n
  pub fewer : (r.end ≡ arrived → ⊥) → r.steps < n
  pub most : r.steps ≤ n

-- with m steps more than these
abbrev pub after : ℕ → Ended → Ended
after m r = record { end = r.end; pack = r.pack; steps = m + r.steps }

one_after : (m : ℕ) (r : Ended) → one_more_step (after m r) ≡ after (suc m) r
one_after m r = rw suc-add

module _ (ps : List Pack) (q : List ℕ) where
  pub walk_ends : (n i : ℕ) → i < length ps → Ends ps n (walk ps q n i)
  unfolding walk
  walk_ends zero i h = record { pack = h; all = λ e. refl; fewer = λ e. absurd (e refl); most = omega arith }
  walk_ends (suc n) i h = go (step_from ps q i) (step_taken ps q i) (λ j. walk_ends n j)
    where
      go : (s : Step) → Taken ps s → ((j : ℕ) → j < length ps → Ends ps n (walk ps q n j))
          → Ends ps (suc n) (going_on i s (λ j. walk ps q n j))
      go (to j) (taken k) more =
          let r = more j k in
          record { pack = r.pack; all = λ e. ap suc (r.all e); fewer = λ e. omega (arith, r.fewer e); most = omega arith }
      go (stop e) (stopped s) more = record { pack = h; all = λ a. absurd (subst Short a s); fewer = λ a. omega arith; most = omega arith }

  pub walk_on : (m n i : ℕ) → (walk ps q m i).end ≡ arrived → walk ps q (m + n) i ≡ after m (walk ps q n (walk ps q m i).pack)
  unfolding walk
  walk_on zero n i e = rw (zero-add n, zero-add (walk ps q n i).steps)
  walk_on (suc m) n i e =
      rw (suc-add m n) (go (step_from ps q i) (step_taken ps q i) e (λ j. walk_on m n j))
    where
      go : (s : Step) → Taken ps s → (going_on i s (λ j. walk ps q m j)).end ≡ arrived
          → ((j : ℕ) → (walk ps q m j).end ≡ arrived → walk ps q (m + n) j ≡ after m (walk ps q n (walk ps q m j).pack))
          → going_on i s (λ j. walk ps q (m + n) j) ≡ after (suc m) (walk ps q n (going_on i s (λ j. walk ps q m j)).pack)
      go (to j) (taken k) a more = ap one_more_step (more j a) ∙ one_after m (walk ps q n (walk ps q m j).pack)
      go (stop f) (stopped s) a more = absurd (subst Short a s)
