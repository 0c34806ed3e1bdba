-- Runs, one after another.
use Prim.Native.Nat.{ℕ}
use mathlib.Core.Path.{◌≡◌, refl, ◌∙◌}
use mathlib.Core.Bool.{Bool, true, false, beq}
use mathlib.Core.List.{List, [], ◌∷◌}
use lib.Dec.{eqb}
use Rattle.tables.specs.Relation.{split_at, pieces, non_empty, runs}
use Rattle.runs.specs.Runs.{word, behind, AtRun, at_run}

-- the first piece is the first word, and the runs of the other pieces are those of what is left behind it
record Parted (v : List ℕ) : Type 0 where
  others : List (List ℕ)
  first : pieces v ≡ word v ∷ others
  left : non_empty others ≡ runs (behind false v)

parted : (v : List ℕ) → Parted v
unfolding runs
parted [] = record { others = []; first = refl; left = refl }
parted (c ∷ cs) = go (eqb c 32) refl (parted cs)
  where
    go : (b : Bool) → eqb c 32 ≡ b → Parted cs → Parted (c ∷ cs)
    go true e p = record { others = pieces cs; first = rw (e, split_at, word); left = rw (e, behind, e, split_at) }
    go false e p =
        record {
          others = p.others;
          first = rw (e, split_at, word, p.first);
          left = rw (e, behind) p.left;
        }

-- what begins a run begins with its first word
pub runs_word : {v : List ℕ} → AtRun v → runs v ≡ word v ∷ runs (behind false v)
unfolding runs
runs_word (at_run {c = c} {cs = cs} e) =
    let p = parted cs in rw (e, split_at, word, behind, p.first, p.left)

-- SPs in front are no part of any run
pub runs_behind : (v : List ℕ) → runs v ≡ runs (behind true v)
unfolding runs
runs_behind [] = refl
runs_behind (c ∷ cs) = go (eqb c 32) refl (runs_behind cs)
  where
    go : (b : Bool) → eqb c 32 ≡ b → runs cs ≡ runs (behind true cs) → runs (c ∷ cs) ≡ runs (behind true (c ∷ cs))
    go true e r = rw (e, split_at, behind) r
    go false e r = rw (e, behind, e, split_at)

-- and behind them a run begins, if anything is left
pub run_behind : (v : List ℕ) → (behind true v ≡ [] → ⊥) → AtRun (behind true v)
run_behind [] n = absurd (n refl)
run_behind (c ∷ cs) n = go (eqb c 32) refl n (run_behind cs)
  where
    go : (b : Bool) → eqb c 32 ≡ b → (behind true (c ∷ cs) ≡ [] → ⊥) → ((behind true cs ≡ [] → ⊥) → AtRun (behind true cs))
        → AtRun (behind true (c ∷ cs))
    go true e n r = rw (e, behind) (r (rw (e, behind) at n))
    go false e n r = rw (e, behind) (at_run e)
