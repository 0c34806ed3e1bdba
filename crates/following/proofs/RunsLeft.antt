-- A loop over the runs of a part of the text, up to place e: whether one compares equal to q is asked of those that are left at place k.
use Prim.Native.Nat.{ℕ, ◌≤◌, ◌<◌}
use mathlib.Core.Path.{◌≡◌, sym, ap, ◌∙◌}
use mathlib.Core.Bool.{Bool, true, false}
use mathlib.Core.List.{List}
use Rattle.tables.specs.Relation.{runs, any_folded}
use Rattle.values.specs.Rest.{rest}
use Rattle.values.proofs.Meant.{none_left}
use Rattle.runs.specs.Runs.{AtRun, NextRun, MatchRun}
use Rattle.runs.specs.declared.RunMatch.{RunMatch}

-- the answer that is looked for is b
pub record RunsLeft (q s : List ℕ) (e : ℕ) (b : Bool) (k : ℕ) : Type 0 where
  pub begins : k < e → AtRun (rest s e k)
  pub left : any_folded q (runs (rest s e k)) ≡ b

-- on from any place, at the run that comes next
pub on_from : {q s : List ℕ} {e : ℕ} {b : Bool} {a k : ℕ} → any_folded q (runs (rest s e a)) ≡ b → NextRun s e a k → RunsLeft q s e b k
on_from {q} h n = record { begins = n.begins; left = sym (ap (any_folded q) n.same_runs) ∙ h }

module _ {q s : List ℕ} {e : ℕ} {b : Bool} {k : ℕ} (w : RunsLeft q s e b k) where
  pub no_run : e ≤ k → false ≡ b
  unfolding runs
  no_run l = rw (none_left s l) at w.left

  -- the run at k was compared
  module _ {m : RunMatch} (r : MatchRun s e k q m) where
    pub matched : m.same ≡ true → true ≡ b
    matched y = rw (r.first, sym r.matches ∙ y) at w.left

    pub differs : m.same ≡ false → any_folded q (runs (rest s e m.next.0)) ≡ b
    differs y = rw (r.first, sym r.matches ∙ y) at w.left
