-- What is asked for, and the walk over a text.
use Rattle.std.specs.Prelude.{ℕ, ◌≤◌, ◌≡◌, List, ℤ, nat_abs, Result}
use Rattle.catalogues.specs.Packs.{Room}
use Rattle.catalogues.specs.Walks.{relation_of}
use Rattle.catalogues.specs.Outcome.{step_limit, Walk}
use Rattle.paces.specs.Paces.{relation_on}
use Rattle.paces.specs.declared.Way.{Way}
use Rattle.answers.specs.declared.Refusal.{Refusal}
use Rattle.answers.specs.Walk.{walk_numbers}
use Rattle.answers.specs.declared.walk_answer.Ended.{Ended}
use Rattle.pack_walk.specs.Walked.{walk_out}

-- the number asks for k steps that way
pub record Asks (n : ℤ) (w : Way) (k : ℕ) : Type 0 where
  pub inside : nat_abs n ≤ step_limit
  pub relation : relation_of n ≡ relation_on w
  pub count : nat_abs n ≡ k

-- so many steps that way over the text
abbrev pub WalksOver : List ℕ → Room → ℕ → Way → ℕ → Result Ended Refusal → Type 0
WalksOver s room start w k r = (n : ℤ) → Asks n w k → Walk s room start n (walk_out (walk_numbers r))
