-- Searching a table for a link by relation. The numbers come in the order 10, 1, 5, 9.
use Rattle.std.specs.Prelude.{ℕ, ◌<◌, ◌≡◌, Bool, true, false, List}
use Rattle.tables.specs.Table.{Table, link_at}
use Rattle.tables.specs.Relation.{has_relation}
use Rattle.outcomes.specs.Number.{done, not_found_number}
use Rattle.outcomes.specs.Usable.{OverTable}

pub record SearchOut : Type 0 where
  pub number : ℕ
  pub link : ℕ

-- the table t, if it may be used, asked for the relation q
module _ (t : Table) (q : List ℕ) where
  -- link number i has the relation
  abbrev pub has : ℕ → Bool
  has i = has_relation t.text q (link_at t.link_slots t.param_slots i)

  pub data Searched : SearchOut → Type 0 where
    no_link : ((i : ℕ) → i < t.link_count → has i ≡ false) → Searched (record { number = not_found_number; link = 0 })
    -- the lowest link number that has it
    found : {i : ℕ} → i < t.link_count → has i ≡ true → ((j : ℕ) → j < i → has j ≡ false)
        → Searched (record { number = done; link = i })

-- asked with the number n of an edition
abbrev pub Search : ℕ → Table → List ℕ → SearchOut → Type 0
Search n t q = OverTable n t (λ k. record { number = k; link = 0 }) (Searched t q)
