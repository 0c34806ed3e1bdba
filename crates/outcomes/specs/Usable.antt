-- What every entry over a table asks next: a text that is not too long, and then a table that is good in the edition.
use Rattle.std.specs.Prelude.{ℕ, ◌≤◌, ◌<◌, length}
use Rattle.octets.specs.Editions.{further}
use Rattle.octets.specs.declared.editions.Edition.{Edition}
use Rattle.tables.specs.Table.{Table}
use Rattle.tables.specs.Good.{Good}
use Rattle.outcomes.specs.Number.{limit, too_long_number, bad_table_number}
use Rattle.outcomes.specs.InEdition.{InEdition}

module _ (e : Edition) (t : Table) where
  -- the table is refused with the number n
  pub data Refused : ℕ → Type 0 where
    long_text : limit < length t.text → Refused too_long_number
    not_good : length t.text ≤ limit → (Good (further e) t → ⊥) → Refused bad_table_number

  pub record Usable : Type 0 where
    pub short : length t.text ≤ limit
    pub good : Good (further e) t

-- An entry over the table t: it refuses, or the table may be used and `Out` tells its outcome, whatever the edition is.
module _ {A : Type 0} (t : Table) (refusal : ℕ → A) (Out : A → Type 0) where
  pub data TableIn (e : Edition) : A → Type 0 where
    refused : {k : ℕ} → Refused e t k → TableIn e (refusal k)
    usable : {o : A} → Usable e t → Out o → TableIn e o

-- asked with the number n of an edition
abbrev pub OverTable : {A : Type 0} → ℕ → Table → (ℕ → A) → (A → Type 0) → A → Type 0
OverTable n t refusal Out = InEdition n refusal (TableIn t refusal Out)
