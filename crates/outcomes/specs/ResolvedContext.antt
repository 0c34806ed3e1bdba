-- A link's resolved context: what its `anchor` means, resolved on the base; with no `anchor`, the base without its fragment. An `anchor`
-- without a value means no octets, which is a reference. The numbers come in the order 10, 1 (the text or the base), 5, 8, 12, 13, 1 (the
-- result), 7.
use Rattle.std.specs.Prelude.{ℕ, ◌≤◌, ◌<◌, ◌≡◌, List, length}
use Rattle.std.proofs.Math.Option.{none, some}
use Rattle.octets.specs.declared.editions.Edition.{Edition}
use Rattle.references.specs.AppendixA.{IsReference, IsURI}
use Rattle.resolution.specs.Resolve.{resolved, unfragmented}
use Rattle.grammar.specs.Link.{Param}
use Rattle.tables.specs.Table.{Table}
use Rattle.tables.specs.Meaning.{value_of}
use Rattle.outcomes.specs.Number.{limit, too_long_number, no_such_link_number, bad_base_number, bad_reference_number}
use Rattle.outcomes.specs.InEdition.{InEdition}
use Rattle.outcomes.specs.Usable.{TableIn}
use Rattle.outcomes.specs.Context.{anchor}
use Rattle.outcomes.specs.Copy.{CopyOut, untouched}
use Rattle.outcomes.specs.Resolve.{Fitted}

-- the table t, if it may be used, the caller's base, link number i, and a buffer that holds `out`
module _ (t : Table) (base : List ℕ) (i : ℕ) (out : List ℕ) where
  pub data ContextOn : CopyOut → Type 0 where
    no_such_link : t.link_count ≤ i → ContextOn (untouched out no_such_link_number)
    bad_base : i < t.link_count → (IsURI base → ⊥) → ContextOn (untouched out bad_base_number)
    bad_reference : {p : Param} → i < t.link_count → IsURI base → anchor t i ≡ some p → (IsReference (value_of t.text p) → ⊥)
        → ContextOn (untouched out bad_reference_number)
    anchored : {p : Param} {o : CopyOut} → i < t.link_count → IsURI base → anchor t i ≡ some p → IsReference (value_of t.text p)
        → Fitted out (resolved base (value_of t.text p)) o → ContextOn o
    unanchored : {o : CopyOut} → i < t.link_count → IsURI base → anchor t i ≡ none → Fitted out (unfragmented base) o → ContextOn o

  -- in an edition
  pub data ContextIn (e : Edition) : CopyOut → Type 0 where
    long_base : limit < length base → ContextIn e (untouched out too_long_number)
    over_table : {o : CopyOut} → length base ≤ limit → TableIn t (untouched out) ContextOn e o → ContextIn e o

-- asked with the number n of an edition
abbrev pub ResolvedContext : ℕ → Table → List ℕ → ℕ → List ℕ → CopyOut → Type 0
ResolvedContext n t base i out = InEdition n (untouched out) (ContextIn t base i out)
