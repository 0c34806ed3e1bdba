-- A link's resolved context, once its parameters have been looked through. Assumes nothing.
use Prim.Native.Nat.{ℕ, ◌≤◌, ◌<◌}
use mathlib.Core.Path.{◌≡◌, sym, ap, subst, ◌∙◌}
use mathlib.Core.List.{List}
use lib.ListN.{length}
use lib.Seq.{slice}
use Rattle.kinds.specs.declared.Span.{Span}
use Rattle.std.specs.Prelude.{Option, Some, None}
use Rattle.octets.specs.Editions.{further}
use Rattle.octets.specs.Text.{octets}
use Rattle.octets.specs.declared.editions.Edition.TheVariants.{Rfc5988}
use Rattle.references.specs.AppendixA.{IsReference, IsURI}
use Rattle.resolution.specs.Resolve.{resolved, unfragmented}
use Rattle.resolution.proofs.Itself.{itself_resolved}
use Rattle.bare.specs.Bare.{bare_of}
use Rattle.bare.proofs.Bare.{bare_of_empty}
use Rattle.bare.proofs.Unescaped.{reference_unescaped}
use Rattle.values.specs.Rest.{rest}
use Rattle.values.proofs.Values.{value_meant}
use Rattle.records.specs.Slots.{IsLink, to_param}
use Rattle.records.specs.declared.LinkRecord.{LinkRecord}
use Rattle.records.specs.declared.ParamParts.{ParamParts}
use Rattle.tables.specs.Table.{Table}
use Rattle.tables.specs.Good.{InText, GoodParam}
use Rattle.tables.proofs.InGood.{good_link, named_each}
use Rattle.outcomes.specs.Number.{limit, too_long_number}
use Rattle.outcomes.specs.Usable.{Usable, OverTable}
use Rattle.outcomes.specs.InEdition.{InEdition, unknown, known}
use Rattle.outcomes.specs.Context.{anchor}
use Rattle.outcomes.specs.Copy.{CopyOut, untouched}
use Rattle.outcomes.specs.Resolve.{Fitted}
use Rattle.outcomes.specs.ResolvedContext.{ContextOn, bad_reference, anchored, unanchored, long_base, over_table, ResolvedContext}
use Rattle.named.specs.First.{FirstCoded, found}
use Rattle.context.proofs.Anchored.{is_found}
use Rattle.resolved.specs.OnBase.{OnBase, wrong, right}

-- the link's record is r, and a answers what was found among its parameters
module _ {t : Table} {i : ℕ} (u : Usable Rfc5988 t) (l : i < t.link_count) {r : LinkRecord} (is : IsLink t.link_slots i r) (a : Option ParamParts)
    (first : FirstCoded t.param_slots r 2 a) where
  -- its `anchor`
  module _ {p : ParamParts} (e : a ≡ Some p) where
    is_kept : anchor t i ≡ found (Some p)
    is_kept = is_found u l is a first ∙ ap found e

    good_there : GoodParam (further Rfc5988) t.text (to_param p)
    good_there = named_each t.text (octets "anchor") (good_link u.good l).params is_kept

    pub anchor_inside : InText t.text p.value.from.0 p.value.to.0
    anchor_inside = good_there.value_span

    pub told : {base out : List ℕ} {o : CopyOut} → IsURI base
        → OnBase base (rest t.text p.value.to.0 p.value.from.0) out o → ContextOn t base i out o
    told {base} {out} b (wrong n) = bad_reference l b is_kept (rw (value_meant good_there) n)
    told {base} {out} b (right {o} w f) =
        let v = value_meant good_there in
        anchored l b is_kept (rw v w) (subst (λ (x : List ℕ). Fitted out (resolved base x) o) (sym v) f)

  -- it has none
  pub untold : {base out : List ℕ} {o : CopyOut} {p : Span} → (p.from.0 ≡ 0) × (p.to.0 ≡ 0) → a ≡ None → IsURI base
      → Fitted out (resolved base (bare_of t.text p.from.0 p.to.0)) o → ContextOn t base i out o
  untold {base} {out} {o} {p} d e b f =
      let q : resolved base (bare_of t.text p.from.0 p.to.0) ≡ unfragmented base =
      rw (d.0, d.1) (ap (resolved base) (bare_of_empty t.text 0) ∙ itself_resolved.empty base) in
      unanchored l b (is_found u l is a first ∙ ap found e) (subst (λ (x : List ℕ). Fitted out x o) q f)

-- ---- in an edition

module _ {n : ℕ} {t : Table} {base : List ℕ} {i : ℕ} {out : List ℕ} where
  pub over_limit : {k : ℕ} → limit < length base → InEdition n (λ j. j) (λ e j. j ≡ too_long_number) k
      → ResolvedContext n t base i out (untouched out k)
  over_limit h (unknown none-such) = unknown none-such
  over_limit h (known {e} {o} q z) = rw z (known {e = e} q (long_base h))

  pub within_limit : {o : CopyOut} → length base ≤ limit → OverTable n t (untouched out) (ContextOn t base i out) o
      → ResolvedContext n t base i out o
  within_limit h (unknown none-such) = unknown none-such
  within_limit h (known {e} q z) = known {e = e} q (over_table h z)

-- what a part means is the part without its backslashes, if it means a reference
pub meant_bare : (s : List ℕ) (a e : ℕ) {base out : List ℕ} {o : CopyOut} → IsReference (rest s e a)
    → Fitted out (resolved base (bare_of s a e)) o → OnBase base (rest s e a) out o
meant_bare s a e {base} {out} {o} r f =
    right r (subst (λ (x : List ℕ). Fitted out (resolved base x) o) (sym (reference_unescaped (slice a e s) r)) f)
