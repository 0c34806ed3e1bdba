-- Whether link number i of a table is followed, once its first `anchor` and its first `rel` have been looked for.
use Prim.Native.Nat.{ℕ, ◌<◌}
use mathlib.Core.Path.{◌≡◌, ap, ◌∙◌}
use mathlib.Core.Bool.{Bool, false}
use mathlib.Core.List.{List}
use Rattle.std.specs.Prelude.{Option, Some, None}
use Rattle.octets.specs.Text.{octets}
use Rattle.octets.specs.Editions.{further}
use Rattle.octets.specs.declared.editions.Edition.TheVariants.{Rfc5988}
use Rattle.grammar.specs.Link.{Param}
use Rattle.tables.specs.Table.{Table, link_at}
use Rattle.tables.specs.Good.{InText, GoodParam}
use Rattle.tables.specs.Relation.{named, runs, relations, any_folded, has_relation}
use Rattle.tables.proofs.InGood.{good_link, named_each}
use Rattle.outcomes.specs.Usable.{Usable}
use Rattle.records.specs.Slots.{IsLink, to_param}
use Rattle.records.specs.declared.LinkRecord.{LinkRecord}
use Rattle.records.specs.declared.ParamParts.{ParamParts}
use Rattle.values.specs.Rest.{rest}
use Rattle.values.proofs.Values.{value_meant}
use Rattle.named.specs.First.{Listed, FirstCoded, found}
use Rattle.named.proofs.ByName.{by_rel, by_anchor}
use Rattle.named.proofs.Looking.{listed, own_params}
use Rattle.catalogues.specs.Steps.{follows}

abbrev params_of : Table → ℕ → List Param
params_of t i = (link_at t.link_slots t.param_slots i).params

-- that it is followed by the relation q is b
abbrev Tells : Table → ℕ → List ℕ → Bool → Type 0
Tells t i q b = b ≡ follows t.text q (link_at t.link_slots t.param_slots i)

-- the link's record is r
module _ {t : Table} {i : ℕ} (u : Usable Rfc5988 t) (l : i < t.link_count) {r : LinkRecord} (is : IsLink t.link_slots i r) where
  pub listed_here : Listed t.text t.param_slots r
  listed_here = listed u.good l is

  -- what was found for a code, a, was told apart as b
  module _ {a b : Option ParamParts} (e : a ≡ b) where
    its_anchor : FirstCoded t.param_slots r 2 a → named t.text (octets "anchor") (params_of t i) ≡ found b
    its_anchor h =
        ap (named t.text (octets "anchor")) (own_params t.param_slots is)
        ∙ by_anchor t.text t.param_slots listed_here ∙ h ∙ ap found e

    its_rel : FirstCoded t.param_slots r 1 a → named t.text (octets "rel") (params_of t i) ≡ found b
    its_rel h =
        ap (named t.text (octets "rel")) (own_params t.param_slots is)
        ∙ by_rel t.text t.param_slots listed_here ∙ h ∙ ap found e

  -- with an anchor it isn't followed
  pub anchored : (q : List ℕ) {a : Option ParamParts} {p : ParamParts} → a ≡ Some p → FirstCoded t.param_slots r 2 a → Tells t i q false
  anchored q e h = rw (its_anchor e h)

  -- with none, it is if a run of its `rel` compares equal
  module _ {b : Option ParamParts} {p : ParamParts} (e : b ≡ Some p) (h : FirstCoded t.param_slots r 1 b) where
    rel_good : GoodParam (further Rfc5988) t.text (to_param p)
    rel_good = named_each t.text (octets "rel") (good_link u.good l).params (its_rel e h)

    pub rel_span : InText t.text p.value.from.0 p.value.to.0
    rel_span = rel_good.value_span

  module _ (q : List ℕ) {a b : Option ParamParts} (e : a ≡ None) (h : FirstCoded t.param_slots r 2 a) (k : FirstCoded t.param_slots r 1 b) where
    pub no_rel : b ≡ None → Tells t i q false
    unfolding has_relation relations
    no_rel y = rw (its_anchor e h, its_rel y k)

    pub by_run : {p : ParamParts} {c : Bool} → b ≡ Some p
        → c ≡ any_folded q (runs (rest t.text p.value.to.0 p.value.from.0)) → Tells t i q c
    unfolding has_relation relations
    by_run y z = rw (its_anchor e h, its_rel y k, value_meant (rel_good y k)) z
