-- The title of link number i, once its parameters have been looked through for `title*`: the record of the link is r.
use Prim.Native.Nat.{ℕ, ◌≤◌, ◌<◌}
use mathlib.Core.Path.{◌≡◌, refl, sym, ap, subst, ◌∙◌}
use mathlib.Core.List.{List}
use mathlib.Core.Option.{Option, some}
use lib.ListN.{length}
use Rattle.std.specs.Prelude.{Option as Maybe, Some, None}
use Rattle.octets.specs.Text.{octets}
use Rattle.octets.specs.Editions.{further}
use Rattle.octets.specs.declared.editions.Edition.TheVariants.{Rfc5988}
use Rattle.grammar.specs.Link.{Param}
use Rattle.records.specs.Slots.{IsLink, to_param}
use Rattle.records.specs.declared.LinkRecord.{LinkRecord}
use Rattle.records.specs.declared.ParamParts.{ParamParts}
use Rattle.tables.specs.Table.{Table}
use Rattle.tables.specs.Good.{InText, GoodParam}
use Rattle.tables.specs.Meaning.{value_of}
use Rattle.tables.specs.Relation.{named}
use Rattle.tables.proofs.InGood.{named_each}
use Rattle.extended.specs.Value.{Extended}
use Rattle.extended.specs.Decoded.{given}
use Rattle.extended.proofs.Given.{none_some}
use Rattle.outcomes.specs.Usable.{Usable}
use Rattle.outcomes.specs.Kept.{kept}
use Rattle.outcomes.specs.Copy.{CopyOut}
use Rattle.outcomes.specs.Title.{Decoded, Undecoded, Title, decoded, plain, Titled, untitled, no_room, titled}
use Rattle.named.specs.First.{Listed, FirstCoded, found}
use Rattle.named.proofs.ByName.{by_title*}
use Rattle.named.proofs.Looking.{listed, own_params}
use Rattle.values.specs.Rest.{rest}
use Rattle.values.proofs.Values.{value_meant}
use Rattle.units.specs.declared.Reading.TheVariants.{Unescaped}
use Rattle.units.specs.Seen.{seen}
use Rattle.decoding.specs.Measured.{octets_given}
use Rattle.decoding.specs.Judged.{IsRight, IsWrong}
use Rattle.decoding.proofs.Judging.{right_octets}
use Rattle.copy.specs.Room.{InRoom, short, enough}
use Rattle.titles.specs.Plain.{Plain, no_title, meant}

module _ {t : Table} {i : ℕ} (u : Usable Rfc5988 t) (l : i < t.link_count) {r : LinkRecord} (is : IsLink t.link_slots i r) where
  pub listed_here : Listed t.text t.param_slots r
  listed_here = listed u.good l is

  -- what is written of a title is the outcome
  titled_in_room : {v out : List ℕ} {o : CopyOut} → Title t i v → InRoom out v o → Titled t i out o
  titled_in_room w (short k) = no_room l w k
  titled_in_room w (enough k) = titled l w k

  pub plain_titled : Undecoded t i → {out : List ℕ} {o : CopyOut} → Plain t.text t.param_slots r out o → Titled t i out o
  plain_titled none (no_title e) =
      untitled l (record { undecoded = none; no_title = ap (named t.text (octets "title")) (own_params t.param_slots is) ∙ e })
  plain_titled none (meant e room) =
      titled_in_room (plain none (ap (named t.text (octets "title")) (own_params t.param_slots is) ∙ e) refl) room

  -- a answers what was found as `title*`
  module _ (a : Maybe ParamParts) (first : FirstCoded t.param_slots r 5 a) where
    star_found : kept t i (octets "title*") ≡ found a
    star_found =
        ap (named t.text (octets "title*")) (own_params t.param_slots is)
        ∙ by_title* t.text t.param_slots listed_here ∙ first

    pub no_star : a ≡ None → Undecoded t i
    no_star e v d = none_some (sym (star_found ∙ ap found e) ∙ d.is_kept)

    module _ {p : ParamParts} (e : a ≡ Some p) where
      kept_here : kept t i (octets "title*") ≡ some (to_param p)
      kept_here = star_found ∙ ap found e

      good_there : GoodParam (further Rfc5988) t.text (to_param p)
      good_there =
          named_each t.text (octets "title*") listed_here.params
          (by_title* t.text t.param_slots listed_here ∙ first ∙ ap found e)

      pub star_inside : InText t.text p.value.from.0 p.value.to.0
      star_inside = good_there.value_span

      abbrev meaning : List ℕ
      meaning = seen Unescaped t.text p.value.to.0 p.value.from.0

      is_meant : value_of t.text (to_param p) ≡ meaning
      is_meant = value_meant good_there

      pub wrong_star : IsWrong Unescaped t.text p.value.to.0 p.value.from.0 → Undecoded t i
      wrong_star w v d =
          let same : some (to_param p) ≡ some d.param = sym kept_here ∙ d.is_kept in
          let q : to_param p ≡ d.param = cc in
          let value : value_of t.text d.param ≡ meaning = ap (value_of t.text) (sym q) ∙ is_meant in
          w.wrong v (subst (λ (x : List ℕ). Extended x v) value d.right)

      pub right_titled : {k n : ℕ} → IsRight Unescaped t.text p.value.to.0 p.value.from.0 k n → {out : List ℕ} {o : CopyOut}
          → InRoom out (octets_given (given (seen Unescaped t.text p.value.to.0 k))) o → Titled t i out o
      right_titled {k} {n} w {out} {o} room =
          titled_in_room
          (decoded
          (record {
            param = to_param p;
            is_kept = kept_here;
            right = subst (λ (x : List ℕ). Extended x w.octets) (sym is_meant) w.extended;
          }))
          (subst (λ (x : List ℕ). InRoom out x o) (right_octets w) room)
