-- A link's parameters looked through for its `title`.
use Prim.Native.Nat.{ℕ}
use mathlib.Core.Path.{◌≡◌, ap, ◌∙◌}
use mathlib.Core.List.{List}
use Rattle.std.specs.Prelude.{Option, Some, None}
use Rattle.octets.specs.Text.{octets}
use Rattle.octets.specs.Editions.{further}
use Rattle.octets.specs.declared.editions.Edition.TheVariants.{Rfc5988}
use Rattle.records.specs.Slots.{to_link, to_param}
use Rattle.records.specs.declared.LinkRecord.{LinkRecord}
use Rattle.records.specs.declared.ParamParts.{ParamParts}
use Rattle.tables.specs.Good.{InText, GoodParam}
use Rattle.tables.specs.Relation.{named}
use Rattle.tables.proofs.InGood.{named_each}
use Rattle.outcomes.specs.Number.{not_found_number}
use Rattle.outcomes.specs.Copy.{CopyOut, untouched}
use Rattle.named.specs.First.{Listed, FirstCoded, found}
use Rattle.named.proofs.ByName.{by_title}
use Rattle.values.specs.Rest.{rest}
use Rattle.values.proofs.Values.{value_meant}
use Rattle.copy.specs.Room.{InRoom}
use Rattle.titles.specs.Plain.{Plain, no_title, meant}

-- a answers what was found
module _ {s P : List ℕ} {l : LinkRecord} (h : Listed s P l) (a : Option ParamParts) (first : FirstCoded P l 4 a) where
  title_found : named s (octets "title") (to_link P l).params ≡ found a
  title_found = by_title s P h ∙ first

  pub no_plain : (out : List ℕ) → a ≡ None → Plain s P l out (untouched out not_found_number)
  no_plain out e = no_title (title_found ∙ ap found e)

  module _ {p : ParamParts} (e : a ≡ Some p) where
    good_there : GoodParam (further Rfc5988) s (to_param p)
    good_there = named_each s (octets "title") h.params (title_found ∙ ap found e)

    pub title_inside : InText s p.value.from.0 p.value.to.0
    title_inside = good_there.value_span

    pub plain_copied : {out : List ℕ} {o : CopyOut} → InRoom out (rest s p.value.to.0 p.value.from.0) o → Plain s P l out o
    plain_copied {o = o} r = meant {o = o} (title_found ∙ ap found e) (rw (value_meant good_there) r)
