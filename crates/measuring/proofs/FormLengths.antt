-- How long the written forms of records are.
use Prim.Native.Nat.{ℕ, ◌+◌, ◌-◌}
use native.Mathlib.Omega.{arith}
use mathlib.Core.Path.{◌≡◌, ◌∙◌}
use mathlib.Core.List.{List, ◌∷◌}
use lib.ListN.{length, length-append, length-map}
use lib.Seq.{slice, length-slice}
use Rattle.octets.specs.Editions.{further}
use Rattle.octets.specs.declared.editions.Edition.TheVariants.{Rfc5988}
use Rattle.octets.specs.Fold.{fold}
use Rattle.grammar.specs.Link.{Param}
use Rattle.grammar.specs.Kept.{name_of}
use Rattle.records.specs.Slots.{to_link}
use Rattle.records.specs.declared.LinkRecord.{LinkRecord}
use Rattle.tables.specs.Table.{params_from}
use Rattle.tables.specs.Good.{InText, GoodParam}
use Rattle.tables.specs.Meaning.{value_of}
use Rattle.tables.specs.Written.{written_value}
use Rattle.shape.specs.Forms.{param_form, params_form, link_form}

module _ {s : List ℕ} {p : Param} (g : GoodParam (further Rfc5988) s p) where
  name_length : length (name_of s p) ≡ p.name_to - p.name_from
  unfolding name_of
  name_length = length-map (slice p.name_from p.name_to s) fold ∙ length-slice p.name_from p.name_to s g.name_span.inside

  -- a parameter's form: the name, the value, and `;`, space and `=`
  pub param_length : length (param_form s p) ≡ p.name_to - p.name_from + length (written_value (value_of s p)) + 3
  param_length = omega (arith, name_length, length-append (name_of s p) (61 ∷ written_value (value_of s p)))

-- a link's form: the target, `<` and `>`, and the parameters
pub link_length : (s P : List ℕ) (r : LinkRecord) → InText s r.target.from.0 r.target.to.0
    → length (link_form s (to_link P r))
    ≡ r.target.to.0 - r.target.from.0 + 2 + length (params_form s (params_from P r.first.0 r.count))
link_length s P r h =
    omega (
      arith,
      length-slice r.target.from.0 r.target.to.0 s h.inside,
      length-append (slice r.target.from.0 r.target.to.0 s) (62 ∷ params_form s (params_from P r.first.0 r.count)),
    )
