-- How the value of a good parameter is written: bare, or in quotes.
use Prim.Native.Nat.{ℕ}
use mathlib.Core.Path.{◌≡◌, ap}
use mathlib.Core.Bool.{true, false}
use mathlib.Core.List.{List}
use Rattle.octets.specs.Editions.{further}
use Rattle.octets.specs.declared.editions.Edition.TheVariants.{Rfc5988}
use Rattle.grammar.specs.Link.{Param}
use Rattle.tables.specs.Good.{GoodParam}
use Rattle.tables.specs.Meaning.{value_of}
use Rattle.tables.specs.Written.{is_token_text, written_value}
use Rattle.values.specs.Rest.{rest}
use Rattle.values.proofs.Values.{value_meant}
use Rattle.shape.specs.Shape.{in_quotes}

module _ {s : List ℕ} {p : Param} (g : GoodParam (further Rfc5988) s p) where
  pub bare_form : is_token_text (value_of s p) ≡ true → written_value (value_of s p) ≡ rest s p.value_to p.value_from
  unfolding written_value
  bare_form t = rw t (value_meant g)

  pub quoted_form : is_token_text (value_of s p) ≡ false
      → written_value (value_of s p) ≡ in_quotes (rest s p.value_to p.value_from)
  unfolding written_value
  quoted_form t = rw t (ap in_quotes (value_meant g))
