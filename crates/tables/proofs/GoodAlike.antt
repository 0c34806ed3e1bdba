-- What is good in some edition is good in the older one: of the forms only 3 speaks of further octets, and RFC 8288's edition has none.
use Prim.Native.Nat.{ℕ}
use mathlib.Core.Bool.{false≢true}
use mathlib.Core.List.{List}
use Rattle.octets.specs.Editions.{further}
use Rattle.octets.specs.declared.editions.Edition.TheVariants.{Rfc8288, Rfc5988}
use Rattle.grammar.specs.Link.{Link, Param}
use Rattle.grammar.specs.Grammar.{Extra, from_token}
use Rattle.tables.specs.Good.{Each, each_none, each_more, GoodValue, no_value, token_value, quoted_value, wider_value}
use Rattle.tables.specs.Good.{GoodParam, GoodLink}
use Rattle.tables.specs.Laws.{GoodAlike}

pub each_map : {A : Type 0} {P Q : A → Type 0} → ((x : A) → P x → Q x) → {xs : List A} → Each P xs → Each Q xs
each_map f each_none = each_none
each_map f (each_more {x = x} p ps) = each_more (f x p) (each_map f ps)

module _ (extra : Extra) (s : List ℕ) where
  value_alike : {p : Param} → GoodValue (further Rfc8288) s p → GoodValue extra s p
  value_alike (no_value f a b) = no_value f a b
  value_alike (token_value f t) = token_value f t
  value_alike (quoted_value f t) = quoted_value f t
  value_alike (wider_value f (from_token t x r)) = absurd (false≢true x.is)

  param_alike : (p : Param) → GoodParam (further Rfc8288) s p → GoodParam extra s p
  param_alike p g =
      record { name_span = g.name_span; value_span = g.value_span; name = g.name; value = value_alike g.value }

  link_alike : (l : Link) → GoodLink (further Rfc8288) s l → GoodLink extra s l
  link_alike l g =
      record { target_span = g.target_span; target = g.target; reference = g.reference; params = each_map param_alike g.params; once = g.once }

pub good_alike : GoodAlike
good_alike Rfc8288 t g =
    record {
      link_room = g.link_room;
      param_room = g.param_room;
      follows = g.follows;
      links = each_map (link_alike (further Rfc5988) t.text) g.links;
      codes = g.codes;
    }
good_alike Rfc5988 t g = g
