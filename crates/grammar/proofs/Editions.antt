-- The further octets of each edition keep apart; and what the edition without any derives, every other derives too.
use Prim.Native.Nat.{ℕ}
use mathlib.Core.Path.{refl}
use mathlib.Core.Bool.{false≢true}
use mathlib.Core.List.{List}
use Rattle.octets.specs.Sets.{is_older}
use Rattle.octets.specs.Editions.{further}
use Rattle.octets.specs.declared.editions.Edition.{Edition}
use Rattle.octets.specs.declared.editions.Edition.TheVariants.{Rfc8288, Rfc5988}
use Rattle.octets.proofs.Further.{older_octet, older_no_token}
use Rattle.grammar.specs.Link.{Link, Param}
use Rattle.grammar.specs.Grammar.{
  Extra,
  Admissible,
  Value,
  token,
  quoted,
  wider,
  from_token,
  Parameter,
  valueless,
  valued,
  Parameters,
  no_more,
  and_one,
  link,
  Item,
  empty,
  one,
  Items,
  last,
  comma,
  Field,
}
use Rattle.grammar.specs.Kept.{Reading}

pub apart : (e : Edition) → Admissible (further e)
unfolding is_older
apart Rfc8288 =
    record {
      token = λ c e. absurd (false≢true e);
      space = refl;
      tab = refl;
      quote = refl;
      comma = refl;
      semicolon = refl;
      octets = λ c e. absurd (false≢true e);
    }
apart Rfc5988 =
    record {
      token = older_no_token;
      space = refl;
      tab = refl;
      quote = refl;
      comma = refl;
      semicolon = refl;
      octets = older_octet;
    }

module _ (extra : Extra) {s : List ℕ} where
  value_alike : {i j a b f : ℕ} → Value (further Rfc8288) s i j a b f → Value extra s i j a b f
  value_alike (token t) = token t
  value_alike (quoted q n z) = quoted q n z
  value_alike (wider (from_token t x r)) = absurd (false≢true x.is)

  param_alike : {i j : ℕ} {p : Param} → Parameter (further Rfc8288) s i j p → Parameter extra s i j p
  param_alike (valueless n w) = valueless n w
  param_alike (valued n w q u v) = valued n w q u (value_alike v)

  params_alike : {i j : ℕ} {ps : List Param} → Parameters (further Rfc8288) s i j ps → Parameters extra s i j ps
  params_alike no_more = no_more
  params_alike (and_one w q u p ps) = and_one w q u (param_alike p) (params_alike ps)

  item_alike : {i j : ℕ} {ls : List Link} → Item (further Rfc8288) s i j ls → Item extra s i j ls
  item_alike empty = empty
  item_alike (one (link o t z ps)) = one (link o t z (params_alike ps))

  items_alike : {i j : ℕ} {ls : List Link} → Items (further Rfc8288) s i j ls → Items extra s i j ls
  items_alike (last i) = last (item_alike i)
  items_alike (comma i w q u is) = comma (item_alike i) w q u (items_alike is)

  pub field_alike : {R : List Link} → Field (further Rfc8288) s R → Field extra s R
  field_alike f =
      record {
        start = f.start;
        stop = f.stop;
        end = f.end;
        before = f.before;
        items = items_alike f.items;
        after = f.after;
        whole = f.whole;
      }

  pub reading_alike : {K : List Link} → Reading (further Rfc8288) s K → Reading extra s K
  reading_alike r = record { links = r.links; derived = field_alike r.derived; references = r.references; kept = r.kept }
