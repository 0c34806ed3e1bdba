-- The value of the parameter at index j within link number i: the record p, read by the link record r.
use Prim.Native.Nat.{ℕ, ◌+◌, ◌≤◌, ◌<◌}
use native.Mathlib.Omega.{arith}
use mathlib.Core.Path.{◌≡◌, sym, ap, ◌∙◌}
use mathlib.Core.List.{List}
use Rattle.octets.specs.Editions.{further}
use Rattle.octets.specs.declared.editions.Edition.TheVariants.{Rfc5988}
use Rattle.grammar.specs.Records.{param_room_of}
use Rattle.records.specs.Slots.{IsLink, to_param}
use Rattle.records.specs.declared.LinkRecord.{LinkRecord}
use Rattle.records.specs.declared.ParamParts.{ParamParts}
use Rattle.tables.specs.Table.{Table, param_at, first_of, count_of}
use Rattle.tables.specs.Good.{InText, GoodParam}
use Rattle.tables.specs.Meaning.{value_of}
use Rattle.tables.proofs.InGood.{params_slots, good_param}
use Rattle.outcomes.specs.Usable.{Usable}
use Rattle.outcomes.specs.Copy.{CopyOut, meant, Copied, no_room, copied}
use Rattle.values.specs.Rest.{rest}
use Rattle.values.proofs.Values.{value_meant}
use Rattle.copy.specs.Room.{InRoom, short, enough}

-- the number of the parameter is in the room, as long as its index is below the count
module _ {t : Table} (u : Usable Rfc5988 t) {i j : ℕ} (l : i < t.link_count) {r : LinkRecord} (is : IsLink t.link_slots i r) where
  pub counted : r.count ≤ j → count_of t.link_slots i ≤ j
  counted h = omega (arith, is.count)

  pub in_room : j < r.count → r.first.0 + j < param_room_of t.param_slots
  in_room h = omega (arith, is.first, is.count, params_slots u.good l)

-- p are that parameter's parts
pub record AtIndex (t : Table) (i j : ℕ) (p : ParamParts) : Type 0 where
  pub usable : Usable Rfc5988 t
  pub is_link : i < t.link_count
  pub is_param : j < count_of t.link_slots i
  pub is : to_param p ≡ param_at t.param_slots (first_of t.link_slots i + j)

pub at_index : {t : Table} → Usable Rfc5988 t → {i j : ℕ} → i < t.link_count → {r : LinkRecord} → IsLink t.link_slots i r → j < r.count
    → {n : ℕ} → n ≡ r.first.0 + j → {p : ParamParts} → to_param p ≡ param_at t.param_slots n → AtIndex t i j p
at_index u l is h q e =
    record { usable = u; is_link = l; is_param = omega (arith, is.count); is = rw (q, is.first) at e }

module _ {t : Table} {i j : ℕ} {p : ParamParts} (w : AtIndex t i j p) where
  good_there : GoodParam (further Rfc5988) t.text (to_param p)
  good_there = rw w.is (good_param w.usable.good w.is_link w.is_param)

  pub value_inside : InText t.text p.value.from.0 p.value.to.0
  value_inside = good_there.value_span

  abbrev value : List ℕ
  value = rest t.text p.value.to.0 p.value.from.0

  is_meant : meant t i j ≡ value
  is_meant = ap (value_of t.text) (sym w.is) ∙ value_meant good_there

  -- what is written of it, if there is room, is the outcome
  pub in_room_copied : {out : List ℕ} {o : CopyOut} → InRoom out value o → Copied t i j out o
  in_room_copied (short k) = no_room w.is_link w.is_param (rw is_meant k)
  in_room_copied (enough k) = rw (sym is_meant) (copied w.is_link w.is_param (rw is_meant k))
