-- What a good table gives of a link by its record: the target lies in the text, and the parameters are good; and of a parameter of
-- such a run by its record.
use Prim.Native.Nat.{ℕ, ◌+◌, ◌≤◌, ◌<◌}
use native.Mathlib.Omega.{arith}
use mathlib.Core.Path.{◌≡◌}
use mathlib.Core.List.{List}
use Rattle.octets.specs.Editions.{further}
use Rattle.octets.specs.declared.editions.Edition.TheVariants.{Rfc5988}
use Rattle.grammar.specs.Records.{param_room_of}
use Rattle.records.specs.Slots.{IsLink, to_param}
use Rattle.records.specs.declared.LinkRecord.{LinkRecord}
use Rattle.records.specs.declared.ParamParts.{ParamParts}
use Rattle.tables.specs.Table.{Table, param_at}
use Rattle.tables.specs.Good.{InText, GoodParam, Good}
use Rattle.tables.proofs.InGood.{params_slots, good_param_at, good_link}
use Rattle.shape.specs.Forms.{GoodRun}

module _ {t : Table} (g : Good (further Rfc5988) t) {i : ℕ} (l : i < t.link_count) {r : LinkRecord} (is : IsLink t.link_slots i r) where
  pub target_span : InText t.text r.target.from.0 r.target.to.0
  target_span = rw (is.from, is.to) (good_link g l).target_span

  pub good_run : GoodRun t.text t.param_slots r.first.0 (r.first.0 + r.count)
  good_run =
      record {
        ordered = omega arith;
        room = rw (is.first, is.count) (params_slots g l);
        good = λ j h k. good_param_at g l j (omega (arith, is.first)) (omega (arith, is.first, is.count));
      }

module _ {s P : List ℕ} {first end : ℕ} (g : GoodRun s P first end) {p : ℕ} (i : first ≤ p) (l : p < end) where
  pub in_room : p < param_room_of P
  in_room = omega (arith, g.room)

  pub good_next : {r : ParamParts} → to_param r ≡ param_at P p → GoodParam (further Rfc5988) s (to_param r)
  good_next is = rw is (g.good p i l)
