-- A loop over the links of a table: the first that is followed is the first of those that are left at number i.
use Prim.Native.Nat.{ℕ, suc, ◌+◌, ◌-◌, ◌≤◌, ◌<◌}
use native.Mathlib.Omega.{arith}
use native.Mathlib.Numerals.{add-one}
use mathlib.Core.Path.{◌≡◌, sym, ap, subst, ◌∙◌}
use mathlib.Core.Bool.{Bool, true, false}
use mathlib.Core.List.{List}
use mathlib.Core.Option.{some}
use Rattle.octets.specs.Editions.{further}
use Rattle.octets.specs.declared.editions.Edition.TheVariants.{Rfc5988}
use Rattle.tables.specs.Table.{Table, link_at, links_from, links_of}
use Rattle.tables.specs.Good.{Good, GoodLink}
use Rattle.tables.proofs.InGood.{good_link}
use Rattle.records.specs.Slots.{IsLink, to_link}
use Rattle.records.specs.declared.LinkRecord.{LinkRecord}
use Rattle.records.proofs.Told.{link_told}
use Rattle.catalogues.specs.Steps.{follows, first_link}
use Rattle.following.specs.Followed.{IsFollowed, nowhere, target}
use Rattle.std.specs.Prelude.{Some, None}

pub record LinksLeft (t : Table) (q : List ℕ) (i : ℕ) : Type 0 where
  pub left : first_link t.text q (links_of t) ≡ first_link t.text q (links_from t.link_slots t.param_slots i (t.link_count - i))

pub all_left : {t : Table} {q : List ℕ} {i : ℕ} → i ≡ 0 → LinksLeft t q i
all_left {t} e = let n : t.link_count - 0 ≡ t.link_count = omega arith in record { left = rw (e, n) }

module _ {t : Table} {q : List ℕ} {i : ℕ} (w : LinksLeft t q i) where
  pub none_left : t.link_count ≤ i → IsFollowed t q None
  none_left h = let n : t.link_count - i ≡ 0 = omega arith in nowhere (rw n at w.left)

  -- that the link at i is followed is b
  module _ (l : i < t.link_count) {b : Bool} (told : b ≡ follows t.text q (link_at t.link_slots t.param_slots i)) where
    more : t.link_count - i ≡ suc (t.link_count - suc i)
    more = omega arith

    pub onward : b ≡ false → LinksLeft t q (i + 1)
    onward e = rw (add-one i) (record { left = rw (more, sym told ∙ e) at w.left })

    -- its record is r
    pub here : Good (further Rfc5988) t → {r : LinkRecord} → IsLink t.link_slots i r → b ≡ true → IsFollowed t q (Some r.target)
    here g {r} is e =
        let own = link_told t.param_slots is in
        let good = subst (GoodLink (further Rfc5988) t.text) (sym own) (good_link g l) in
        target {l = to_link t.param_slots r} ((rw (more, sym told ∙ e) at w.left) ∙ ap some (sym own)) good.target_span good.reference
