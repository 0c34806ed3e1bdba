-- A loop over parameter records, up to number `end` of the slots P, for the one of code k: it stands at number p. What is asked of the
-- parameter found, o, is a function f, so that a loop may also leave at once where f asks no more.
use Prim.Native.Nat.{ℕ, suc, ◌+◌, ◌-◌, ◌≤◌, ◌<◌}
use native.Mathlib.Omega.{arith}
use native.Mathlib.Numerals.{add-one}
use mathlib.Core.Path.{◌≡◌, sym, ap, ◌∙◌}
use mathlib.Core.List.{List}
use mathlib.Core.Option.{Option, none, some}
use borrow.Author.Tests.{eq-eqb, ne_eqb}
use Rattle.octets.specs.Editions.{further}
use Rattle.octets.specs.declared.editions.Edition.TheVariants.{Rfc5988}
use Rattle.grammar.specs.Link.{Link, Param}
use Rattle.grammar.specs.Records.{param_room_of}
use Rattle.tables.specs.Table.{Table, param_at, code_at, link_at}
use Rattle.tables.specs.Good.{Good}
use Rattle.tables.proofs.InGood.{params_slots, good_link, codes_agree}
use Rattle.records.specs.Slots.{IsLink, to_link}
use Rattle.records.specs.declared.LinkRecord.{LinkRecord}
use Rattle.records.proofs.Told.{link_told}
use Rattle.named.specs.First.{Listed, coded}

-- link number i of a good table, by its record r
pub listed : {t : Table} {i : ℕ} {r : LinkRecord} → Good (further Rfc5988) t → i < t.link_count → IsLink t.link_slots i r
    → Listed t.text t.param_slots r
listed g l is =
    record {
      room = rw (is.first, is.count) (params_slots g l);
      params = rw (is.first, is.count) (good_link g l).params;
      codes = rw (is.first, is.count) (codes_agree g l);
    }

pub own_params : {L : List ℕ} (P : List ℕ) {i : ℕ} {r : LinkRecord} → IsLink L i r
    → (link_at L P i).params ≡ (to_link P r).params
own_params P is = sym (ap (λ (x : Link). x.params) (link_told P is))

pub record Looking {A : Type 0} (f : Option Param → A) (P : List ℕ) (k : ℕ) (o : Option Param) (end p : ℕ) : Type 0 where
  pub inside : p ≤ end
  pub room : end ≤ param_room_of P
  pub left : f o ≡ f (coded P k p (end - p))

-- the loop begins at the first record
pub begin : {A : Type 0} (f : Option Param → A) (P : List ℕ) (k first count : ℕ) → first + count ≤ param_room_of P
    → Looking f P k (coded P k first count) (first + count) first
begin f P k first count h =
    let own : first + count - first ≡ count = omega arith in
    record { inside = omega arith; room = h; left = rw own }

module _ {A : Type 0} {f : Option Param → A} {P : List ℕ} {k : ℕ} {o : Option Param} {end p : ℕ} (w : Looking f P k o end p) where
  -- behind the last: none has the code
  pub none_coded : end ≤ p → f o ≡ f none
  none_coded h = let e : end - p ≡ 0 = omega arith in w.left ∙ rw e

  -- where f asks no more, the loop may go to the end
  pub leave : f o ≡ f none → Looking f P k o end end
  leave e =
      let z : end - end ≡ 0 = omega arith in
      record { inside = omega arith; room = w.room; left = rw z e }

  -- before the end the record at p is in the room, and is the first of those that are left
  module _ (l : p < end) where
    pub in_room : p < param_room_of P
    in_room = omega (arith, w.room)

    more_left : end - p ≡ suc (end - suc p)
    more_left = omega arith

    -- its code is c
    module _ {c : ℕ} (told : c ≡ code_at P p) where
      pub here : c ≡ k → f o ≡ f (some (param_at P p))
      here e = w.left ∙ rw (more_left, ← told, eq-eqb c k e)

      pub onward : (c ≡ k → ⊥) → Looking f P k o end (p + 1)
      onward e =
          rw (add-one p)
          (record { inside = l; room = w.room; left = w.left ∙ rw (more_left, ← told, ne_eqb c k e) })
