-- A table is good just if its links follow one another with good targets, and the parameters of each are good.
use Prim.Native.Nat.{ℕ, zero, suc, ◌+◌, ◌-◌, ◌≤◌, ◌<◌}
use native.Mathlib.Omega.{arith}
use native.Mathlib.Nat.{add-zero, zero-add, eq-or-lt_of_le}
use native.Mathlib.Decide.{dec_lt}
use mathlib.Core.Path.{◌≡◌, sym, subst}
use mathlib.Core.Logic.{⊎_elim}
use mathlib.Core.Bool.{false}
use mathlib.Core.List.{List, []}
use Rattle.grammar.specs.Grammar.{Extra}
use Rattle.grammar.specs.Records.{link_room_of, param_room_of}
use Rattle.tables.specs.Table.{first_of, count_of, link_at, links_from, table_of}
use Rattle.tables.specs.Good.{Each, each_none, each_more, Follows, Agrees, AgreeFrom, GoodLink, Good}
use Rattle.tables.proofs.InGood.{good_link, codes_agree, follows_end}
use Rattle.records.specs.Slots.{IsLink}
use Rattle.records.specs.declared.LinkRecord.{LinkRecord}
use Rattle.param_check.specs.Params.{GoodParams}
use Rattle.part_check.specs.Decides.{Decides}
use Rattle.part_check.proofs.Deciding.{not_so}
use Rattle.table_check.specs.Links.{Linked, Fits, EachParams}

-- a count fits the room r, which is told as a
pub fits : {a r n : ℕ} → a ≡ r → n ≤ a → n ≤ r
fits e h = rw e at h

module _ (extra : Extra) (s L P : List ℕ) where
  -- each of n links from number i on
  each_from : (i n : ℕ) → ((j : ℕ) → j < n → GoodLink extra s (link_at L P (i + j))) → Each (GoodLink extra s) (links_from L P i n)
  each_from i zero h = each_none
  each_from i (suc n) h =
      each_more (subst (λ (k : ℕ). GoodLink extra s (link_at L P k)) (add-zero i) (h 0 (omega arith)))
      (each_from (suc i) n
      (λ j l.
      let e : i + suc j ≡ suc i + j = omega arith in
      subst (λ (k : ℕ). GoodLink extra s (link_at L P k)) e (h (suc j) (omega arith))))

  -- every record below the count is one of a link's
  covered : (i n at m : ℕ) → Follows L i n at m → ((j : ℕ) → j < n → AgreeFrom s P (first_of L (i + j)) (count_of L (i + j)))
      → (x : ℕ) → at ≤ x → x < m → Agrees s P x
  covered i zero at m f h x a b = absurd (omega (arith, f))
  covered i (suc n) at m f h x a b = own_or_later (dec_lt x (at + count_of L i)) (covered (suc i) n (at + count_of L i) m f.1 later x)
    where
      own : AgreeFrom s P (first_of L i) (count_of L i)
      own = subst (λ (k : ℕ). AgreeFrom s P (first_of L k) (count_of L k)) (add-zero i) (h 0 (omega arith))

      later : (j : ℕ) → j < n → AgreeFrom s P (first_of L (suc i + j)) (count_of L (suc i + j))
      later j l =
          let e : i + suc j ≡ suc i + j = omega arith in
          subst (λ (k : ℕ). AgreeFrom s P (first_of L k) (count_of L k)) e (h (suc j) (omega arith))

      own_or_later : Dec (x < at + count_of L i) → (at + count_of L i ≤ x → x < m → Agrees s P x) → Agrees s P x
      own_or_later (yes d) go =
          let e : first_of L i + (x - at) ≡ x = omega (arith, f.0) in
          subst (Agrees s P) e (own (x - at) (omega arith))
      own_or_later (no d) go = go (omega arith) b

  module _ (n m : ℕ) where
    pub good_of : n ≤ link_room_of L → m ≤ param_room_of P → Linked s L n m → EachParams extra s L P n → Good extra (table_of s L P n m)
    good_of a b l p =
        record {
          link_room = a;
          param_room = b;
          follows = l.follows;
          links = each_from 0 n (λ i h. subst (λ (k : ℕ). GoodLink extra s (link_at L P k)) (sym (zero-add i)) (link i h));
          codes = λ j h. covered 0 n 0 m l.follows (λ i k. (p (0 + i) (rw (zero-add i) k)).codes) (0 + j) (omega arith) (rw (zero-add j) h);
        }
      where
        link : (i : ℕ) → i < n → GoodLink extra s (link_at L P i)
        link i h =
            record {
              target_span = (l.targets i h).span;
              target = (l.targets i h).target;
              reference = (l.targets i h).reference;
              params = (p i h).each;
              once = (p i h).once;
            }

    pub linked_of : Good extra (table_of s L P n m) → Linked s L n m
    linked_of g =
        record {
          follows = g.follows;
          targets = λ i h. record { span = (good_link g h).target_span; target = (good_link g h).target; reference = (good_link g h).reference };
        }

    pub params_of : Good extra (table_of s L P n m) → EachParams extra s L P n
    params_of g i h =
        record { each = (good_link g h).params; once = (good_link g h).once; codes = codes_agree g h }

    -- the rooms are a and b
    pub no_link_room : {a : ℕ} → a ≡ link_room_of L → a < n → Decides false (Good extra (table_of s L P n m))
    no_link_room e h = not_so (λ g. omega (arith, e, g.link_room))

    pub no_param_room : {b : ℕ} → b ≡ param_room_of P → b < m → Decides false (Good extra (table_of s L P n m))
    no_param_room e h = not_so (λ g. omega (arith, e, g.param_room))

-- ---- link number i, by its record

pub in_room : {L P : List ℕ} {n m i : ℕ} {l : LinkRecord} → Fits L P n m → i < n → IsLink L i l → l.first.0 + l.count ≤ param_room_of P
in_room {L} {n = n} {m} {i} f h e =
    let end : first_of L (0 + i) + count_of L (0 + i) ≤ m = follows_end L 0 n 0 m i f.follows h in
    rw (e.first, e.count) (omega (arith, f.param_room, rw (zero-add i) at end))

module _ {extra : Extra} {s L P : List ℕ} {i : ℕ} {l : LinkRecord} (e : IsLink L i l) where
  pub here : GoodParams extra s P [] (first_of L i) (count_of L i) → GoodParams extra s P [] l.first.0 l.count
  here g = rw (e.first, e.count) g

  -- one link more has good parameters
  pub one_more : EachParams extra s L P i → GoodParams extra s P [] l.first.0 l.count → EachParams extra s L P (i + 1)
  one_more w g j h =
      ⊎_elim (λ q. subst (λ (k : ℕ). GoodParams extra s P [] (first_of L k) (count_of L k)) (sym q) (rw (e.first, e.count) at g)) (w j)
      (eq-or-lt_of_le {n = j} {m = i} (omega arith))
