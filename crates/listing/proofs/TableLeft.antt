-- A table that is held is passed link by link, and reading leaves one.
use Prim.Native.Nat.{ℕ, zero, suc, ◌+◌, ◌≤◌, ◌<◌}
use mathlib.Core.Path.{◌≡◌, refl, subst}
use mathlib.Core.List.{List}
use native.Mathlib.Omega.{arith}
use native.Mathlib.Numerals.{add-one}
use Rattle.std.specs.Prelude.{Result, Ok}
use Rattle.grammar.specs.Records.{link_room_of, param_room_of}
use Rattle.tables.specs.Table.{first_of, count_of}
use Rattle.tables.specs.Good.{Follows}
use Rattle.tables.proofs.FromReading.{read_good}
use Rattle.records.specs.declared.LinkRecord.{LinkRecord}
use Rattle.records.specs.Slots.{IsLink}
use Rattle.outcomes.specs.InEdition.{unknown, known}
use Rattle.outcomes.specs.Read.{ReadOut, Read, too_long, not_derived, no_link_room, no_param_room, reads}
use Rattle.kinds.specs.declared.Counts.{Counts}
use Rattle.answers.specs.Read.{read_numbers, read_out}
use Rattle.answers.specs.declared.read_answer.ReadError.{ReadError}
use Rattle.listing.specs.Held.{Held}

-- what is left of a table from link i on: `left` links, whose parameters begin at number `from`
pub record TableLeft (L P : List ℕ) (n m i : ℕ) : Type 0 where
  pub held : Held L P n m
  pub left : ℕ
  pub from : ℕ
  pub number : i + left ≡ n
  pub follows : Follows L i left from m

pub begin : {L P : List ℕ} {n m : ℕ} → Held L P n m → TableLeft L P n m 0
begin {n = n} h = record { held = h; left = n; from = 0; number = omega arith; follows = h.follows }

-- the parameters of the links that are left end at the last
ends : (L : List ℕ) (i n : ℕ) {from m : ℕ} → Follows L i n from m → from ≤ m
ends L i zero f = omega (arith, f)
ends L i (suc n) f = omega (arith, ends L (suc i) n f.1)

-- link i's parameters stand in the slots, and what is left behind it
record LinkPassed (L P : List ℕ) (n m i : ℕ) : Type 0 where
  inside : first_of L i + count_of L i ≤ param_room_of P
  behind : TableLeft L P n m (suc i)

module _ {L P : List ℕ} {n m i : ℕ} where
  pass : (k from : ℕ) → Held L P n m → i + k ≡ n → Follows L i k from m → i < n → LinkPassed L P n m i
  pass zero from h e f lt = absurd (omega (arith, e, lt))
  pass (suc k) from h e f lt =
      record {
        inside = omega (arith, h.param_room, f.0, ends L (suc i) k f.1);
        behind = record { held = h; left = k; from = from + count_of L i; number = omega (arith, e); follows = f.1 };
      }

  passed : TableLeft L P n m i → i < n → LinkPassed L P n m i
  passed o = pass o.left o.from o.held o.number o.follows

  pub link_room : TableLeft L P n m i → i < n → i < link_room_of L
  link_room o lt = omega (arith, o.held.link_room, lt)

  pub params_inside : {r : LinkRecord} → TableLeft L P n m i → i < n → IsLink L i r → r.first.0 + r.count ≤ param_room_of P
  params_inside o lt is = omega (arith, (passed o lt).inside, is.first, is.count)

  pub on : TableLeft L P n m i → i < n → TableLeft L P n m (i + 1)
  on o lt = rw (add-one i) (passed o lt).behind

-- what reading answers with number 0 is held
read_held : {n : ℕ} {h L P : List ℕ} {o : ReadOut} → Read n h L P o → o.number ≡ 0
    → Held o.link_slots o.param_slots o.links o.params
read_held (unknown z) e = absurd (omega (arith, e))
read_held (known q (too_long a)) e = absurd (omega (arith, e))
read_held (known q (not_derived a b)) e = absurd (omega (arith, e))
read_held (known q (no_link_room a b c)) e = absurd (omega (arith, e))
read_held (known q (no_param_room a b c d)) e = absurd (omega (arith, e))
read_held (known q (reads a b c d)) e =
    let g = (read_good _ _ _ _ _ b).good in
    record { link_room = g.link_room; param_room = g.param_room; follows = g.follows }

-- reading's answer, known to be its table's counts
pub done_held : {m : ℕ} {h L P L' P' : List ℕ} {r : Result Counts ReadError} {n : Counts} → Read m h L P (read_out (read_numbers r) L' P')
    → r ≡ Ok n → Held L' P' n.links n.params
done_held {m} {h} {L} {P} {L'} {P'} d e =
    read_held (subst (λ (y : Result Counts ReadError). Read m h L P (read_out (read_numbers y) L' P')) e d) refl
