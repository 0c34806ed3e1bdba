-- Reading a header into lent tables. The numbers come in the order 10, 1, 2, 3, 4.
use Rattle.std.specs.Prelude.{ℕ, ◌*◌, ◌≤◌, ◌<◌, List, ◌++◌, length, drop}
use Rattle.octets.specs.Editions.{further}
use Rattle.octets.specs.declared.editions.Edition.{Edition}
use Rattle.grammar.specs.Link.{Link}
use Rattle.grammar.specs.Kept.{Reading}
use Rattle.grammar.specs.Records.{link_width, param_width, link_room_of, param_room_of, count_params, link_records, param_records}
use Rattle.grammar.specs.Place.{MalformedAt}
use Rattle.outcomes.specs.Number.{limit, done, too_long_number, malformed_header_number, no_link_room_number, no_param_room_number}
use Rattle.outcomes.specs.InEdition.{InEdition}

-- the four numbers answered, and what both tables hold afterwards
pub record ReadOut : Type 0 where
  pub number : ℕ
  pub place : ℕ
  pub links : ℕ
  pub params : ℕ
  pub link_slots : List ℕ
  pub param_slots : List ℕ

-- refused with number n at place k (0 unless the header is malformed), tables that held L and P hold them still
abbrev pub refused : List ℕ → List ℕ → ℕ → ℕ → ReadOut
refused L P n k = record { number = n; place = k; links = 0; params = 0; link_slots = L; param_slots = P }

-- they hold the records of the links K of the header h, and behind them what the slots held
abbrev pub filled : List ℕ → List ℕ → List ℕ → List Link → ReadOut
filled h L P K =
    record {
      number = done;
      place = 0;
      links = length K;
      params = count_params K;
      link_slots = link_records 0 K ++ drop (link_width * length K) L;
      param_slots = param_records h K ++ drop (param_width * count_params K) P;
    }

-- the header h, with tables that hold L and P, in the edition e
module _ (e : Edition) (h L P : List ℕ) where
  pub data ReadIn : ReadOut → Type 0 where
    too_long : limit < length h → ReadIn (refused L P too_long_number 0)
    not_derived : {k : ℕ} → length h ≤ limit → MalformedAt (further e) h k → ReadIn (refused L P malformed_header_number k)
    no_link_room : {K : List Link} → length h ≤ limit → Reading (further e) h K → link_room_of L < length K
        → ReadIn (refused L P no_link_room_number 0)
    no_param_room : {K : List Link} → length h ≤ limit → Reading (further e) h K → length K ≤ link_room_of L
        → param_room_of P < count_params K → ReadIn (refused L P no_param_room_number 0)
    reads : {K : List Link} → length h ≤ limit → Reading (further e) h K → length K ≤ link_room_of L → count_params K ≤ param_room_of P
        → ReadIn (filled h L P K)

-- asked with the number n of an edition
abbrev pub Read : ℕ → List ℕ → List ℕ → List ℕ → ReadOut → Type 0
Read n h L P = InEdition n (λ k. refused L P k 0) (λ e. ReadIn e h L P)
