-- What filling asks and does: the header has a reading for which there is room, and its records are written.
use Rattle.std.specs.Prelude.{ℕ, ◌+◌, ◌*◌, ◌≤◌, ◌≡◌, ◌⊎◌, Bool, cond, List, [], ◌∷◌, ◌++◌, map, reverse, length, drop}
use Rattle.std.proofs.lemmas.List.Edits.{sets}
use Rattle.octets.specs.Sets.{is_blank}
use Rattle.grammar.specs.Link.{Link, Param}
use Rattle.grammar.specs.Grammar.{Extra, At, Field}
use Rattle.grammar.specs.Kept.{keep_after, kept_link, Reading}
use Rattle.grammar.specs.Records.{
  link_width,
  param_width,
  count_params,
  records_of,
  link_records,
  param_records,
  link_room_of,
  param_room_of,
}
use Rattle.grammar.specs.Machine.{opened, target}
use Rattle.records.specs.declared.ParamRecord.{ParamRecord}
use Rattle.records.specs.Slots.{param_numbers}
use Rattle.cursor.specs.Passed.{Passed}
use Rattle.scan_parts.specs.Stands.{Stands, Ready}
use Rattle.scanner.specs.Linked.{Chain, WholeLink}

-- there is room for the header's reading
pub record ReadingFits (extra : Extra) (s L P : List ℕ) : Type 0 where
  pub reading : List Link
  pub reads : Reading extra s reading
  pub link_room : length reading ≤ link_room_of L
  pub param_room : count_params reading ≤ param_room_of P

-- the records of the header's reading stand in both tables, and behind them what the slots held
pub record TablesFilled (extra : Extra) (s L L' P P' : List ℕ) : Type 0 where
  pub reading : List Link
  pub reads : Reading extra s reading
  pub links : L' ≡ link_records 0 reading ++ drop (link_width * length reading) L
  pub params : P' ≡ param_records s reading ++ drop (param_width * count_params reading) P

-- the record r was written at number m unless its name stood before, and the next number is n
pub record KeptOnce (again : Bool) (r : ParamRecord) (m n : ℕ) (P P' : List ℕ) : Type 0 where
  pub next : n ≡ m + cond again 0 1
  pub written : P' ≡ cond again P (sets P (param_width * m) (param_numbers r))

-- before a link's parameters: the links held have been read, the last first, and the next parameter's number is m
pub record BeforeParams (extra : Extra) (s P : List ℕ) (a m : ℕ) : Type 0 where
  pub all : List Link
  pub derived : Field extra s all
  pub room : count_params (map (kept_link s) all) ≤ param_room_of P
  pub links : List Link
  pub from : ℕ
  pub to : ℕ
  pub ready : Ready extra s (opened links from to) a
  pub number : m ≡ count_params (map (kept_link s) links)

-- all of a link's parameters, from place a up to place j, have been written from number m up to number n
pub record ParamsFilled (extra : Extra) (s : List ℕ) (a j m n : ℕ) (P P' : List ℕ) : Type 0 where
  pub params : List Param
  pub end : ℕ
  pub chain : Chain extra s a params end
  pub blanks : Passed is_blank s end j
  pub ends : (length s ≤ j) ⊎ At s j 44
  pub next : n ≡ m + length (keep_after s [] (reverse params))
  pub written : P' ≡ sets P (param_width * m) (records_of s (keep_after s [] (reverse params)))

-- before a link, behind its `<`: the links held have been read, the last first, and the next numbers are n and m
pub record BeforeLink (extra : Extra) (s L P : List ℕ) (a n m : ℕ) : Type 0 where
  pub all : List Link
  pub derived : Field extra s all
  pub link_room : length all ≤ link_room_of L
  pub param_room : count_params (map (kept_link s) all) ≤ param_room_of P
  pub links : List Link
  pub stands : Stands extra s (target links a) a
  pub link_number : n ≡ length links
  pub param_number : m ≡ count_params (map (kept_link s) links)

-- the link from place a up to place j is link number n, its parameters have been written from number m up to number k
pub record LinkFilled (extra : Extra) (s : List ℕ) (a j n m k : ℕ) (L L' P P' : List ℕ) : Type 0 where
  pub count : ℕ
  pub link : WholeLink extra s a j count
  pub next : k ≡ m + count
  pub links_written : L' ≡ sets L (link_width * n) (a ∷ link.close ∷ m ∷ count ∷ [])
  pub params_written : P' ≡ sets P (param_width * m) (records_of s (keep_after s [] (reverse link.rest.params)))
