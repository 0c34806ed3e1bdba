-- What the scans of a link's parameters, of a link and of a whole header promise, and what they note.
use Rattle.std.specs.Prelude.{ℕ, suc, ◌*◌, ◌≤◌, ◌≡◌, ◌⊎◌, List, [], ◌∷◌, reverse, length, Result, Ok, Err}
use Rattle.octets.specs.Sets.{is_blank}
use Rattle.grammar.specs.Link.{Link, Param}
use Rattle.grammar.specs.Grammar.{Extra, At, Target}
use Rattle.grammar.specs.Targets.{ReferenceAt, References}
use Rattle.grammar.specs.Kept.{keep_after, Reading}
use Rattle.grammar.specs.Records.{link_width, param_width, count_params, records_of, link_records, param_records}
use Rattle.grammar.specs.Place.{MalformedAt}
use Rattle.grammar.specs.Machine.{target, opened}
use Rattle.kinds.specs.declared.Place.{Place}
use Rattle.kinds.specs.declared.Counts.{Counts}
use Rattle.cursor.specs.Passed.{Passed}
use Rattle.cursor.specs.declared.Cursor.{Cursor}
use Rattle.notes.specs.Noted.{Noted}
use Rattle.scan_parts.specs.Stands.{Stands, Ready}
use Rattle.scan_parts.specs.Parsed.{Parsed}

-- parameters one behind the other from place a up to place i, the last first
pub data Chain (extra : Extra) (s : List ℕ) (a : ℕ) : List Param → ℕ → Type 0 where
  no_params : Chain extra s a [] a
  one_more : {qs : List Param} {i j k e : ℕ} {p : Param} → Chain extra s a qs i → Passed is_blank s i j → At s j 59
      → Passed is_blank s (suc j) k → Parsed extra s k p e → Chain extra s a (p ∷ qs) e

-- all of a link's parameters from place a on, up to place j, where a comma or nothing stands; n of them are kept
pub record Params (extra : Extra) (s : List ℕ) (a j n : ℕ) : Type 0 where
  pub params : List Param
  pub end : ℕ
  pub chain : Chain extra s a params end
  pub blanks : Passed is_blank s end j
  pub ends : (length s ≤ j) ⊎ At s j 44
  pub kept : n ≡ length (keep_after s [] (reverse params))

-- parameters from place a on; those kept are noted from number m on
pub data ParamsScanned (extra : Extra) (s : List ℕ) (a m : ℕ) (P P' : List ℕ) : Result (Cursor × ℕ) Place → Type 0 where
  no_params_here : {p : Place} → ((ls : List Link) (b k : ℕ) → Ready extra s (opened ls b k) a → ReferenceAt s b k → References s ls
      → MalformedAt extra s p.0)
      → ParamsScanned extra s a m P P' (Err p)
  all_params : {c : Cursor} {n : ℕ} (w : Params extra s a c.at.0 n)
      → Noted P P' (param_width * m) (records_of s (keep_after s [] (reverse w.params))) → ParamsScanned extra s a m P P' (Ok (c, n))

-- a link whose target begins at place a
pub record WholeLink (extra : Extra) (s : List ℕ) (a j n : ℕ) : Type 0 where
  pub close : ℕ
  pub target : Target s a close
  pub closed : At s close 62
  pub rest : Params extra s (suc close) j n

-- the record of that link was noted as link number n, those of its kept parameters from number m on
pub record LinkNoted (extra : Extra) (s : List ℕ) {a j x : ℕ} (w : WholeLink extra s a j x) (n m : ℕ) (L L' P P' : List ℕ) : Type 0 where
  pub link : Noted L L' (link_width * n) (a ∷ w.close ∷ m ∷ x ∷ [])
  pub params : Noted P P' (param_width * m) (records_of s (keep_after s [] (reverse w.rest.params)))

pub data LinkScanned (extra : Extra) (s : List ℕ) (a n m : ℕ) (L L' P P' : List ℕ) : Result (Cursor × ℕ) Place → Type 0 where
  no_link : {p : Place} → ((ls : List Link) → Stands extra s (target ls a) a → References s ls → MalformedAt extra s p.0)
      → LinkScanned extra s a n m L L' P P' (Err p)
  a_link : {c : Cursor} {x : ℕ} (w : WholeLink extra s a c.at.0 x) → ReferenceAt s a w.close → LinkNoted extra s w n m L L' P P'
      → LinkScanned extra s a n m L L' P P' (Ok (c, x))

-- the counts are those of the header's reading; every parameter has an octet at least
pub record CountsOf (extra : Extra) (s : List ℕ) (n : Counts) : Type 0 where
  pub reading : List Link
  pub reads : Reading extra s reading
  pub links : n.links ≡ length reading
  pub params : n.params ≡ count_params reading
  pub few_params : n.params ≤ length s

-- the records of the links K were noted, from the first slots on
pub record ReadingNoted (s : List ℕ) (K : List Link) (L L' P P' : List ℕ) : Type 0 where
  pub links : Noted L L' 0 (link_records 0 K)
  pub params : Noted P P' 0 (param_records s K)

pub data HeaderScanned (extra : Extra) (s L L' P P' : List ℕ) : Result Counts Place → Type 0 where
  malformed_at : {p : Place} → MalformedAt extra s p.0 → HeaderScanned extra s L L' P P' (Err p)
  counted : {n : Counts} (k : CountsOf extra s n) → ReadingNoted s k.reading L L' P P' → HeaderScanned extra s L L' P P' (Ok n)
