-- What entries answer to one another's results, over the outcomes that they promise, in each edition. Each law speaks of whatever
-- reading answers; that it answers something, and just one thing, is a law of the outcomes.
use Rattle.std.specs.Prelude.{ℕ, ◌+◌, ◌*◌, ◌≤◌, ◌<◌, ◌≡◌, ◌⊎◌, List, [], ◌∷◌, ◌++◌, map, length, take, drop}
use Rattle.octets.specs.Editions.{number_of}
use Rattle.octets.specs.declared.editions.Edition.{Edition}
use Rattle.octets.specs.declared.editions.Edition.TheVariants.{Rfc8288, Rfc5988}
use Rattle.grammar.specs.Records.{link_width, param_width, link_room_of, param_room_of}
use Rattle.grammar.specs.Join.{Padded, padded, join, raise_links, raise_params}
use Rattle.tables.specs.Table.{Table}
use Rattle.tables.specs.Meaning.{table_meanings}
use Rattle.outcomes.specs.Number.{limit, done, malformed_header_number, bad_table_number}
use Rattle.outcomes.specs.Read.{ReadOut, refused, Read}
use Rattle.outcomes.specs.Search.{SearchOut, Search}
use Rattle.outcomes.specs.Context.{ContextOut, Context}
use Rattle.outcomes.specs.Copy.{CopyOut, Copy}
use Rattle.outcomes.specs.Write.{Write}
use Rattle.outcomes.specs.Title.{Titles}
use Rattle.outcomes.specs.ResolvedContext.{ResolvedContext}

-- ---- joining

-- a header of a join, read by itself in whatever tables: what they held, and what reading answered
pub record ReadAlone (e : Edition) : Type 0 where
  pub pad : Padded
  pub link_slots : List ℕ
  pub param_slots : List ℕ
  pub out : ReadOut
  pub answered : Read (number_of e) pad.header link_slots param_slots out

-- an accepted header: reading it answers 0
pub record Accepted (e : Edition) : Type 0 where
  pub alone : ReadAlone e
  pub accepted : alone.out.number ≡ done

abbrev pub pads : {e : Edition} → List (Accepted e) → List Padded
pads {e} hs = map (λ (a : Accepted e). a.alone.pad) hs

abbrev pub join_of : {e : Edition} → List (Accepted e) → List ℕ
join_of hs = join (pads hs)

-- the records that reading the header alone gave
abbrev pub link_records_of : {e : Edition} → Accepted e → List ℕ
link_records_of a = take (link_width * a.alone.out.links) a.alone.out.link_slots

abbrev pub param_records_of : {e : Edition} → Accepted e → List ℕ
param_records_of a = take (param_width * a.alone.out.params) a.alone.out.param_slots

-- the sums of the counts that the headers answer alone
abbrev pub link_sum : {e : Edition} → List (Accepted e) → ℕ
link_sum [] = 0
link_sum (a ∷ hs) = a.alone.out.links + link_sum hs

abbrev pub param_sum : {e : Edition} → List (Accepted e) → ℕ
param_sum [] = 0
param_sum (a ∷ hs) = a.alone.out.params + param_sum hs

-- the headers' own records, one header behind another, with what stands before each header in the join added: its octets to the
-- places, its parameters to the number of a first one; k octets and m parameters stand before the first header
abbrev pub joined_links : {e : Edition} → ℕ → ℕ → List (Accepted e) → List ℕ
joined_links k m [] = []
joined_links k m (a ∷ hs) =
    raise_links (k + length a.alone.pad.left) m (link_records_of a)
    ++ joined_links (k + length (padded a.alone.pad) + 1) (m + a.alone.out.params) hs

abbrev pub joined_params : {e : Edition} → ℕ → List (Accepted e) → List ℕ
joined_params k [] = []
joined_params k (a ∷ hs) =
    raise_params (k + length a.alone.pad.left) (param_records_of a)
    ++ joined_params (k + length (padded a.alone.pad) + 1) hs

-- a join of accepted headers, of at most 8,192 octets, read in room for the sums, answers 0, the sums and these records
abbrev pub JoinAnswers : Type 0
JoinAnswers =
    (e : Edition) (hs : List (Accepted e)) (L P : List ℕ) → length (join_of hs) ≤ limit → link_sum hs ≤ link_room_of L
    → param_sum hs ≤ param_room_of P → (r : ReadOut) → Read (number_of e) (join_of hs) L P r
    → r
    ≡ record {
      number = done;
      place = 0;
      links = link_sum hs;
      params = param_sum hs;
      link_slots = joined_links 0 0 hs ++ drop (link_width * link_sum hs) L;
      param_slots = joined_params 0 hs ++ drop (param_width * param_sum hs) P;
    }

-- a malformed header: reading it answers 2
pub record Rejected (e : Edition) : Type 0 where
  pub alone : ReadAlone e
  pub malformed : alone.out.number ≡ malformed_header_number

-- the join of accepted headers, a malformed one, and accepted ones again
abbrev pub broken_join : {e : Edition} → List (Accepted e) → Rejected e → List (Accepted e) → List ℕ
broken_join hs b gs = join (pads hs ++ b.alone.pad ∷ pads gs)

-- the octets of the join before the malformed header
abbrev pub octets_before : {e : Edition} → List (Accepted e) → Rejected e → ℕ
octets_before [] b = length b.alone.pad.left
octets_before (a ∷ hs) b = length (padded a.alone.pad) + 1 + octets_before hs b

-- The place that it answers alone lies inside it, or no octet of the join stands behind it. (What is behind a header that is cut short
-- may go on with what that began: blanks do so inside quotes, and the comma in a target.)
abbrev pub PlaceSettled : {e : Edition} → Rejected e → List (Accepted e) → Type 0
PlaceSettled b gs =
    (b.alone.out.place < length b.alone.pad.header) ⊎ ((b.alone.pad.right ≡ []) × (gs ≡ []))

-- number 2, zero counts, the tables as they were; the place is raised by the octets before, or lies behind that
pub record JoinRefused {e : Edition} (hs : List (Accepted e)) (b : Rejected e) (gs : List (Accepted e)) (L P : List ℕ) (r : ReadOut) : Type 0 where
  pub answer : r ≡ refused L P malformed_header_number r.place
  pub not_before : octets_before hs b + b.alone.out.place ≤ r.place
  pub place : PlaceSettled b gs → r.place ≡ octets_before hs b + b.alone.out.place

-- a join with one malformed header among accepted ones, of at most 8,192 octets, is malformed in whatever tables
abbrev pub JoinRefuses : Type 0
JoinRefuses =
    (e : Edition) (hs : List (Accepted e)) (b : Rejected e) (gs : List (Accepted e)) (L P : List ℕ)
    → length (broken_join hs b gs) ≤ limit → (r : ReadOut) → Read (number_of e) (broken_join hs b gs) L P r → JoinRefused hs b gs L P r

-- ---- reading back

-- an accepted table: writing it, in some buffer, answers 0
pub record AcceptedTable (e : Edition) (t : Table) : Type 0 where
  pub buffer : List ℕ
  pub out : CopyOut
  pub answered : Write (number_of e) t buffer out
  pub accepted : out.number ≡ done

-- the octets written, as many as answered
abbrev pub octets_of : {e : Edition} {t : Table} → AcceptedTable e t → List ℕ
octets_of w = take w.out.count w.out.buffer

-- the table that reading the text s filled
abbrev pub read_table : List ℕ → ReadOut → Table
read_table s r =
    record {
      text = s;
      link_slots = r.link_slots;
      param_slots = r.param_slots;
      link_count = r.links;
      param_count = r.params;
    }

-- whatever edition they were written in, they are read in every edition, in room for the table's counts, to the same counts and an
-- equal list of link meanings
abbrev pub BackAnswers : Type 0
BackAnswers =
    (e d : Edition) (t : Table) (w : AcceptedTable e t) (L P : List ℕ) → t.link_count ≤ link_room_of L → t.param_count ≤ param_room_of P
    → (r : ReadOut) → Read (number_of d) (octets_of w) L P r
    → (r.number ≡ done) × (r.links ≡ t.link_count) × (r.params ≡ t.param_count)
    × (table_meanings (read_table (octets_of w) r) ≡ table_meanings t)

-- tables that differ in their lists of link meanings, each written in its edition, never share their octets
abbrev pub WrittenApart : Type 0
WrittenApart =
    (e d : Edition) (t u : Table) (w : AcceptedTable e t) (x : AcceptedTable d u) → octets_of w ≡ octets_of x
    → table_meanings t ≡ table_meanings u

-- ---- the editions

-- Unless RFC 8288's edition answers 2, the older one answers the same, with the same records in the tables.
abbrev pub ReadsAlike : Type 0
ReadsAlike =
    (h L P : List ℕ) (o q : ReadOut) → Read (number_of Rfc8288) h L P o → (o.number ≡ malformed_header_number → ⊥)
    → Read (number_of Rfc5988) h L P q → q ≡ o

-- Unless RFC 8288's edition answers 5 of a table, the older one answers the same of it.
pub record TablesAlike : Type 0 where
  pub search : (t : Table) (q : List ℕ) (o : SearchOut) → Search (number_of Rfc8288) t q o → (o.number ≡ bad_table_number → ⊥)
      → Search (number_of Rfc5988) t q o
  pub context : (t : Table) (base : List ℕ) (i : ℕ) (o : ContextOut) → Context (number_of Rfc8288) t base i o
      → (o.number ≡ bad_table_number → ⊥) → Context (number_of Rfc5988) t base i o
  pub copy : (t : Table) (i j : ℕ) (out : List ℕ) (o : CopyOut) → Copy (number_of Rfc8288) t i j out o
      → (o.number ≡ bad_table_number → ⊥) → Copy (number_of Rfc5988) t i j out o
  pub write : (t : Table) (out : List ℕ) (o : CopyOut) → Write (number_of Rfc8288) t out o → (o.number ≡ bad_table_number → ⊥)
      → Write (number_of Rfc5988) t out o
  pub title : (t : Table) (i : ℕ) (out : List ℕ) (o : CopyOut) → Titles (number_of Rfc8288) t i out o
      → (o.number ≡ bad_table_number → ⊥) → Titles (number_of Rfc5988) t i out o
  pub resolved_context : (t : Table) (base : List ℕ) (i : ℕ) (out : List ℕ) (o : CopyOut)
      → ResolvedContext (number_of Rfc8288) t base i out o → (o.number ≡ bad_table_number → ⊥) → ResolvedContext (number_of Rfc5988) t base i out o
