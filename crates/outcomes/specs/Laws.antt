-- Each outcome settles everything.
use Rattle.std.specs.Prelude.{ℕ, ◌*◌, ◌≡◌, List, [], drop}
use Rattle.octets.specs.Editions.{number_of, NoEdition}
use Rattle.octets.specs.declared.editions.Edition.{Edition}
use Rattle.grammar.specs.Records.{link_width, param_width}
use Rattle.tables.specs.Table.{Table}
use Rattle.outcomes.specs.Number.{done, malformed_header_number, unknown_edition_number}
use Rattle.outcomes.specs.Read.{ReadOut, refused, Read}
use Rattle.outcomes.specs.Search.{SearchOut, Search}
use Rattle.outcomes.specs.Context.{ContextOut, nothing, Context}
use Rattle.outcomes.specs.Copy.{CopyOut, untouched, Copy}
use Rattle.outcomes.specs.Write.{Write}
use Rattle.outcomes.specs.Title.{Titles}
use Rattle.outcomes.specs.Decode.{Decode}
use Rattle.outcomes.specs.Resolve.{Resolve}
use Rattle.outcomes.specs.ResolvedContext.{ResolvedContext}
use Rattle.outcomes.specs.Feed.{FeedOut, unstored, Feed, Finish}
use Rattle.outcomes.specs.Feeding.{Feeding, start, Holds, Feeds, Finishes}

-- there is an outcome, and no other
abbrev pub Settled : {A : Type 0} → (A → Type 0) → Type 0
Settled {A} Out = (o : A) × Out o × ((q : A) → Out q → q ≡ o)

-- Refused, all numbers but the first are zero (a malformed header has its place too), and what was lent is as before. Done, the place
-- is 0, and what stands behind the records or octets written is as before.
pub record ReadKeeps (L P : List ℕ) (o : ReadOut) : Type 0 where
  pub refused : (o.number ≡ done → ⊥)
      → (o.links ≡ 0) × (o.params ≡ 0) × (o.link_slots ≡ L) × (o.param_slots ≡ P)
  pub place : (o.number ≡ malformed_header_number → ⊥) → o.place ≡ 0
  pub behind_links : o.number ≡ done → drop (link_width * o.links) o.link_slots ≡ drop (link_width * o.links) L
  pub behind_params : o.number ≡ done → drop (param_width * o.params) o.param_slots ≡ drop (param_width * o.params) P

pub record CopyKeeps (out : List ℕ) (o : CopyOut) : Type 0 where
  pub refused : (o.number ≡ done → ⊥) → (o.count ≡ 0) × (o.buffer ≡ out)
  pub behind : o.number ≡ done → drop o.count o.buffer ≡ drop o.count out

-- A feed that is refused leaves the gathering buffer as the feed before did; the place is 0 unless the octets are malformed.
pub record FeedKeeps (buffer : List ℕ) (o : FeedOut) : Type 0 where
  pub refused : (o.number ≡ done → ⊥) → o.buffer ≡ buffer
  pub place : (o.number ≡ malformed_header_number → ⊥) → o.place ≡ 0

pub record Refusals : Type 0 where
  pub read : (n : ℕ) (h L P : List ℕ) (o : ReadOut) → Read n h L P o → ReadKeeps L P o
  pub search : (n : ℕ) (t : Table) (q : List ℕ) (o : SearchOut) → Search n t q o → (o.number ≡ done → ⊥) → o.link ≡ 0
  pub context : (n : ℕ) (t : Table) (base : List ℕ) (i : ℕ) (o : ContextOut) → Context n t base i o
      → (o.number ≡ done → ⊥) → o ≡ nothing o.number
  pub copy : (n : ℕ) (t : Table) (i j : ℕ) (out : List ℕ) (o : CopyOut) → Copy n t i j out o → CopyKeeps out o
  pub write : (n : ℕ) (t : Table) (out : List ℕ) (o : CopyOut) → Write n t out o → CopyKeeps out o
  pub title : (n : ℕ) (t : Table) (i : ℕ) (out : List ℕ) (o : CopyOut) → Titles n t i out o → CopyKeeps out o
  pub decode : (w out : List ℕ) (o : CopyOut) → Decode w out o → CopyKeeps out o
  pub resolve : (w base out : List ℕ) (o : CopyOut) → Resolve w base out o → CopyKeeps out o
  pub resolved_context : (n : ℕ) (t : Table) (base : List ℕ) (i : ℕ) (out : List ℕ) (o : CopyOut)
      → ResolvedContext n t base i out o → CopyKeeps out o
  pub feed : (n : ℕ) (fed part buffer : List ℕ) (o : FeedOut) → Feed n fed part buffer o → FeedKeeps buffer o
  pub finish : (n : ℕ) (fed buffer L P : List ℕ) (o : ReadOut) → Finish n fed buffer L P o → ReadKeeps L P o

-- A number that is no edition's is refused with 10, whatever else is asked: every entry, the finish on a state so started too, answers
-- and leaves what its refusals do, and a feed on such a state hands it back as it was.
pub record UnknownRefused : Type 0 where
  pub read : (n : ℕ) → NoEdition n → (h L P : List ℕ) (o : ReadOut) → Read n h L P o → o ≡ refused L P unknown_edition_number 0
  pub search : (n : ℕ) → NoEdition n → (t : Table) (q : List ℕ) (o : SearchOut) → Search n t q o
      → o ≡ record { number = unknown_edition_number; link = 0 }
  pub context : (n : ℕ) → NoEdition n → (t : Table) (base : List ℕ) (i : ℕ) (o : ContextOut) → Context n t base i o
      → o ≡ nothing unknown_edition_number
  pub copy : (n : ℕ) → NoEdition n → (t : Table) (i j : ℕ) (out : List ℕ) (o : CopyOut) → Copy n t i j out o
      → o ≡ untouched out unknown_edition_number
  pub write : (n : ℕ) → NoEdition n → (t : Table) (out : List ℕ) (o : CopyOut) → Write n t out o
      → o ≡ untouched out unknown_edition_number
  pub title : (n : ℕ) → NoEdition n → (t : Table) (i : ℕ) (out : List ℕ) (o : CopyOut) → Titles n t i out o
      → o ≡ untouched out unknown_edition_number
  pub resolved_context : (n : ℕ) → NoEdition n → (t : Table) (base : List ℕ) (i : ℕ) (out : List ℕ) (o : CopyOut)
      → ResolvedContext n t base i out o → o ≡ untouched out unknown_edition_number
  pub feed : (st next : Feeding) → NoEdition st.edition → (part buffer : List ℕ) (o : FeedOut)
      → Feeds st part buffer o next → (o ≡ unstored buffer unknown_edition_number 0) × (next ≡ st)
  pub finish : (st : Feeding) → NoEdition st.edition → (buffer L P : List ℕ) (o : ReadOut)
      → Finishes st buffer L P o → o ≡ refused L P unknown_edition_number 0

abbrev pub ReadSettled : Type 0
ReadSettled = (n : ℕ) (h L P : List ℕ) → Settled (Read n h L P)

abbrev pub SearchSettled : Type 0
SearchSettled = (n : ℕ) (t : Table) (q : List ℕ) → Settled (Search n t q)

abbrev pub ContextSettled : Type 0
ContextSettled = (n : ℕ) (t : Table) (base : List ℕ) (i : ℕ) → Settled (Context n t base i)

abbrev pub CopySettled : Type 0
CopySettled = (n : ℕ) (t : Table) (i j : ℕ) (out : List ℕ) → Settled (Copy n t i j out)

abbrev pub WriteSettled : Type 0
WriteSettled = (n : ℕ) (t : Table) (out : List ℕ) → Settled (Write n t out)

abbrev pub TitleSettled : Type 0
TitleSettled = (n : ℕ) (t : Table) (i : ℕ) (out : List ℕ) → Settled (Titles n t i out)

abbrev pub DecodeSettled : Type 0
DecodeSettled = (w out : List ℕ) → Settled (Decode w out)

abbrev pub ResolveSettled : Type 0
ResolveSettled = (w base out : List ℕ) → Settled (Resolve w base out)

abbrev pub ResolvedContextSettled : Type 0
ResolvedContextSettled = (n : ℕ) (t : Table) (base : List ℕ) (i : ℕ) (out : List ℕ) → Settled (ResolvedContext n t base i out)

abbrev pub FeedSettled : Type 0
FeedSettled = (n : ℕ) (fed part buffer : List ℕ) → Settled (Feed n fed part buffer)

abbrev pub FinishSettled : Type 0
FinishSettled = (n : ℕ) (fed buffer L P : List ℕ) → Settled (Finish n fed buffer L P)

-- the state of a start in an edition is right for no octets, with any buffer
abbrev pub StartHolds : Type 0
StartHolds = (e : Edition) (buffer : List ℕ) → Holds e [] buffer (start (number_of e))
