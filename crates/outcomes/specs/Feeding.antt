-- What a feeding remembers between calls, and what feeds and the finish promise of it.
use Rattle.std.specs.Prelude.{ℕ, suc, ◌+◌, ◌≤◌, ◌<◌, min, ◌≡◌, List, [], ◌++◌, length, take, drop}
use Rattle.std.proofs.Math.Option.{Option, none, some}
use Rattle.octets.specs.Editions.{number_of, further}
use Rattle.octets.specs.declared.editions.Edition.{Edition}
use Rattle.reference_steps.specs.Machine as judge
use Rattle.grammar.specs.Place.{Begun, Place}
use Rattle.grammar.specs.Machine.{gap, run, phase_of, open_at}
use Rattle.outcomes.specs.Number.{limit, done, too_long_number, malformed_header_number, no_output_room_number}
use Rattle.outcomes.specs.InEdition.{InEdition}
use Rattle.outcomes.specs.Read.{ReadOut, refused, ReadIn}
use Rattle.outcomes.specs.Feed.{counted, FeedOut, unstored, FeedIn, FinishIn}

-- The number of the edition asked for, the phase of reading behind the octets gathered, how many octets counted, and their place; and,
-- where they end in a target, its start and the state of its judging (`reference_steps/Machine`).
pub record Feeding : Type 0 where
  pub edition : ℕ
  pub phase : ℕ
  pub total : ℕ
  pub place : ℕ
  pub target : ℕ
  pub judged : ℕ

-- of the target that is open, if one is: its start, and the state behind its octets among `fed`
abbrev pub start_of : Option ℕ → ℕ
start_of none = 0
start_of (some a) = a

abbrev pub judged_of : List ℕ → Option ℕ → ℕ
judged_of fed none = 0
judged_of fed (some a) = judge.run 0 (drop a fed)

-- A state of the edition e and a buffer as they are handed out when the octets `fed` have counted: one case for each number that a feed
-- answers of them. A case says nothing of the numbers that it takes in braces, and only the last one speaks of the buffer.
pub data Holds (e : Edition) (fed buffer : List ℕ) : Feeding → Type 0 where
  -- behind the limit the octets are counted no further
  over : {p k a q : ℕ} → limit < length fed
      → Holds e fed buffer (record { edition = number_of e; phase = p; total = suc limit; place = k; target = a; judged = q })
  -- octets of which something is wrong have a place before their end
  stuck : {p k a q : ℕ} → length fed ≤ limit → (Begun (further e) fed → ⊥) → Place (further e) fed k
      → Holds e fed buffer (record { edition = number_of e; phase = p; total = length fed; place = k; target = a; judged = q })
  -- all others have their own length as place, and stand at the buffer's start
  begun : length fed ≤ limit → Begun (further e) fed → take (length fed) buffer ≡ fed
      → Holds e fed buffer
      (record {
        edition = number_of e;
        phase = phase_of (run (further e) (gap []) 0 fed);
        total = length fed;
        place = length fed;
        target = start_of (open_at (run (further e) (gap []) 0 fed));
        judged = judged_of fed (open_at (run (further e) (gap []) 0 fed));
      })

-- the state that a feeding starts with, asked with the number n; that it is right for no octets where n is an edition's is a law
-- (`Laws.StartHolds`)
abbrev pub start : ℕ → Feeding
start n = record { edition = n; phase = phase_of (gap []); total = 0; place = 0; target = 0; judged = 0 }

-- the state with another total and place: all else stays
abbrev pub moved_to : Feeding → ℕ → ℕ → Feeding
moved_to st n k =
    record { edition = st.edition; phase = st.phase; total = n; place = k; target = st.target; judged = st.judged }

-- one of the same edition that has counted n octets, with no fault among them
abbrev pub gone_on : Feeding → ℕ → ℕ → ℕ → ℕ → Feeding
gone_on st n p a q = record { edition = st.edition; phase = p; total = n; place = n; target = a; judged = q }

-- a phase in which a target is open (`Machine.phase_of`)
abbrev pub InTarget : ℕ → Type 0
InTarget p = (1 ≤ p) × (p ≤ 3)

-- the start of the open target that a state names, or the end of what counted, if that comes first
abbrev pub start_in : Feeding → ℕ
start_in st = min st.target st.total

-- a feed on the state st, of one part, with a buffer
module _ (st : Feeding) (part buffer : List ℕ) where
  -- What it answers and leaves, in an edition that there is, whatever the state and the buffer are otherwise. Where no fault is
  -- remembered and the total stays within the limit, it is free whether the part is faulty, closes a target that was open before it and
  -- is told to be no reference, or is stored, and so is what these cases take in braces: the place of the fault in the part, and where
  -- reading stands behind it. Nothing else is free: every fault that is told is remembered.
  pub data AnyFeed : FeedOut → Feeding → Type 0 where
    small_buffer : length buffer < limit → AnyFeed (unstored buffer no_output_room_number 0) st
    too_long : limit ≤ length buffer → limit < st.total + length part
        → AnyFeed (unstored buffer too_long_number 0) (moved_to st (suc limit) st.place)
    remembered : limit ≤ length buffer → st.total + length part ≤ limit → st.place < st.total
        → AnyFeed (unstored buffer malformed_header_number st.place) (moved_to st (st.total + length part) st.place)
    faulty : {k : ℕ} → limit ≤ length buffer → st.total + length part ≤ limit → st.total ≤ st.place → k < length part
        → AnyFeed (unstored buffer malformed_header_number (st.total + k))
        (moved_to st (st.total + length part) (st.total + k))
    unfit : limit ≤ length buffer → st.total + length part ≤ limit → st.total ≤ st.place → InTarget st.phase → 0 < length part
        → AnyFeed (unstored buffer malformed_header_number (start_in st)) (moved_to st (st.total + length part) (start_in st))
    stored : {p a q : ℕ} → limit ≤ length buffer → st.total + length part ≤ limit → st.total ≤ st.place
        → a ≤ st.total + length part
        → AnyFeed
        (record {
          number = done;
          place = 0;
          buffer = take st.total buffer ++ part ++ drop (st.total + length part) buffer;
        })
        (gone_on st (st.total + length part) p a q)

  -- What a feed promises in the edition e: of a state and a buffer as they were handed out, the outcome on all octets, and again such a
  -- state and buffer; of all others what holds of any.
  pub record FeedsIn (e : Edition) (o : FeedOut) (next : Feeding) : Type 0 where
    pub answers : (fed : List ℕ) → Holds e fed buffer st → FeedIn e fed part buffer o
    pub holds : (fed : List ℕ) → Holds e fed buffer st → Holds e (counted fed part buffer) o.buffer next
    pub any : AnyFeed o next

  -- in the edition that the state names; where there is none, the state stays too
  abbrev pub Feeds : FeedOut → Feeding → Type 0
  Feeds o next =
      InEdition {A = FeedOut × Feeding} st.edition (λ k. (unstored buffer k 0, st)) (λ e w. FeedsIn e w.0 w.1)
      (o, next)

-- the finish on the state st, with a buffer and tables that hold L and P
module _ (st : Feeding) (buffer L P : List ℕ) where
  -- What it answers and leaves in the edition e, whatever the state and the buffer are otherwise. Nothing is free.
  pub data AnyFinish (e : Edition) : ReadOut → Type 0 where
    no_buffer : length buffer < limit → AnyFinish e (refused L P no_output_room_number 0)
    too_long : limit ≤ length buffer → limit < st.total → AnyFinish e (refused L P too_long_number 0)
    remembered : limit ≤ length buffer → st.total ≤ limit → st.place < st.total
        → AnyFinish e (refused L P malformed_header_number st.place)
    reads : {o : ReadOut} → limit ≤ length buffer → st.total ≤ limit → st.total ≤ st.place
        → ReadIn e (take st.total buffer) L P o → AnyFinish e o

  -- what the finish promises, in the same way
  pub record FinishesIn (e : Edition) (o : ReadOut) : Type 0 where
    pub answers : (fed : List ℕ) → Holds e fed buffer st → FinishIn e fed buffer L P o
    pub any : AnyFinish e o

  abbrev pub Finishes : ReadOut → Type 0
  Finishes = InEdition st.edition (λ k. refused L P k 0) FinishesIn
