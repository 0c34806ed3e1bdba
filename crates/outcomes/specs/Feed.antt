-- A header that arrives in parts. Each feed takes one part, and a lent buffer gathers the octets; the finish reads them. What counts
-- are the octets of all feeds in order, wherever the cuts fell: those of feeds refused with 1 or 2 too, those refused with 10 or 7 not.
-- The numbers come in the order 10, 7, 1, 2, and behind them those of reading.
use Rattle.std.specs.Prelude.{ℕ, ◌≤◌, ◌<◌, cond, List, ◌++◌, ltb, length, drop}
use Rattle.octets.specs.Editions.{further}
use Rattle.octets.specs.declared.editions.Edition.{Edition}
use Rattle.grammar.specs.Place.{Begun, Place}
use Rattle.outcomes.specs.Number.{limit, done, too_long_number, malformed_header_number, no_output_room_number}
use Rattle.outcomes.specs.Read.{ReadOut, refused, ReadIn}
use Rattle.outcomes.specs.InEdition.{InEdition}

-- in an edition that there is, the octets that count behind a feed of `part`, where `fed` counted before it: with a buffer under the
-- limit no more than before
abbrev pub counted : List ℕ → List ℕ → List ℕ → List ℕ
counted fed part buffer = cond (ltb (length buffer) limit) fed (fed ++ part)

-- both numbers answered, and what the gathering buffer holds afterwards
pub record FeedOut : Type 0 where
  pub number : ℕ
  pub place : ℕ
  pub buffer : List ℕ

-- refused with number n at place k (0 unless the octets are malformed), the buffer is left as it was
abbrev pub unstored : List ℕ → ℕ → ℕ → FeedOut
unstored buffer n k = record { number = n; place = k; buffer = buffer }

-- the octets h at the buffer's start, and behind them what it held
abbrev pub gathering : List ℕ → List ℕ → FeedOut
gathering h buffer = record { number = done; place = 0; buffer = h ++ drop (length h) buffer }

-- behind the octets `fed`, one part more, with a gathering buffer, in the edition e
module _ (e : Edition) (fed part buffer : List ℕ) where
  pub data FeedIn : FeedOut → Type 0 where
    small_buffer : length buffer < limit → FeedIn (unstored buffer no_output_room_number 0)
    too_long : limit ≤ length buffer → limit < length (fed ++ part) → FeedIn (unstored buffer too_long_number 0)
    -- something is wrong with the octets so far: they begin no header, or a target that is closed among them is no reference
    wrong_so_far : {k : ℕ} → limit ≤ length buffer → length (fed ++ part) ≤ limit → (Begun (further e) (fed ++ part) → ⊥)
        → Place (further e) (fed ++ part) k → FeedIn (unstored buffer malformed_header_number k)
    right_so_far : limit ≤ length buffer → length (fed ++ part) ≤ limit → Begun (further e) (fed ++ part)
        → FeedIn (gathering (fed ++ part) buffer)

-- the end of the octets `fed`, with their gathering buffer and tables that hold L and P, in the edition e
module _ (e : Edition) (fed buffer L P : List ℕ) where
  pub data FinishIn : ReadOut → Type 0 where
    no_buffer : length buffer < limit → FinishIn (refused L P no_output_room_number 0)
    as_read : {o : ReadOut} → limit ≤ length buffer → ReadIn e fed L P o → FinishIn o

-- both, where the start was asked with the number n of an edition
abbrev pub Feed : ℕ → List ℕ → List ℕ → List ℕ → FeedOut → Type 0
Feed n fed part buffer = InEdition n (λ k. unstored buffer k 0) (λ e. FeedIn e fed part buffer)

abbrev pub Finish : ℕ → List ℕ → List ℕ → List ℕ → List ℕ → ReadOut → Type 0
Finish n fed buffer L P = InEdition n (λ k. refused L P k 0) (λ e. FinishIn e fed buffer L P)
