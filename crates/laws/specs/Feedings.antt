-- What feeds and the finish answer one behind another, over what each of them promises.
use Rattle.std.specs.Prelude.{ℕ, ◌≤◌, ◌<◌, ◌≡◌, List, [], ◌∷◌, ◌++◌, length, take}
use Rattle.octets.specs.Text.{octets}
use Rattle.octets.specs.Editions.{number_of, further, NoEdition}
use Rattle.octets.specs.declared.editions.Edition.{Edition}
use Rattle.grammar.specs.Place.{Begins, Begun, Faulty, NoneFaulty, Malformed}
use Rattle.outcomes.specs.Number.{limit, done, too_long_number, malformed_header_number}
use Rattle.outcomes.specs.Read.{ReadOut, refused as refusedAt, Read}
use Rattle.outcomes.specs.Feed.{FeedOut, unstored, Feed}
use Rattle.outcomes.specs.Feeding.{Feeding, Holds, start, Feeds, Finishes}

-- the octets of all parts in order
abbrev pub whole : List (List ℕ) → List ℕ
whole [] = []
whole (p ∷ ps) = p ++ whole ps

-- A state and a gathering buffer that come of a start with the number n and of feeds of the parts listed, in order, each handed what the
-- one before it handed out. In between, feeds with another buffer, under the limit, may have been refused; their parts are not listed. (Where n is
-- no edition's, every feed is refused, listed or not: then it makes no difference which parts there were.)
pub data HandedOut (n : ℕ) : List (List ℕ) → List ℕ → Feeding → Type 0 where
  started : {buffer : List ℕ} → limit ≤ length buffer → HandedOut n [] buffer (start n)
  fed : {ps : List (List ℕ)} {buffer part : List ℕ} {st next : Feeding} {o : FeedOut} → HandedOut n ps buffer st
      → Feeds st part buffer o next → HandedOut n (ps ++ part ∷ []) o.buffer next
  refused : {ps : List (List ℕ)} {buffer part small : List ℕ} {st next : Feeding} {o : FeedOut} → HandedOut n ps buffer st
      → length small < limit → Feeds st part small o next → HandedOut n ps buffer next

-- from a start with any number, any list of parts, and the finish: what it answers is what reading answers of their octets, asked with
-- the same number and the same tables
abbrev pub FinishReads : Type 0
FinishReads =
    (n : ℕ) (ps : List (List ℕ)) (buffer : List ℕ) (st : Feeding) → HandedOut n ps buffer st
    → (L P : List ℕ) (o : ReadOut) → Finishes st buffer L P o → Read n (whole ps) L P o

-- two lists of parts with the same octets, however they are cut and whatever the buffers held, finish alike
abbrev pub CutsDontMatter : Type 0
CutsDontMatter =
    (n : ℕ) (ps qs : List (List ℕ)) (buffer other : List ℕ) (st su : Feeding) → HandedOut n ps buffer st → HandedOut n qs other su
    → whole ps ≡ whole qs → (L P : List ℕ) (o q : ReadOut) → Finishes st buffer L P o → Finishes su other L P q → o ≡ q

-- the finish asked again, with the tables as it left them, answers and leaves the same
abbrev pub FinishAgain : Type 0
FinishAgain =
    (e : Edition) (octets buffer L P : List ℕ) (st : Feeding) (o q : ReadOut) → Holds e octets buffer st
    → Finishes st buffer L P o → Finishes st buffer o.link_slots o.param_slots q → q ≡ o

-- a header cut short, which feeds answer 0 of, is malformed at the finish, with the total as place
abbrev pub CutShortFinishes : Type 0
CutShortFinishes =
    (e : Edition) (ps : List (List ℕ)) (buffer : List ℕ) (st : Feeding) → HandedOut (number_of e) ps buffer st
    → length (whole ps) ≤ limit → Begun (further e) (whole ps) → Malformed (further e) (whole ps)
    → (L P : List ℕ) (o : ReadOut) → Finishes st buffer L P o → o ≡ refusedAt L P malformed_header_number (length (whole ps))

-- a feed behind any list of parts answers the outcome on all octets so far
abbrev pub FeedAnswers : Type 0
FeedAnswers =
    (n : ℕ) (ps : List (List ℕ)) (part buffer : List ℕ) (st next : Feeding) (o : FeedOut) → HandedOut n ps buffer st
    → Feeds st part buffer o next → Feed n (whole ps) part buffer o

-- 2 is answered exactly if something is wrong with the octets: no derivable header begins with them, or a target that is closed among
-- them is no reference
pub record Tells (e : Edition) (octets : List ℕ) (o : FeedOut) : Type 0 where
  pub wrong : o.number ≡ malformed_header_number → Begun (further e) octets → ⊥
  pub told : (Begun (further e) octets → ⊥) → o.number ≡ malformed_header_number

-- so does a feed within the limit, of all octets so far
abbrev pub FeedTells : Type 0
FeedTells =
    (e : Edition) (ps : List (List ℕ)) (part buffer : List ℕ) (st next : Feeding) (o : FeedOut)
    → HandedOut (number_of e) ps buffer st → Feeds st part buffer o next → length (whole ps ++ part) ≤ limit
    → Tells e (whole ps ++ part) o

-- the target from a to k is no reference, and every target that is closed before it is one
pub record FirstFaulty (e : Edition) (s : List ℕ) (a k : ℕ) : Type 0 where
  pub faulty : Faulty (further e) s a k
  pub first : (b j : ℕ) → j < k → Faulty (further e) s b j → ⊥

-- A target is judged when its `>` is fed. `still_open`: octets with which a header begins by the edition's rules alone are answered 0 if
-- their closed targets are references, whatever a target holds that is still open. `before`: so are a header's octets up to any place
-- that isn't behind the `>` of its first faulty target. `closed`: from the feed on that brings this `>`, 2 is answered with the place
-- where the target starts, in whichever part that lies and whatever follows. Of the last two `<1:a>` in three parts is a case.
pub record TargetsTold (e : Edition) : Type 0 where
  pub still_open : (ps : List (List ℕ)) (part buffer : List ℕ) (st next : Feeding) (o : FeedOut) → HandedOut (number_of e) ps buffer st
      → Feeds st part buffer o next → length (whole ps ++ part) ≤ limit → Begins (further e) (whole ps ++ part)
      → NoneFaulty (further e) (whole ps ++ part) → o.number ≡ done
  pub before : (ps : List (List ℕ)) (part buffer : List ℕ) (st next : Feeding) (o : FeedOut) → HandedOut (number_of e) ps buffer st
      → Feeds st part buffer o next → length (whole ps ++ part) ≤ limit → (header : List ℕ) (a k n : ℕ) → FirstFaulty e header a k
      → n ≤ k → whole ps ++ part ≡ take n header → o.number ≡ done
  pub closed : (ps : List (List ℕ)) (part buffer : List ℕ) (st next : Feeding) (o : FeedOut) → HandedOut (number_of e) ps buffer st
      → Feeds st part buffer o next → length (whole ps ++ part) ≤ limit → (a k : ℕ) → FirstFaulty e (whole ps ++ part) a k
      → o ≡ unstored buffer malformed_header_number a
  pub two_parts : (buffer : List ℕ) (st next : Feeding) (o : FeedOut) → HandedOut (number_of e) (octets "<1" ∷ []) buffer st
      → Feeds st (octets ":a") buffer o next → o.number ≡ done
  pub three_parts : (buffer : List ℕ) (st next : Feeding) (o : FeedOut)
      → HandedOut (number_of e) (octets "<1" ∷ octets ":a" ∷ []) buffer st → Feeds st (octets ">") buffer o next
      → o ≡ unstored buffer malformed_header_number 1

-- once a feed answers 2, later feeds within the limit answer 2 with the same place
abbrev pub PlaceStays : Type 0
PlaceStays =
    (e : Edition) (ps qs : List (List ℕ)) (part more buffer other : List ℕ) (st next su after : Feeding) (o q : FeedOut)
    → HandedOut (number_of e) ps buffer st → Feeds st part buffer o next → o.number ≡ malformed_header_number
    → HandedOut (number_of e) (ps ++ part ∷ qs) other su → Feeds su more other q after → length (whole (ps ++ part ∷ qs) ++ more) ≤ limit
    → q ≡ unstored other malformed_header_number o.place

-- Once a feed answers 1, the octets so far are over the limit; and then all later feeds, also of no octets, and the finish answer 1,
-- with any buffer that is large enough.
pub record TooLongForGood (e : Edition) : Type 0 where
  pub passed : (ps : List (List ℕ)) (part buffer : List ℕ) (st next : Feeding) (o : FeedOut) → HandedOut (number_of e) ps buffer st
      → Feeds st part buffer o next → o.number ≡ too_long_number → limit < length (whole (ps ++ part ∷ []))
  pub feeds : (ps : List (List ℕ)) (buffer : List ℕ) (st : Feeding) → HandedOut (number_of e) ps buffer st
      → limit < length (whole ps) → (part other : List ℕ) (o : FeedOut) (next : Feeding) → limit ≤ length other → Feeds st part other o next
      → o.number ≡ too_long_number
  pub finishes : (ps : List (List ℕ)) (buffer : List ℕ) (st : Feeding) → HandedOut (number_of e) ps buffer st
      → limit < length (whole ps) → (other L P : List ℕ) (o : ReadOut) → limit ≤ length other → Finishes st other L P o → o.number ≡ too_long_number

-- Of a state and a buffer that are right for some octets, all that a feed and the finish answer and leave is settled, the next state
-- too.
pub record OneAnswer : Type 0 where
  pub feed : (e : Edition) (octets part buffer : List ℕ) (st next more : Feeding) (o q : FeedOut) → Holds e octets buffer st
      → Feeds st part buffer o next → Feeds st part buffer q more → (o ≡ q) × (next ≡ more)
  pub finish : (e : Edition) (octets buffer L P : List ℕ) (st : Feeding) (o q : ReadOut) → Holds e octets buffer st
      → Finishes st buffer L P o → Finishes st buffer L P q → o ≡ q

-- Behind a start with a number that is no edition's, any feeds leave the state as it was started (that they and the finish answer 10 is
-- a law of the outcomes).
abbrev pub UnknownForGood : Type 0
UnknownForGood =
    (n : ℕ) → NoEdition n → (ps : List (List ℕ)) (buffer : List ℕ) (st : Feeding) → HandedOut n ps buffer st → st ≡ start n
