-- Behind a list of feeds, the state and the buffer that are handed out are right for the octets of all its parts.
use Prim.Native.Nat.{ℕ, ◌+◌, ◌≤◌, ◌<◌}
use native.Mathlib.Omega.{arith}
use mathlib.Core.Path.{◌≡◌, refl, sym, ap, subst, ◌∙◌}
use mathlib.Core.Bool.{Bool, cond}
use mathlib.Core.List.{List, [], ◌∷◌, ◌++◌, append_assoc, append-nil}
use lib.ListN.{length, take, drop, length-append, length-take, length-drop}
use borrow.Author.Tests.{le-ltb}
use Rattle.octets.specs.Editions.{number_of, NoEdition}
use Rattle.octets.specs.declared.editions.Edition.{Edition}
use Rattle.outcomes.specs.Number.{limit}
use Rattle.outcomes.specs.Feed.{FeedOut}
use Rattle.outcomes.specs.Feeding.{Feeding, Holds, over, stuck, begun, start, FeedsIn, Feeds, FinishesIn, Finishes}
use Rattle.outcomes.specs.Feeding.{AnyFeed, small_buffer, too_long, remembered, faulty, unfit, stored}
use Rattle.outcomes.specs.Read.{ReadOut}
use Rattle.outcomes.proofs.InEdition.{in_known, in_unknown}
use Rattle.outcomes.proofs.FeedSettled.{start_holds}
use Rattle.laws.specs.Feedings.{whole, HandedOut, started, fed, refused, UnknownForGood}

pub whole_more : (ps : List (List ℕ)) (part : List ℕ) → whole (ps ++ part ∷ []) ≡ whole ps ++ part
whole_more [] part = append-nil part
whole_more (p ∷ ps) part = ap (λ (s : List ℕ). p ++ s) (whole_more ps part) ∙ sym (append_assoc p (whole ps) part)

module _ {st : Feeding} {part buffer : List ℕ} where
  -- a buffer that is long enough stays so
  long_still : {o : FeedOut} {next : Feeding} → limit ≤ length buffer → AnyFeed st part buffer o next → limit ≤ length o.buffer
  long_still h (small_buffer l) = h
  long_still h (too_long _ l) = h
  long_still h (remembered _ s k) = h
  long_still h (faulty _ s k i) = h
  long_still h (unfit _ s k _ _) = h
  long_still h (stored _ s k _) =
      let n = st.total in
      let behind = drop (n + length part) buffer in
      omega (
        arith,
        length-append (take n buffer ++ part) behind,
        length-append (take n buffer) part,
        length-take n buffer,
        length-drop (n + length part) buffer,
      )

  -- a feed that is refused for its buffer keeps the state
  state_still : {o : FeedOut} {next : Feeding} → length buffer < limit → AnyFeed st part buffer o next → st ≡ next
  state_still h (small_buffer l) = refl
  state_still h (too_long l _) = absurd (omega arith)
  state_still h (remembered l _ _) = absurd (omega arith)
  state_still h (faulty l _ _ _) = absurd (omega arith)
  state_still h (unfit l _ _ _ _) = absurd (omega arith)
  state_still h (stored l _ _ _) = absurd (omega arith)

-- what a state that is right promises of a feed and of the finish, in its edition
its_edition : {e : Edition} {octets buffer : List ℕ} {st : Feeding} → Holds e octets buffer st → number_of e ≡ st.edition
its_edition (over l) = refl
its_edition (stuck l n p) = refl
its_edition (begun l b t) = refl

pub feeds_in : (e : Edition) {octets b part buffer : List ℕ} {st next : Feeding} {o : FeedOut} → Holds e octets b st
    → Feeds st part buffer o next → FeedsIn st part buffer e o next
feeds_in e {next = next} {o = o} h f = in_known (its_edition h) f

pub finishes_in : (e : Edition) {octets b buffer L P : List ℕ} {st : Feeding} {o : ReadOut} → Holds e octets b st
    → Finishes st buffer L P o → FinishesIn st buffer L P e o
finishes_in e h f = in_known (its_edition h) f

-- the state is right for the octets, and the buffer long enough for every feed and for the finish
pub record Right (e : Edition) (octets buffer : List ℕ) (st : Feeding) : Type 0 where
  pub holds : Holds e octets buffer st
  pub room : limit ≤ length buffer

-- one feed more
right_more : (e : Edition) {octets part buffer : List ℕ} {st next : Feeding} {o : FeedOut} → Right e octets buffer st
    → Feeds st part buffer o next → Right e (octets ++ part) o.buffer next
right_more e {octets} {part} {buffer} {next = next} {o} r f =
    let g = feeds_in e r.holds f in
    record {
      holds =
          subst (λ (b : Bool). Holds e (cond b octets (octets ++ part)) o.buffer next) (le-ltb (length buffer) limit r.room)
          (g.holds octets r.holds);
      room = long_still r.room g.any;
    }

-- any list of them; the feeds refused in between had another buffer, and kept the state
pub handed_right : (e : Edition) {ps : List (List ℕ)} {buffer : List ℕ} {st : Feeding} → HandedOut (number_of e) ps buffer st
    → Right e (whole ps) buffer st
handed_right e (started {buffer} h) = record { holds = start_holds e buffer; room = h }
handed_right e (fed {ps} {part = part} {next = next} {o} d f) =
    subst (λ (s : List ℕ). Right e s o.buffer next) (sym (whole_more ps part)) (right_more e (handed_right e d) f)
handed_right e (refused {ps} {buffer} d l f) =
    let r = handed_right e d in
    subst (λ (s : Feeding). Right e (whole ps) buffer s) (state_still l (feeds_in e r.holds f).any) r

-- where the number is no edition's, a feed keeps the state
kept : {n : ℕ} {part buffer : List ℕ} {st next : Feeding} {o : FeedOut} → NoEdition n → st ≡ start n
    → Feeds st part buffer o next → next ≡ start n
kept z u f =
    ap (λ w. w.1) (in_unknown (subst (λ (k : ℕ). NoEdition k) (sym (ap (λ (s : Feeding). s.edition) u)) z) f) ∙ u

pub unknown_for_good : UnknownForGood
unknown_for_good n z _ _ _ (started h) = refl
unknown_for_good n z _ _ _ (fed {ps} {buffer} {st = su} d f) = kept z (unknown_for_good n z ps buffer su d) f
unknown_for_good n z _ _ _ (refused {ps} {buffer} {st = su} d l f) = kept z (unknown_for_good n z ps buffer su d) f
