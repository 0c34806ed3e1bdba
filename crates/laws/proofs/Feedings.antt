-- What feeds and the finish answer one behind another: each of them answers what is promised of the octets of all parts before it.
use Prim.Native.Nat.{ℕ, ◌≤◌, ◌<◌}
use native.Mathlib.Omega.{arith}
use mathlib.Core.Path.{◌≡◌, refl, sym, ap, subst, ◌∙◌}
use mathlib.Core.Logic.{◌⊎◌, inl, inr}
use mathlib.Core.List.{List, [], ◌∷◌, ◌++◌, append_assoc}
use lib.ListN.{length, length-append}
use Rattle.octets.specs.Editions.{number_of, further, NoEdition}
use Rattle.octets.specs.declared.editions.Edition.{Edition}
use Rattle.grammar.specs.Place.{Begun, Place}
use Rattle.grammar.proofs.Editions.{apart}
use Rattle.grammar.proofs.Growing.{begun_front, still_stuck}
use Rattle.grammar.proofs.Places.{cut_short}
use Rattle.outcomes.specs.Number.{limit, too_long_number, malformed_header_number}
use Rattle.outcomes.specs.Read
use Rattle.outcomes.specs.Read.{ReadOut, Read, ReadIn, not_derived, no_link_room, no_param_room, reads}
use Rattle.outcomes.specs.InEdition.{unknown, known}
use Rattle.outcomes.specs.Feed.{FeedOut, Feed, FeedIn, small_buffer, too_long, wrong_so_far, right_so_far, FinishIn, no_buffer, as_read}
use Rattle.outcomes.specs.Feeding.{Feeding, Holds, over, stuck, begun, Feeds, Finishes}
use Rattle.outcomes.proofs.InEdition.{edition_or_none, in_unknown}
use Rattle.outcomes.proofs.ReadSettled.{read_in, read_settled}
use Rattle.outcomes.proofs.FeedSettled.{feed_in}
use Rattle.laws.specs.Feedings.{
  whole,
  HandedOut,
  FinishReads,
  CutsDontMatter,
  CutShortFinishes,
  FeedAnswers,
  Tells,
  FeedTells,
  PlaceStays,
  TooLongForGood,
}
use Rattle.laws.proofs.HandedRight.{whole_more, Right, handed_right, feeds_in, finishes_in, unknown_for_good}

-- the finish, with a state and a buffer that are right for the octets
finish_reads_of : (e : Edition) {octets buffer L P : List ℕ} {st : Feeding} {o : ReadOut} → Right e octets buffer st
    → Finishes st buffer L P o → ReadIn e octets L P o
finish_reads_of e {octets} {buffer} {L} {P} r f = go r.room ((finishes_in e r.holds f).answers octets r.holds)
  where
    go : {o : ReadOut} → limit ≤ length buffer → FinishIn e octets buffer L P o → ReadIn e octets L P o
    go h (no_buffer l) = absurd (omega arith)
    go h (as_read _ a) = a

-- behind a start with a number that is no edition's, the state names none
none_named : {n : ℕ} {ps : List (List ℕ)} {buffer : List ℕ} {st : Feeding} → NoEdition n → HandedOut n ps buffer st
    → NoEdition st.edition
none_named {n} {ps} {buffer} {st} z d =
    subst (λ (s : Feeding). NoEdition s.edition) (sym (unknown_for_good n z ps buffer st d)) z

pub finish_reads : FinishReads
finish_reads n ps buffer st d L P o f = go (edition_or_none n) d
  where
    go : ((e : Edition) × (number_of e ≡ n)) ⊎ NoEdition n → HandedOut n ps buffer st → Read n (whole ps) L P o
    go (inl (e, q)) d =
        known q (finish_reads_of e (handed_right e (subst (λ (k : ℕ). HandedOut k ps buffer st) (sym q) d)) f)
    go (inr z) d = subst (Read n (whole ps) L P) (sym (in_unknown (none_named z d) f)) (unknown z)

pub cuts_dont_matter : CutsDontMatter
cuts_dont_matter n ps qs buffer other st su d e same L P o q f g =
    let one = (read_settled n (whole qs) L P).2 in
    let a : Read n (whole qs) L P o = subst (λ (s : List ℕ). Read n s L P o) same (finish_reads n ps buffer st d L P o f) in
    one o a ∙ sym (one q (finish_reads n qs other su e L P q g))

pub cut_short_finishes : CutShortFinishes
cut_short_finishes e ps buffer st d s b m L P o f =
    let one = (read_in e (whole ps) L P).2 in
    let cut = not_derived s (record { malformed = m; place = cut_short (further e) (whole ps) b }) in
    one o (finish_reads_of e (handed_right e d) f) ∙ sym (one _ cut)

-- within the limit 2 is answered of octets of which something is wrong, and of no others
tells : {e : Edition} {octets part buffer : List ℕ} {o : FeedOut} → limit ≤ length buffer → length (octets ++ part) ≤ limit
    → FeedIn e octets part buffer o → Tells e (octets ++ part) o
tells h s (small_buffer l) = absurd (omega arith)
tells h s (too_long _ l) = absurd (omega arith)
tells h s (wrong_so_far _ _ n k) = record { wrong = λ _. n; told = λ _. refl }
tells h s (right_so_far _ _ b) = record { wrong = λ e _. omega arith; told = λ n. absurd (n b) }

-- a feed behind any list of parts, in an edition
pub feed_answers_in : (e : Edition) {ps : List (List ℕ)} {part buffer : List ℕ} {st next : Feeding} {o : FeedOut}
    → HandedOut (number_of e) ps buffer st → Feeds st part buffer o next → FeedIn e (whole ps) part buffer o
feed_answers_in e {ps} d f = let h = (handed_right e d).holds in (feeds_in e h f).answers (whole ps) h

pub feed_answers : FeedAnswers
feed_answers n ps part buffer st next o d f = go (edition_or_none n) d
  where
    go : ((e : Edition) × (number_of e ≡ n)) ⊎ NoEdition n → HandedOut n ps buffer st → Feed n (whole ps) part buffer o
    go (inl (e, q)) d = known q (feed_answers_in e (subst (λ (k : ℕ). HandedOut k ps buffer st) (sym q) d) f)
    go (inr z) d =
        subst (Feed n (whole ps) part buffer) (sym (ap (λ w. w.0) (in_unknown (none_named z d) f))) (unknown z)

pub feed_tells : FeedTells
feed_tells e ps part buffer st next o d f s = tells (handed_right e d).room s (feed_answers_in e d f)

-- 2 is answered with the place of octets of which something is wrong
stuck_if : {e : Edition} {octets part buffer : List ℕ} {o : FeedOut} → FeedIn e octets part buffer o → o.number ≡ malformed_header_number
    → (Begun (further e) (octets ++ part) → ⊥) × Place (further e) (octets ++ part) o.place
stuck_if (small_buffer l) e = absurd (omega arith)
stuck_if (too_long _ l) e = absurd (omega arith)
stuck_if (wrong_so_far _ _ n k) e = (n, k)
stuck_if (right_so_far _ _ b) e = absurd (omega arith)

-- the octets of parts listed behind others
whole_behind : (ps : List (List ℕ)) (part : List ℕ) (qs : List (List ℕ)) (more : List ℕ)
    → whole (ps ++ part ∷ qs) ++ more ≡ (whole ps ++ part) ++ (whole qs ++ more)
whole_behind [] part qs more = append_assoc part (whole qs) more
whole_behind (p ∷ ps) part qs more =
    append_assoc p (whole (ps ++ part ∷ qs)) more ∙ ap (λ (u : List ℕ). p ++ u) (whole_behind ps part qs more)
    ∙ sym (append_assoc p (whole ps ++ part) (whole qs ++ more))
    ∙ ap (λ (u : List ℕ). u ++ (whole qs ++ more)) (sym (append_assoc p (whole ps) part))

pub place_stays : PlaceStays
place_stays e ps qs part more buffer other st next su after o q d f m g h s =
    let (n, p) = stuck_if (feed_answers_in e d f) m in
    let w = whole_behind ps part qs more in
    let u = whole ps ++ part in
    let v = whole qs ++ more in
    let none : Begun (further e) (whole (ps ++ part ∷ qs) ++ more) → ⊥ = rw w (λ b. n (begun_front (apart e) u v b)) in
    let place : Place (further e) (whole (ps ++ part ∷ qs) ++ more) o.place = rw w (still_stuck (apart e) n v p) in
    let one = (feed_in e (whole (ps ++ part ∷ qs)) more other).2 in
    one q (feed_answers_in e g h) ∙ sym (one _ (wrong_so_far (handed_right e g).room s none place))

-- 1 is answered of too many octets alone
long_if : {e : Edition} {octets part buffer : List ℕ} {o : FeedOut} → FeedIn e octets part buffer o → o.number ≡ too_long_number
    → limit < length (octets ++ part)
long_if (small_buffer l) e = absurd (omega arith)
long_if (too_long _ l) e = l
long_if (wrong_so_far _ _ n k) e = absurd (omega arith)
long_if (right_so_far _ _ b) e = absurd (omega arith)

-- and always of them, where there is a buffer
long_feed : {e : Edition} {octets part buffer : List ℕ} {o : FeedOut} → limit ≤ length buffer → limit < length (octets ++ part)
    → FeedIn e octets part buffer o → o.number ≡ too_long_number
long_feed h l (small_buffer s) = absurd (omega arith)
long_feed h l (too_long _ _) = refl
long_feed h l (wrong_so_far _ s _ _) = absurd (omega arith)
long_feed h l (right_so_far _ s _) = absurd (omega arith)

long_read : {e : Edition} {octets L P : List ℕ} {o : ReadOut} → limit < length octets → ReadIn e octets L P o → o.number ≡ too_long_number
long_read l (Read.too_long _) = refl
long_read l (not_derived s _) = absurd (omega arith)
long_read l (no_link_room s _ _) = absurd (omega arith)
long_read l (no_param_room s _ _ _) = absurd (omega arith)
long_read l (reads s _ _ _) = absurd (omega arith)

-- a state of too many octets is right for any buffer
over_anywhere : {e : Edition} {octets buffer : List ℕ} {st : Feeding} → limit < length octets → Holds e octets buffer st
    → (other : List ℕ) → Holds e octets other st
over_anywhere l (over m) other = over m
over_anywhere l (stuck m _ _) other = absurd (omega arith)
over_anywhere l (begun m _ _) other = absurd (omega arith)

pub too_long_for_good : (e : Edition) → TooLongForGood e
too_long_for_good e =
    record {
      passed =
          λ ps part buffer st next o d f m.
          rw (whole_more ps part) (long_if (feed_answers_in e d f) m);
      feeds =
          λ ps buffer st d l part other o next h f.
          let r = over_anywhere l (handed_right e d).holds other in
          long_feed h (omega (arith, length-append (whole ps) part)) ((feeds_in e r f).answers (whole ps) r);
      finishes =
          λ ps buffer st d l other L P o h f.
          long_read l
          (finish_reads_of e (record { holds = over_anywhere l (handed_right e d).holds other; room = h }) f);
    }
