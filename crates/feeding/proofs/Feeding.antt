-- What a feed answers and leaves, where it is refused, and where a part was scanned.
use Prim.Native.Nat.{ℕ, suc, ◌+◌, ◌≤◌, ◌<◌, min}
use native.Mathlib.Omega.{arith}
use mathlib.Core.Path.{◌≡◌, refl, sym, ap, subst, subst₂, ◌∙◌}
use mathlib.Core.Bool.{true}
use mathlib.Core.Logic.{◌⊎◌, inl, inr}
use mathlib.Core.List.{List, ◌++◌}
use lib.ListN.{length, take, drop, get_or, length-append}
use lib.Seq.{slice, sets, sets-eq, take-length, take-append_seam}
use borrow.Author.Tests.{lt-ltb, le-ltb}
use Rattle.octets.specs.Editions.{number_of, further}
use Rattle.octets.specs.declared.editions.Edition.{Edition}
use Rattle.grammar.specs.Grammar.{Extra}
use Rattle.grammar.specs.Place.{Begun, Place}
use Rattle.outcomes.specs.Number.{limit, done, too_long_number, malformed_header_number, no_output_room_number}
use Rattle.outcomes.specs.Feed as fed
use Rattle.outcomes.specs.Feed.{counted, unstored, FeedIn}
use Rattle.outcomes.specs.Feeding as any
use Rattle.outcomes.specs.Feeding.{Feeding, Holds, over, stuck, begun, moved_to, gone_on, start_in, start_of, judged_of, AnyFeed, FeedsIn}
use Rattle.kinds.specs.declared.Place.{Place as PlaceOf}
use Rattle.part_scan.specs.declared.PartScan.{PartScan}
use Rattle.phases.specs.declared.spot.Spot.{Spot}
use Rattle.phases.specs.Spots.{Leads, spot, normal, is_open, onward}
use Rattle.grammar.specs.Machine.{phase_of, open_at}
use Rattle.part_scan.specs.declared.PartScan.TheVariants.{Through, Stuck, Unfit}
use Rattle.part_scan.specs.Moved.{Halts, Refuses, PartScanned, through, stuck_at, unfit_at}
use Rattle.part_scan.proofs.Normals.{normal_is_normal}
use Rattle.part_scan.proofs.Starts.{refused_since, start_within}
use Rattle.feeding.specs.Taking.{Takes, held_spot}
use Rattle.grammar.proofs.Editions.{apart}
use Rattle.grammar.proofs.Growing.{begun_front, before_end, still_stuck, place_before}
use Rattle.feeding.proofs.SpotSteps.{spot_in}
use Rattle.grammar.proofs.Closing.{state_end, starts_before}
use Rattle.grammar.proofs.TargetsHeld.{OpenFrom}
use Rattle.feeding.proofs.Phases.{spot_normal, normal_target, normal_start, normal_phase, start_inside}
use Rattle.feeding.proofs.PartLed.{behind, part_spot, part_begun, part_place, part_refused}

-- with a buffer that is large enough, the part counts
all_count : (fed part buffer : List ℕ) → limit ≤ length buffer → counted fed part buffer ≡ fed ++ part
all_count fed part buffer h = rw (le-ltb (length buffer) limit h) refl

-- what is known where the total stays within the limit and no fault is remembered
pub record Open (ed : Edition) (octets buffer : List ℕ) (st : Feeding) : Type 0 where
  pub begins : Begun (further ed) octets
  pub gathered : take (length octets) buffer ≡ octets
  pub at_spot : held_spot st ≡ spot_in octets (behind (further ed) octets)
  pub total : st.total ≡ length octets
  pub edition : st.edition ≡ number_of ed

-- and where one is
pub record Faulty (ed : Edition) (octets : List ℕ) (st : Feeding) : Type 0 where
  pub none : Begun (further ed) octets → ⊥
  pub place : Place (further ed) octets st.place

-- the start of the target that is open behind some octets is no place behind them
start_of_lem : (extra : Extra) (u : List ℕ) → min (start_of (open_at (behind extra u))) (length u) ≡ start_of (open_at (behind extra u))
start_of_lem extra u =
    let h =
    start_inside (length u) (behind extra u)
    (subst (OpenFrom (λ (a : ℕ). a ≤ length u)) (state_end extra u)
    (starts_before extra u (length u) (length u) (omega arith) (omega arith)))
    in
    omega arith

module _ {ed : Edition} {octets buffer : List ℕ} where
  -- the edition of a state
  edition_is : {st : Feeding} → Holds ed octets buffer st → st.edition ≡ number_of ed
  edition_is (over l) = refl
  edition_is (stuck s m p) = refl
  edition_is (begun s b t) = refl

  -- a state of octets within the limit has their count
  total_is : {st : Feeding} (n : ℕ) → Holds ed octets buffer st → st.total + n ≤ limit → st.total ≡ length octets
  total_is n (over l) h = absurd (omega arith)
  total_is n (stuck s m p) h = refl
  total_is n (begun s b t) h = refl

  -- a state whose total passes the limit is of octets that do
  total_over : {st : Feeding} (part : List ℕ) → Holds ed octets buffer st → limit < st.total + length part
      → limit < length (octets ++ part)
  total_over part (over l) h = omega (arith, length-append octets part)
  total_over part (stuck s m p) h = omega (arith, length-append octets part)
  total_over part (begun s b t) h = omega (arith, length-append octets part)

  open_state : {st : Feeding} (n : ℕ) → Holds ed octets buffer st → st.total + n ≤ limit → st.total ≤ st.place
      → Open ed octets buffer st
  open_state n (over l) h k = absurd (omega arith)
  open_state n (stuck s m p) h k = absurd (omega (arith, before_end (apart ed) m p))
  open_state n (begun s b t) h k =
      record {
        begins = b;
        gathered = t;
        at_spot =
            ap (λ (a : ℕ). spot (phase_of (behind (further ed) octets)) a (judged_of octets (open_at (behind (further ed) octets))))
            (start_of_lem (further ed) octets);
        total = refl;
        edition = refl;
      }

  faulty_state : {st : Feeding} (n : ℕ) → Holds ed octets buffer st → st.total + n ≤ limit → st.place < st.total
      → Faulty ed octets st
  faulty_state n (over l) h k = absurd (omega arith)
  faulty_state n (stuck s m p) h k = record { none = m; place = p }
  faulty_state n (begun s b t) h k = absurd (omega arith)

-- a span that holds all of a part
pub all_of : (part : List ℕ) {a b : ℕ} → a ≡ 0 → b ≡ length part → slice a b part ≡ part
all_of part e f = rw (e, f) (take-length part)

-- what a scan found
module _ {extra : Extra} {part : List ℕ} {base : ℕ} {x : Spot} {r : PartScan} (w : PartScanned extra part base x r) where
  pub scan_stuck : {k : PlaceOf} → r ≡ Stuck k → Halts extra part base x 0 k.0
  scan_stuck e = go (subst (PartScanned extra part base x) e w)
    where
      go : {k : PlaceOf} → PartScanned extra part base x (Stuck k) → Halts extra part base x 0 k.0
      go (stuck_at h) = h

  pub scan_unfit : {t : PlaceOf} → r ≡ Unfit t → Refuses extra part base x 0 t.0
  scan_unfit e = go (subst (PartScanned extra part base x) e w)
    where
      go : {t : PlaceOf} → PartScanned extra part base x (Unfit t) → Refuses extra part base x 0 t.0
      go (unfit_at h) = h

  pub scan_through : {y : Spot} → r ≡ Through y → Leads extra part base x 0 y (length part)
  scan_through e = go (subst (PartScanned extra part base x) e w)
    where
      go : {y : Spot} → PartScanned extra part base x (Through y) → Leads extra part base x 0 y (length part)
      go (through l) = l

-- the total behind a part
sum : (t : ℕ) (octets part : List ℕ) → t ≡ length octets → t + length part ≡ length (octets ++ part)
sum t octets part e = omega (arith, length-append octets part)

-- a state of octets of which something is wrong, with its total written another way
stuck_of : {ed : Edition} {octets buffer : List ℕ} (st : Feeding) {t k : ℕ} → st.edition ≡ number_of ed → t ≡ length octets
    → length octets ≤ limit → (Begun (further ed) octets → ⊥) → Place (further ed) octets k → Holds ed octets buffer (moved_to st t k)
stuck_of {ed} {octets} {buffer} st {t} {k} f e s n q =
    subst₂
    (λ (x y : ℕ).
    Holds ed octets buffer
    (record { edition = x; phase = st.phase; total = y; place = k; target = st.target; judged = st.judged }))
    (sym f) (sym e) (stuck s n q)

module _ (ed : Edition) {st : Feeding} {part buffer : List ℕ} where
  pub too_small : length buffer < limit → FeedsIn st part buffer ed (unstored buffer no_output_room_number 0) st
  too_small l =
      record {
        answers = λ octets h. fed.small_buffer l;
        holds = λ octets h. rw (lt-ltb (length buffer) limit l) h;
        any = any.small_buffer l;
      }

  module _ (large : limit ≤ length buffer) where
    pub too_much : limit < st.total + length part
        → FeedsIn st part buffer ed (unstored buffer too_long_number 0) (moved_to st (suc limit) st.place)
    too_much l =
        record {
          answers = λ octets h. fed.too_long large (total_over part h l);
          holds = λ octets h. rw (all_count octets part buffer large, edition_is h) (over (total_over part h l));
          any = any.too_long large l;
        }

    module _ (short : st.total + length part ≤ limit) where
      -- octets of which something is wrong, with the place k
      faulty : {k : ℕ}
          → AnyFeed st part buffer (unstored buffer malformed_header_number k)
          (moved_to st (st.total + length part) k)
          → ((octets : List ℕ) → Holds ed octets buffer st
          → (Begun (further ed) (octets ++ part) → ⊥) × Place (further ed) (octets ++ part) k)
          → FeedsIn st part buffer ed (unstored buffer malformed_header_number k)
          (moved_to st (st.total + length part) k)
      faulty {k} a why =
          record {
            answers =
                λ octets h.
                fed.wrong_so_far large
                (omega (arith, sum st.total octets part (total_is (length part) h short)))
                (why octets h).0 (why octets h).1;
            holds =
                λ octets h.
                rw (all_count octets part buffer large)
                (stuck_of st (edition_is h) (sum st.total octets part (total_is (length part) h short))
                (omega (arith, sum st.total octets part (total_is (length part) h short)))
                (why octets h).0 (why octets h).1);
            any = a;
          }

      -- a fault is remembered
      pub still_faulty : st.place < st.total
          → FeedsIn st part buffer ed (unstored buffer malformed_header_number st.place)
          (moved_to st (st.total + length part) st.place)
      still_faulty l =
          faulty (any.remembered large short l)
          (λ octets h.
          let x = faulty_state (length part) h short l in
          (λ b. x.none (begun_front (apart ed) octets part b), still_stuck (apart ed) x.none part x.place))

-- a refusal's state, its total written another way
total_as : (st : Feeding) {next : Feeding} {r m k : ℕ} → next ≡ moved_to st r k → r ≡ m → next ≡ moved_to st m k
total_as st {k = k} n e = n ∙ ap (λ (t : ℕ). moved_to st t k) e

-- the same with the total as the code counts it
module _ (ed : Edition) (st : Feeding) {next : Feeding} (part : List ℕ) {buffer : List ℕ} {r : ℕ} (large : limit ≤ length buffer)
    (e : r ≡ min (st.total + length part) (suc limit))
    (n : next ≡ moved_to st r st.place) where
  pub counted_over : limit < r → FeedsIn st part buffer ed (unstored buffer too_long_number 0) next
  counted_over l = rw (total_as st {m = suc limit} n (omega arith)) (too_much ed large (omega arith))

  pub counted_faulty : r ≤ limit → st.place < st.total → FeedsIn st part buffer ed (unstored buffer malformed_header_number st.place) next
  counted_faulty h l = rw (total_as st {m = st.total + length part} n (omega arith)) (still_faulty ed large (omega arith) l)

module _ (ed : Edition) {st : Feeding} {part buffer : List ℕ} (t : Takes st part buffer) where
  -- where reading stands at the part's start
  start : Spot
  start = normal (held_spot st)

  -- and what is known of the octets before it
  found : (octets : List ℕ) → Holds ed octets buffer st → Open ed octets buffer st
  found octets h = open_state (length part) h t.short t.none_stuck

  start_is : (octets : List ℕ) → Open ed octets buffer st → start ≡ spot_in octets (behind (further ed) octets)
  unfolding start
  start_is octets o = ap normal o.at_spot ∙ spot_normal octets (behind (further ed) octets)

  -- the same with the octets before it counted
  counted_leads : (octets : List ℕ) → Open ed octets buffer st → {y : Spot} {k : ℕ} → Leads (further ed) part st.total start 0 y k
      → Leads (further ed) part (length octets) start 0 y k
  counted_leads octets o {y} {k} l = subst (λ (n : ℕ). Leads (further ed) part n start 0 y k) o.total l

  -- the part has a fault
  pub gets_stuck : {k : ℕ} → Halts (further ed) part st.total (normal (held_spot st)) 0 k
      → FeedsIn st part buffer ed (unstored buffer malformed_header_number (st.total + k)) (moved_to st (st.total + length part) (st.total + k))
  unfolding start
  gets_stuck {k} x =
      faulty ed t.large t.short (any.faulty t.large t.short t.none_stuck x.inside)
      (λ octets h.
      let o = found octets h in
      let p : Place (further ed) (octets ++ part) (st.total + k) =
      rw o.total
      (part_place (apart ed) octets part o.begins (start_is octets o) (counted_leads octets o x.leads) x.inside
      (rw o.total at x.nowhere))
      in (
        place_before (octets ++ part) p (omega (arith, x.inside, length-append octets part, o.total)),
        p,
      ))

  -- it closes a target that is no reference
  pub gets_refused : {k : ℕ} → Refuses (further ed) part st.total (normal (held_spot st)) 0 k
      → FeedsIn st part buffer ed (unstored buffer malformed_header_number k) (moved_to st (st.total + length part) k)
  unfolding start
  gets_refused {k} x =
      faulty ed t.large t.short (where_it_began (refused_since (get_or part x.place 0) x.leads x.refused))
      (λ octets h.
      let o = found octets h in
      let r =
      part_refused (apart ed) octets part o.begins (start_is octets o) (counted_leads octets o x.leads) x.inside
      (rw o.total at x.refused)
      in
      (r.1, subst (Place (further ed) (octets ++ part)) (rw o.total at x.start) r.0))
    where
      -- before the part, or in it
      where_it_began : (((onward (further ed) x.last (st.total + suc x.place) (get_or part x.place 0)).target.0 ≡ (normal (held_spot st)).target.0)
          × (is_open (normal (held_spot st)).phase ≡ true))
          ⊎ ((j : ℕ)
          × ((onward (further ed) x.last (st.total + suc x.place) (get_or part x.place 0)).target.0 ≡ st.total + j)
          × (j ≤ x.place))
          → AnyFeed st part buffer (unstored buffer malformed_header_number k) (moved_to st (st.total + length part) k)
      where_it_began (inl (e, o)) =
          let w : start_in st ≡ k = sym (normal_target (held_spot st) o) ∙ sym e ∙ x.start in
          subst (λ (n : ℕ). AnyFeed st part buffer (unstored buffer malformed_header_number n) (moved_to st (st.total + length part) n)) w
          (any.unfit t.large t.short t.none_stuck (normal_phase (held_spot st) o) (omega (arith, x.inside)))
      where_it_began (inr (j, e, m)) =
          let w : st.total + j ≡ k = sym e ∙ x.start in
          subst (λ (n : ℕ). AnyFeed st part buffer (unstored buffer malformed_header_number n) (moved_to st (st.total + length part) n)) w
          (any.faulty t.large t.short t.none_stuck (omega (arith, x.inside)))

  -- the part leads on, and is stored
  pub goes_on : {y : Spot} → Leads (further ed) part st.total (normal (held_spot st)) 0 y (length part)
      → FeedsIn st part buffer ed (record { number = done; place = 0; buffer = sets buffer st.total part })
      (gone_on st (st.total + length part) y.phase y.target.0 y.judged)
  unfolding start
  goes_on {y} l =
      record {
        answers = λ octets h. told octets (found octets h);
        holds = λ octets h. rw (all_count octets part buffer t.large) (held octets (found octets h));
        any = rw stored (any.stored t.large t.short t.none_stuck within);
      }
    where
      within : y.target.0 ≤ st.total + length part
      within = start_within (normal_is_normal (held_spot st)) (omega (arith, normal_start (held_spot st))) l

      stored : sets buffer st.total part ≡ take st.total buffer ++ part ++ drop (st.total + length part) buffer
      stored = sets-eq part buffer st.total (omega (arith, t.large, t.short))

      -- behind the octets gathered before
      is_gathered : (octets : List ℕ) → Open ed octets buffer st
          → sets buffer st.total part ≡ (octets ++ part) ++ drop (length (octets ++ part)) buffer
      is_gathered octets o =
          stored
          ∙ ap (λ (n : ℕ). take n buffer ++ part ++ drop (st.total + length part) buffer) o.total
          ∙ ap (λ (u : List ℕ). u ++ part ++ drop (st.total + length part) buffer) o.gathered
          ∙ ap (λ (n : ℕ). octets ++ part ++ drop n buffer) (sum st.total octets part o.total)

      begun_all : (octets : List ℕ) → Open ed octets buffer st → Begun (further ed) (octets ++ part)
      begun_all octets o =
          part_begun (apart ed) octets part o.begins (start_is octets o) (counted_leads octets o l)

      told : (octets : List ℕ) → Open ed octets buffer st
          → FeedIn ed octets part buffer (record { number = done; place = 0; buffer = sets buffer st.total part })
      told octets o =
          rw (is_gathered octets o)
          (fed.right_so_far t.large (omega (arith, t.short, sum st.total octets part o.total)) (begun_all octets o))

      held : (octets : List ℕ) → Open ed octets buffer st
          → Holds ed (octets ++ part) (sets buffer st.total part) (gone_on st (st.total + length part) y.phase y.target.0 y.judged)
      held octets o =
          rw (
            o.edition,
            sum st.total octets part o.total,
            part_spot (apart ed) octets part o.begins (start_is octets o) (counted_leads octets o l),
          )
          (begun (omega (arith, t.short, sum st.total octets part o.total)) (begun_all octets o)
          (ap (take (length (octets ++ part))) (is_gathered octets o) ∙ take-append_seam (octets ++ part) _))
