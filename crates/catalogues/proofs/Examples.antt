-- The examples hold: what is answered is computed. Assumes nothing.
use Prim.Native.Nat.{ℕ, ◌≤◌}
use native.Mathlib.Omega.{arith}
use native.Mathlib.Decide.{dec_le}
use mathlib.Core.Path.{◌≡◌, refl, subst}
use mathlib.Core.Bool.{Bool, true, false, ◌&&◌}
use mathlib.Core.List.{List, [], ◌∷◌, map, head-eq_of_cons-eq, tail-eq_of_cons-eq}
use lib.ListN.{length}
use lib.Seq.{slice}
use lib.IntN.{ℤ, nat_abs}
use borrow.Author.Tests.{lt-leb}
use Rattle.octets.specs.Sets.{is_blank, is_digit, is_letter, is_token, is_plain, is_escapable, is_target, is_hex}
use Rattle.octets.specs.Fold.{fold, same_folded}
use Rattle.octets.specs.Text.{octets}
use Rattle.grammar.specs.Kept.{name_of, code_of, is_once}
use Rattle.tables.specs.Good.{Each, each_none, each_more}
use Rattle.tables.specs.Meaning.{unescape, value_of}
use Rattle.tables.specs.Relation.{runs, relations, has_relation}
use Rattle.resolution.specs.Resolve.{resolved}
use Rattle.outcomes.specs.Number.{limit, no_such_link_number, no_output_room_number, out_of_range_number, bad_catalogue_number}
use Rattle.catalogues.specs.Packs.{Pack, Room, Catalogue}
use Rattle.catalogues.specs.Walks as steps
use Rattle.catalogues.specs.Walks.{relation_of}
use Rattle.catalogues.specs.Outcome.{
  step_limit,
  WalkOut,
  refused,
  walked,
  Walk,
  out_of_range,
  bad_catalogue,
  no_such_pack,
  no_room,
}
use Rattle.catalogues.specs.Outcome as outcome
use Rattle.catalogues.specs.Examples.{Example, walks, refusals, room, Holds, ExamplesHold}
use Rattle.catalogues.proofs.Decided.{catalogue_decided}

-- ---- what is answered, case by case

module _ (text : List ℕ) (room : Room) (start : ℕ) (n : ℤ) where
  abbrev Answer : Type 0
  Answer = (o : WalkOut) × Walk text room start n o

  abbrev over : (ps : List Pack) → nat_abs n ≤ step_limit → Catalogue room text ps → Dec (length ps ≤ start)
      → Dec (limit ≤ room.octets) → Answer
  over ps h c (yes l) r = (refused no_such_link_number, no_such_pack h c l)
  over ps h c (no l) (no r) = (refused no_output_room_number, no_room h c (omega arith) (omega arith))
  over ps h c (no l) (yes r) = (walked (steps.walk ps (relation_of n) (nat_abs n) start), outcome.walks h c (omega arith) r)

  abbrev within : Dec (nat_abs n ≤ step_limit) → Dec ((ps : List Pack) × Catalogue room text ps) → Answer
  within (no h) c = (refused out_of_range_number, out_of_range (omega arith))
  within (yes h) (no c) = (refused bad_catalogue_number, bad_catalogue h (λ ps d. c (ps, d)))
  within (yes h) (yes c) = over c.0 h c.1 (dec_le (length c.0) start) (dec_le limit room.octets)

  answer : Answer
  unfolding dec_le catalogue_decided
  answer = within (dec_le (nat_abs n) step_limit) (catalogue_decided room text)

-- ---- the examples

abbrev answer_of : Example → WalkOut
answer_of r = (answer (octets r.text) room r.start r.steps).0

all_hold : (rs : List Example) → map answer_of rs ≡ map (λ r. r.outcome) rs → Each Holds rs
all_hold [] e = each_none
all_hold (r ∷ rs) e =
    each_more
    (subst (Walk (octets r.text) room r.start r.steps) (head-eq_of_cons-eq e)
    (answer (octets r.text) room r.start r.steps).1)
    (all_hold rs (tail-eq_of_cons-eq e))

rows_hold : Each Holds walks × Each Holds refusals
unfolding answer is_blank is_digit is_letter is_token is_plain is_escapable is_target is_hex fold same_folded name_of code_of is_once unescape value_of runs relations has_relation steps.walk
rows_hold = (all_hold walks refl, all_hold refusals refl)

neither : (b : Bool) → (b && false) ≡ false
neither true = refl
neither false = refl

pub examples_hold : ExamplesHold
examples_hold =
    record {
      walks = rows_hold.0;
      refusals = rows_hold.1;
      most = λ room text ps c. (c.short, c.few);
      as_many = λ room ps r d s f. record { short = s; lines = refl; few = f; right = r; distinct = d };
      long_uri = λ ps p l h. rw (lt-leb (length p.uri) limit h) refl;
      long_target =
          λ ps p l h.
          rw (lt-leb (length (resolved p.uri (slice l.target_from l.target_to p.value))) limit h, neither) refl;
      ends = refl;
    }
