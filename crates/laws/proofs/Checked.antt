-- A row holds if one computed test passes: the header is run through the machine, and the table is asked and written.
use Prim.Native.Nat.{ℕ, ◌/◌, ◌≤◌, ◌<◌}
use native.Mathlib.Omega.{arith}
use mathlib.Core.Path.{◌≡◌, refl, sym, ap, subst, subst₂, ◌∙◌}
use mathlib.Core.Logic.{◌⊎◌, inl, inr}
use mathlib.Core.Bool.{Bool, true, false, ◌&&◌, ◌||◌, not, false≢true, true≢false}
use mathlib.Core.List.{List, [], ◌∷◌, ◌++◌, map, append-nil}
use mathlib.Core.Option.{Option, none, some}
use lib.Dec.{leb, ltb, eqb}
use lib.ListN.{length, drop}
use borrow.Author.Tests.{leb-true, ltb-true, eqb-true}
use Rattle.octets.specs.Fold.{same}
use Rattle.octets.specs.Editions.{number_of, further}
use Rattle.octets.specs.declared.editions.Edition.{Edition}
use Rattle.octets.proofs.Laws.{same_sound}
use Rattle.octets.proofs.Octets.{both, every, every_at}
use Rattle.grammar.specs.Link.{Link}
use Rattle.grammar.specs.Grammar.{Extra}
use Rattle.grammar.specs.Kept.{kept_link, Reading}
use Rattle.grammar.specs.Records.{link_width, param_width, link_room_of, param_room_of, link_records, param_records, count_params}
use Rattle.grammar.specs.Place.{MalformedAt}
use Rattle.grammar.proofs.Editions.{apart}
use Rattle.grammar.proofs.Readings.{read_reading}
use Rattle.tables.specs.Table.{Table}
use Rattle.tables.specs.Good.{Each, each_none, each_more, Good}
use Rattle.tables.proofs.Filled.{link_records_length, param_records_length}
use Rattle.tables.proofs.FromReading.{read_good}
use Rattle.outcomes.specs.Number.{limit, done}
use Rattle.outcomes.specs.InEdition.{known}
use Rattle.outcomes.specs.Usable.{Usable, usable}
use Rattle.outcomes.specs.Read.{Read, not_derived}
use Rattle.outcomes.specs.Read
use Rattle.outcomes.specs.Copy.{untouched, holding}
use Rattle.outcomes.specs.Search.{Search, has, found}
use Rattle.outcomes.specs.Write.{Write, written_form, relations_at, Related, no_relation, wrote}
use Rattle.laws.specs.Row.{Writing, writes, answers, Judgement, reads, malformed, Row, recorded_table, Writes, Fills, ReadHolds, Judged, RowHolds}
use Rattle.laws.proofs.References.{are_references, are_references_lem}
use Rattle.laws.proofs.Stopped.{read, either, close_of, stops, unfit, stops_at, unfit_at}

-- ---- the tests

abbrev pub recorded : List ℕ → List ℕ → List ℕ → Option (List Link) → Bool
recorded h ls ps none = false
recorded h ls ps (some R) =
    are_references h R && same (link_records 0 (map (kept_link h) R)) ls && same (param_records h (map (kept_link h) R)) ps

abbrev is_none : {A : Type 0} → List A → Bool
is_none [] = true
is_none (x ∷ xs) = false

abbrev asked : Table → List (List ℕ) → Bool
asked t [] = true
asked t (q ∷ qs) = has t q 0 && asked t qs

abbrev written : Table → Writing → Bool
written t (writes f) =
    every (λ i. not (is_none (relations_at t i))) t.link_count && same (written_form t) f && leb (length f) limit
written t (answers n) = eqb n 6 && ltb 0 t.link_count && is_none (relations_at t 0)

abbrev pub checks : Edition → List ℕ → Judgement → Bool
checks ed h (reads ls ps qs w) =
    leb (length h) limit && recorded h ls ps (read ed h) && (is_none qs || ltb 0 (length ls / link_width)) && asked (recorded_table h ls ps) qs
    && written (recorded_table h ls ps) w
checks ed h (malformed k) = leb (length h) limit && (stops ed h k || unfit ed h k (close_of k (drop k h)))

-- ---- what they show

-- a good table, with its slots and counts named otherwise
regood : {extra : Extra} {h L L' P P' : List ℕ} {n n' m m' : ℕ} → L ≡ L' → P ≡ P' → n ≡ n' → m ≡ m'
    → Good extra (record { text = h; link_slots = L; param_slots = P; link_count = n; param_count = m })
    → Good extra (record { text = h; link_slots = L'; param_slots = P'; link_count = n'; param_count = m' })
regood {extra} {h} {L} {L'} {P} {P'} {n} {n'} {m} {m'} l p c d g =
    subst₂ (λ (x y : List ℕ). Good extra (record { text = h; link_slots = x; param_slots = y; link_count = n'; param_count = m' })) l p
    (subst₂ (λ (x y : ℕ). Good extra (record { text = h; link_slots = L; param_slots = P; link_count = x; param_count = y })) c d g)

-- what is known once the records are those of a reading
pub record KnownRow (ed : Edition) (h ls ps : List ℕ) : Type 0 where
  pub fills : Fills ed h ls ps
  pub may_use : Usable ed (recorded_table h ls ps)

known_row : (ed : Edition) (h : List ℕ) → length h ≤ limit → (K : List Link) → Reading (further ed) h K
    → KnownRow ed h (link_records 0 K) (param_records h K)
known_row ed h short K r =
    let l = link_records_length 0 K in
    let p = param_records_length h K in
    let n : length K ≡ length (link_records 0 K) / link_width = omega arith in
    let m : count_params K ≡ length (param_records h K) / param_width = omega arith in
    record {
      fills = λ L P x y. rw (← n, ← m, l, p) (known {e = ed} refl (Read.reads short r (omega arith) (omega arith)));
      may_use =
          record {
            short = short;
            good = regood (append-nil (link_records 0 K)) (append-nil (param_records h K)) n m (read_good (further ed) h K [] [] r).good;
          };
    }

pub recorded_known : (ed : Edition) (h ls ps : List ℕ) → length h ≤ limit → recorded h ls ps (read ed h) ≡ true → KnownRow ed h ls ps
recorded_known ed h ls ps short e = go (read ed h) refl e
  where
    go : (x : Option (List Link)) → read ed h ≡ x → recorded h ls ps x ≡ true → KnownRow ed h ls ps
    go none q e = absurd (false≢true e)
    go (some R) q e =
        let K = map (kept_link h) R in
        let (rl, p) = both (are_references h R && same (link_records 0 K) ls) (same (param_records h K) ps) e in
        let (r, l) = both (are_references h R) (same (link_records 0 K) ls) rl in
        subst₂ (λ (x y : List ℕ). KnownRow ed h x y) (same_sound (link_records 0 K) ls l) (same_sound (param_records h K) ps p)
        (known_row ed h short K (read_reading (further ed) (apart ed) h R q (are_references_lem h R r)))

is_none_lem : {A : Type 0} (xs : List A) → is_none xs ≡ true → xs ≡ []
is_none_lem [] e = refl
is_none_lem (x ∷ xs) e = absurd (false≢true e)

asked_found : {ed : Edition} (t : Table) (qs : List (List ℕ)) → Usable ed t → 0 < t.link_count → asked t qs ≡ true
    → Each (λ (q : List ℕ). Search (number_of ed) t q (record { number = done; link = 0 })) qs
asked_found t [] u n e = each_none
asked_found {ed} t (q ∷ qs) u n e =
    let (x, y) = both (has t q 0) (asked t qs) e in
    each_more (known {e = ed} refl (usable u (found n x (λ j l. absurd (omega arith))))) (asked_found t qs u n y)

asked_holds : {ed : Edition} (t : Table) (qs : List (List ℕ)) → Usable ed t → (is_none qs || ltb 0 t.link_count) ≡ true → asked t qs ≡ true
    → Each (λ (q : List ℕ). Search (number_of ed) t q (record { number = done; link = 0 })) qs
asked_holds t [] u n e = each_none
asked_holds t (q ∷ qs) u n e = asked_found t (q ∷ qs) u (ltb-true 0 t.link_count n) e

related_all : (t : Table) → every (λ i. not (is_none (relations_at t i))) t.link_count ≡ true → Related t
related_all t e i l q =
    true≢false
    (sym (every_at (λ i. not (is_none (relations_at t i))) t.link_count e i l)
    ∙ ap (λ (x : List (List ℕ)). not (is_none x)) q)

written_holds : (ed : Edition) (t : Table) (w : Writing) → Usable ed t → written t w ≡ true → Writes ed t w
written_holds ed t (writes f) u e =
    let (xy, short) =
    both (every (λ i. not (is_none (relations_at t i))) t.link_count && same (written_form t) f) (leb (length f) limit) e
    in
    let (related, form) = both (every (λ i. not (is_none (relations_at t i))) t.link_count) (same (written_form t) f) xy in
    λ out room.
    subst (λ (x : List ℕ). length x ≤ limit → length x ≤ length out → Write (number_of ed) t out (holding out x))
    (same_sound (written_form t) f form) (λ a b. known {e = ed} refl (usable u (wrote (related_all t related) a b)))
    (leb-true (length f) limit short) room
written_holds ed t (answers n) u e =
    let (xy, unrelated) = both (eqb n 6 && ltb 0 t.link_count) (is_none (relations_at t 0)) e in
    let (six, links) = both (eqb n 6) (ltb 0 t.link_count) xy in
    λ out.
    subst (λ (x : ℕ). Write (number_of ed) t out (untouched out x)) (sym (eqb-true n 6 six))
    (known {e = ed} refl (usable u (no_relation (ltb-true 0 t.link_count links) (is_none_lem (relations_at t 0) unrelated))))

reads_hold : (ed : Edition) (h ls ps : List ℕ) (qs : List (List ℕ)) (w : Writing) → checks ed h (reads ls ps qs w) ≡ true
    → ReadHolds ed h ls ps qs w
reads_hold ed h ls ps qs w e =
    let t = recorded_table h ls ps in
    let (abcd, writing) =
    both
    (leb (length h) limit && recorded h ls ps (read ed h) && (is_none qs || ltb 0 (length ls / link_width)) && asked t qs)
    (written t w) e
    in
    let (abc, queries) =
    both (leb (length h) limit && recorded h ls ps (read ed h) && (is_none qs || ltb 0 (length ls / link_width))) (asked t qs) abcd
    in
    let (ab, links) = both (leb (length h) limit && recorded h ls ps (read ed h)) (is_none qs || ltb 0 (length ls / link_width)) abc in
    let (short, records) = both (leb (length h) limit) (recorded h ls ps (read ed h)) ab in
    let k = recorded_known ed h ls ps (leb-true (length h) limit short) records in
    record {
      fills = k.fills;
      has = asked_holds t qs k.may_use links queries;
      writing = written_holds ed t w k.may_use writing;
    }

malformed_holds : (ed : Edition) (h : List ℕ) (k : ℕ) → checks ed h (malformed k) ≡ true → Judged ed h (malformed k)
malformed_holds ed h k e =
    let j = close_of k (drop k h) in
    let (short, wrong) = both (leb (length h) limit) (stops ed h k || unfit ed h k j) e in
    λ L P. known {e = ed} refl (not_derived (leb-true (length h) limit short) (at j (either (stops ed h k) (unfit ed h k j) wrong)))
  where
    at : (j : ℕ) → (stops ed h k ≡ true) ⊎ (unfit ed h k j ≡ true) → MalformedAt (further ed) h k
    at j (inl x) = stops_at ed h k x
    at j (inr x) = unfit_at ed h k j x

row_holds : (ed : Edition) (r : Row) → checks ed r.header r.judgement ≡ true → RowHolds ed r
row_holds ed r e = go r.header r.judgement e
  where
    go : (h : List ℕ) (j : Judgement) → checks ed h j ≡ true → Judged ed h j
    go h (reads ls ps qs w) e = reads_hold ed h ls ps qs w e
    go h (malformed k) e = malformed_holds ed h k e

-- every row passes
abbrev pub all_check : Edition → List Row → Bool
all_check ed [] = true
all_check ed (r ∷ rs) = checks ed r.header r.judgement && all_check ed rs

pub rows_hold : (ed : Edition) (rs : List Row) → all_check ed rs ≡ true → Each (RowHolds ed) rs
rows_hold ed [] e = each_none
rows_hold ed (r ∷ rs) e =
    let (x, y) = both (checks ed r.header r.judgement) (all_check ed rs) e in
    each_more (row_holds ed r x) (rows_hold ed rs y)
