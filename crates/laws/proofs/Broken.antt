-- A malformed header among accepted ones: their join is malformed, and at which place.
use Prim.Native.Nat.{ℕ, suc, ◌+◌, ◌-◌, ◌≤◌, ◌<◌}
use native.Mathlib.Omega.{arith}
use native.Mathlib.Decide.{dec_lt}
use mathlib.Core.Path.{◌≡◌, refl, sym, ap, subst, ◌∙◌}
use mathlib.Core.Bool.{false}
use mathlib.Core.Logic.{◌⊎◌, inl, inr}
use mathlib.Core.List.{List, [], ◌∷◌, ◌++◌, append-nil, append_assoc}
use mathlib.Core.Option.{Option, none, some}
use lib.ListN.{length, take, drop, length-append}
use lib.Seq.{take-add}
use Rattle.references.specs.AppendixA.{IsReference}
use Rattle.grammar.specs.Link.{Link}
use Rattle.grammar.specs.Grammar.{Extra, Admissible, Field}
use Rattle.grammar.specs.Targets.{ReferenceAt}
use Rattle.grammar.specs.Place.{Malformed, Begins, Longest, Faulty, NoneFaulty, Place, at_target, at_longest, MalformedAt}
use Rattle.grammar.specs.Join.{Padded, Readable}
use Rattle.grammar.specs.Machine.{State, gap, run, settle, links_in_order}
use Rattle.grammar.proofs.Exact.{read_derived}
use Rattle.grammar.proofs.Prefix.{run_append}
use Rattle.grammar.proofs.Closing.{Shut, settled, derived_shut, shut_front, shut_ordered, shut_later}
use Rattle.grammar.proofs.Places.{judged, shut_faulty, faulty_shut, faulty_malformed}
use Rattle.grammar.proofs.TargetsRaised.{each_map, slice_front}
use Rattle.grammar.proofs.TargetsHeld.{never}
use Rattle.grammar.proofs.Raise.{behind_in}
use Rattle.grammar.proofs.Growing.{begins_front}
use Rattle.grammar.proofs.Joined.{joined_derived, padded_settle}
use Rattle.laws.proofs.Beside.{underived_first}
use Rattle.laws.proofs.Front.{front, tail, pads_of, front_run, front_reading}
use Rattle.laws.proofs.Inside.{begins_behind, begins_alone, upto, faulty_raised, FaultyInside, faulty_lowered}
use Rattle.laws.proofs.Behind.{begins_later}

module _ (extra : Extra) (apart : Admissible extra) (back : extra 92 ≡ false) (hs : List (Readable extra)) (q : Padded)
    (gs : List (Readable extra)) where
  -- the octets before the header, the header, those behind it, and all of them
  abbrev A : List ℕ
  A = front (pads_of extra apart hs) q.left

  abbrev h : List ℕ
  h = q.header

  abbrev B : List ℕ
  B = q.right ++ tail (pads_of extra apart gs)

  abbrev pub s : List ℕ
  s = A ++ (h ++ B)

  long : length s ≡ length A + length h + length B
  long = omega (arith, length-append A (h ++ B), length-append h B)

  -- the links of the headers before, last first, behind which the machine stands before an item
  abbrev before : List Link
  before = (front_run extra apart hs q.left q.left_blank [] 0).0

  stands : run extra (gap []) 0 A ≡ gap before
  stands = (front_run extra apart hs q.left q.left_blank [] 0).1

  -- ---- faulty targets

  -- the octets before the header have a reading, so that no target of theirs is faulty
  none_before : (b j : ℕ) → Faulty extra s b j → j < length A → ⊥
  none_before b j f l =
      let (K, r) = front_reading extra apart hs q.left q.left_blank in
      faulty_malformed extra apart (shut_front extra A (h ++ B) l (faulty_shut extra apart f))
      (λ x. f.no_reference (subst IsReference (sym (slice_front A (h ++ B) b j (omega arith))) x))
      r.links r.derived r.references

  -- those up to the header's end are its own
  its_own : {b j : ℕ} → Faulty extra s b j → j < length A + length h → FaultyInside extra apart A before stands h B b j
  its_own {b} {j} f l = go (dec_lt j (length A))
    where
      go : Dec (j < length A) → FaultyInside extra apart A before stands h B b j
      go (yes m) = absurd (none_before b j f m)
      go (no m) = faulty_lowered extra apart A before stands h B f (omega arith) l

  raised : {a n : ℕ} → Faulty extra h a n → Faulty extra s (length A + a) (length A + n)
  raised f = faulty_raised extra apart A before stands h B f

  -- the others begin behind it
  later : {b j : ℕ} → Faulty extra s b j → length A + length h ≤ j → length A + length h ≤ b
  later {b} {j} f l =
      let n : length (A ++ h) ≡ length A + length h = length-append A h in
      let x = subst (λ (t : List ℕ). Shut extra t b j) (sym (append_assoc A h B)) (faulty_shut extra apart f) in
      omega (arith, n, begins_later extra apart back (A ++ h) q.right q.right_blank gs x (omega arith))

  -- ---- malformed

  -- a header without faulty targets is malformed only if it isn't derived
  underived : NoneFaulty extra h → Malformed extra h → (R : List Link) → Field extra h R → ⊥
  underived n bad R f =
      bad R f
      (each_map {P = Shut extra h} {Q = ReferenceAt h} R (λ a k x. right a k x (judged h a k)) (derived_shut extra apart h f))
    where
      right : (a k : ℕ) → Shut extra h a k → ReferenceAt h a k ⊎ (ReferenceAt h a k → ⊥) → ReferenceAt h a k
      right a k x (inl r) = r
      right a k x (inr w) = absurd (n a k (shut_faulty extra apart x w))

  unsettled : ((R : List Link) → Field extra h R → ⊥) → settle (run extra (gap []) 0 h) (length h) ≡ none
  unsettled bad = go (settle (run extra (gap []) 0 h) (length h)) refl
    where
      go : (x : Option (List Link)) → settle (run extra (gap []) 0 h) (length h) ≡ x
          → settle (run extra (gap []) 0 h) (length h) ≡ none
      go none e = e
      go (some ls) e = absurd (bad _ (read_derived extra apart h (ap links_in_order e)))

  -- what isn't derived alone isn't derived among others
  underived_among : settle (run extra (gap []) 0 h) (length h) ≡ none → (R : List Link) → Field extra s R → ⊥
  underived_among e R f = go gs f
    where
      W : List ℕ
      W = A ++ (h ++ q.right)

      p : Padded
      p = record { left = []; header = h; right = q.right; left_blank = refl; right_blank = q.right_blank }

      end : length W ≡ 0 + length A + length (h ++ q.right)
      end = omega (arith, length-append A (h ++ q.right))

      none_yet : settle (run extra (gap []) 0 W) (length W) ≡ none
      none_yet =
          ap (λ (x : State). settle x (length W))
          (run_append extra A (h ++ q.right) (gap []) 0 ∙ ap (λ (x : State). run extra x (0 + length A) (h ++ q.right)) stands)
          ∙ ap (settle (run extra (gap before) (0 + length A) (h ++ q.right))) end
          ∙ padded_settle extra apart p before (0 + length A)
          ∙ ap (behind_in (0 + length A + 0) before) e

      go : (ks : List (Readable extra)) → Field extra (A ++ (h ++ (q.right ++ tail (pads_of extra apart ks)))) R → ⊥
      go [] g =
          let (ls, x, _) = settled extra apart W (subst (λ (t : List ℕ). Field extra (A ++ (h ++ t)) R) (append-nil q.right) g) in
          never (sym none_yet ∙ x)
      go (k ∷ ks) g =
          let t = tail (pads_of extra apart (k ∷ ks)) in
          let parted : A ++ (h ++ (q.right ++ t)) ≡ W ++ t =
          ap (λ (x : List ℕ). A ++ x) (sym (append_assoc h q.right t)) ∙ sym (append_assoc A (h ++ q.right) t)
          in
          underived_first extra apart back W _ none_yet (joined_derived extra apart (k ∷ ks)) R
          (subst (λ (x : List ℕ). Field extra x R) parted g)

  pub malformed_among : {k : ℕ} → MalformedAt extra h k → Malformed extra s
  malformed_among m = go m.place
    where
      go : {k : ℕ} → Place extra h k → Malformed extra s
      go (at_target f least) = faulty_malformed extra apart (faulty_shut extra apart (raised f)) (raised f).no_reference
      go (at_longest n p) = λ R f _. underived_among (unsettled (underived n m.malformed)) R f

  -- ---- the place

  -- behind the first octet of the header with which nothing begins any more, nothing begins
  none_further : {k : ℕ} → Longest extra h k → k < length h → (j : ℕ) → length A + k < j → Begins extra (take j s) → ⊥
  none_further {k} p l j m b =
      let n = length A + suc k in
      let parts : j ≡ n + (j - n) = omega arith in
      let split : take j s ≡ A ++ take (suc k) h ++ take (j - n) (drop n s) =
      ap (λ (i : ℕ). take i s) parts ∙ take-add n (j - n) s
      ∙ ap (λ (x : List ℕ). x ++ take (j - n) (drop n s)) (upto extra apart A before stands h B (suc k) (omega arith))
      in
      p.longest (suc k) (omega arith) (omega arith)
      (begins_alone extra apart A before stands (take (suc k) h)
      (begins_front extra (A ++ take (suc k) h) (take (j - n) (drop n s)) (subst (Begins extra) split b)))

  pub not_before : (k r : ℕ) → Place extra h k → Place extra s r → length A + k ≤ r
  not_before k r (at_target {k = n} f least) (at_target {k = j} g smallest) = go (dec_lt j (length A + length h))
    where
      go : Dec (j < length A + length h) → length A + k ≤ r
      go (yes l) = let w = its_own g l in omega (arith, least w.start w.end w.faulty, w.starts)
      go (no l) =
          let x = faulty_shut extra apart f in
          omega (
            arith,
            shut_ordered extra x,
            shut_later extra (faulty_shut extra apart (raised f)) (faulty_shut extra apart g) (omega (arith, x.inside)),
          )
  not_before k r (at_target f least) (at_longest clean p) = absurd (clean _ _ (raised f))
  not_before k r (at_longest clean p) (at_target {k = j} g smallest) = go (dec_lt j (length A + length h))
    where
      go : Dec (j < length A + length h) → length A + k ≤ r
      go (yes l) = let w = its_own g l in absurd (clean w.start w.end w.faulty)
      go (no l) = omega (arith, p.within, later g (omega arith))
  not_before k r (at_longest clean p) (at_longest also o) = go (dec_lt r (length A + k))
    where
      go : Dec (r < length A + k) → length A + k ≤ r
      go (yes l) =
          absurd
          (o.longest (length A + k) l (omega (arith, p.within, long))
          (subst (Begins extra) (sym (upto extra apart A before stands h B k p.within))
          (begins_behind extra apart A before stands (take k h) p.begins)))
      go (no l) = omega arith

  pub at_place : (k r : ℕ) → Place extra h k → Place extra s r → (k < length h) ⊎ (B ≡ []) → r ≡ length A + k
  at_place k r (at_target f least) (at_target g smallest) c =
      omega (arith, smallest _ _ (raised f), not_before k r (at_target f least) (at_target g smallest))
  at_place k r (at_target f least) (at_longest clean p) c = absurd (clean _ _ (raised f))
  at_place k r (at_longest clean p) (at_target {k = j} g smallest) c = go c (dec_lt j (length A + length h))
    where
      go : (k < length h) ⊎ (B ≡ []) → Dec (j < length A + length h) → r ≡ length A + k
      go c (yes l) = let w = its_own g l in absurd (clean w.start w.end w.faulty)
      go (inl m) (no l) =
          let x = g.closed in
          absurd (none_further p m (suc j) (omega arith) (record { rest = x.rest; links = x.links; derived = x.derived }))
      go (inr z) (no l) = absurd (omega (arith, g.closed.inside, long, ap length z))
  at_place k r (at_longest clean p) (at_longest also o) c = go (dec_lt (length A + k) r) c
    where
      go : Dec (length A + k < r) → (k < length h) ⊎ (B ≡ []) → r ≡ length A + k
      go (yes l) (inl m) = absurd (none_further p m r l o.begins)
      go (yes l) (inr z) = absurd (none_further p (omega (arith, o.within, long, ap length z)) r l o.begins)
      go (no l) c = omega (arith, not_before k r (at_longest clean p) (at_longest also o))
