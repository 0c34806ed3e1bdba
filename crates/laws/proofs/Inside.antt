-- A header inside a longer text, behind octets after which the machine stands before an item: what it begins and which of its targets
-- are closed is as if it stood alone, with all places raised.
use Prim.Native.Nat.{ℕ, ◌+◌, ◌-◌, ◌≤◌, ◌<◌}
use native.Mathlib.Omega.{arith}
use mathlib.Core.Path.{◌≡◌, refl, sym, ap, subst, subst₂, ◌∙◌}
use mathlib.Core.Bool.{Bool, true, false, false≢true}
use mathlib.Core.List.{List, [], ◌++◌}
use lib.ListN.{length, take, get_or, length-append, get_or-append}
use lib.Seq.{take-append-add, take-append-le, get_or-append-add}
use Rattle.references.specs.AppendixA.{IsReference}
use Rattle.grammar.specs.Link.{Link}
use Rattle.grammar.specs.Grammar.{Extra, Admissible}
use Rattle.grammar.specs.Targets.{ReferenceAt}
use Rattle.grammar.specs.Place.{Begins, Faulty}
use Rattle.grammar.specs.Machine.{
  State,
  gap,
  target,
  percent,
  hex,
  after,
  semi,
  name,
  named,
  equals,
  bare,
  wide,
  quote,
  escape,
  dead,
  run,
}
use Rattle.grammar.proofs.Prefix.{is_dead, run_append, alive_begins, begins_alive}
use Rattle.grammar.proofs.Raise.{behind, lift, run_lift}
use Rattle.grammar.proofs.Spans.{slice_within}
use Rattle.grammar.proofs.Closing.{state_at, Shut}
use Rattle.grammar.proofs.Places.{shut_faulty, faulty_shut}

dead_lift : (k : ℕ) (pre : List Link) (st : State) → is_dead (lift k pre st) ≡ is_dead st
dead_lift k pre (gap ls) = refl
dead_lift k pre (target ls a) = refl
dead_lift k pre (percent ls a) = refl
dead_lift k pre (hex ls a) = refl
dead_lift k pre (after o) = refl
dead_lift k pre (semi o) = refl
dead_lift k pre (name o n) = refl
dead_lift k pre (named o n e) = refl
dead_lift k pre (equals o n e) = refl
dead_lift k pre (bare o n e v) = refl
dead_lift k pre (wide o n e v) = refl
dead_lift k pre (quote o n e v) = refl
dead_lift k pre (escape o n e v) = refl
dead_lift k pre dead = refl

in_target : State → Bool
in_target (gap ls) = false
in_target (target ls a) = true
in_target (percent ls a) = false
in_target (hex ls a) = false
in_target (after o) = false
in_target (semi o) = false
in_target (name o n) = false
in_target (named o n e) = false
in_target (equals o n e) = false
in_target (bare o n e v) = false
in_target (wide o n e v) = false
in_target (quote o n e v) = false
in_target (escape o n e v) = false
in_target dead = false

-- a raised state that stands in a target is that of one that stands in it
record Lowered (k : ℕ) (st : State) (b : ℕ) : Type 0 where
  links : List Link
  start : ℕ
  stands : st ≡ target links start
  raised : b ≡ k + start

lowered : (k : ℕ) (pre : List Link) (st : State) (ls : List Link) (b : ℕ) → lift k pre st ≡ target ls b → Lowered k st b
unfolding in_target
lowered k pre (target ks a) ls b e = record { links = ks; start = a; stands = refl; raised = cc }
lowered k pre (gap ks) ls b e = absurd (false≢true (ap in_target e))
lowered k pre (percent ks a) ls b e = absurd (false≢true (ap in_target e))
lowered k pre (hex ks a) ls b e = absurd (false≢true (ap in_target e))
lowered k pre (after o) ls b e = absurd (false≢true (ap in_target e))
lowered k pre (semi o) ls b e = absurd (false≢true (ap in_target e))
lowered k pre (name o n) ls b e = absurd (false≢true (ap in_target e))
lowered k pre (named o n m) ls b e = absurd (false≢true (ap in_target e))
lowered k pre (equals o n m) ls b e = absurd (false≢true (ap in_target e))
lowered k pre (bare o n m v) ls b e = absurd (false≢true (ap in_target e))
lowered k pre (wide o n m v) ls b e = absurd (false≢true (ap in_target e))
lowered k pre (quote o n m v) ls b e = absurd (false≢true (ap in_target e))
lowered k pre (escape o n m v) ls b e = absurd (false≢true (ap in_target e))
lowered k pre dead ls b e = absurd (false≢true (ap in_target e))

module _ (extra : Extra) (apart : Admissible extra) (A : List ℕ) (ls : List Link) (stands : run extra (gap []) 0 A ≡ gap ls) where
  pub run_inside : (u : List ℕ) → run extra (gap []) 0 (A ++ u) ≡ lift (length A) ls (run extra (gap []) 0 u)
  run_inside u =
      let n : 0 + length A ≡ length A + 0 = omega arith in
      run_append extra A u (gap []) 0
      ∙ ap (λ (x : State). run extra x (0 + length A) u) stands
      ∙ ap (λ (k : ℕ). run extra (gap ls) k u) n
      ∙ run_lift (length A) ls extra u (gap []) 0

  same_dead : (u : List ℕ) → is_dead (run extra (gap []) 0 (A ++ u)) ≡ is_dead (run extra (gap []) 0 u)
  same_dead u = ap is_dead (run_inside u) ∙ dead_lift (length A) ls (run extra (gap []) 0 u)

  pub begins_behind : (u : List ℕ) → Begins extra u → Begins extra (A ++ u)
  begins_behind u b = alive_begins extra apart (A ++ u) (same_dead u ∙ begins_alive extra apart u b)

  pub begins_alone : (u : List ℕ) → Begins extra (A ++ u) → Begins extra u
  begins_alone u b = alive_begins extra apart u (sym (same_dead u) ∙ begins_alive extra apart (A ++ u) b)

  -- the header, with any octets behind it
  module _ (h B : List ℕ) where
    pub upto : (n : ℕ) → n ≤ length h → take (length A + n) (A ++ (h ++ B)) ≡ A ++ take n h
    upto n l = take-append-add A (h ++ B) n ∙ ap (λ (x : List ℕ). A ++ x) (take-append-le n h B l)

    state_inside : (n : ℕ) → n ≤ length h → state_at extra (A ++ (h ++ B)) (length A + n) ≡ lift (length A) ls (state_at extra h n)
    state_inside n l = ap (run extra (gap []) 0) (upto n l) ∙ run_inside (take n h)

    octet_inside : (n : ℕ) → n < length h → get_or (A ++ (h ++ B)) (length A + n) 0 ≡ get_or h n 0
    octet_inside n l = get_or-append-add A (h ++ B) n 0 ∙ get_or-append h B 0 n l

    pub shut_raised : {a n : ℕ} → Shut extra h a n → Shut extra (A ++ (h ++ B)) (length A + a) (length A + n)
    shut_raised {a} {n} x =
        record {
          inside = omega (arith, x.inside, length-append A (h ++ B), length-append h B);
          octet = octet_inside n x.inside ∙ x.octet;
          held = behind (length A) ls x.held;
          stands = state_inside n (omega (arith, x.inside)) ∙ ap (lift (length A) ls) x.stands;
        }

    pub faulty_raised : {a n : ℕ} → Faulty extra h a n → Faulty extra (A ++ (h ++ B)) (length A + a) (length A + n)
    faulty_raised {a} {n} f =
        shut_faulty extra apart (shut_raised (faulty_shut extra apart f))
        (λ r. f.no_reference (subst IsReference (slice_within A h B a n (omega (arith, f.closed.inside))) r))

    -- a faulty target of the header that is closed at place j of the whole, and starts at place b
    pub record FaultyInside (b j : ℕ) : Type 0 where
      pub start : ℕ
      pub end : ℕ
      pub starts : b ≡ length A + start
      pub ends : j ≡ length A + end
      pub faulty : Faulty extra h start end

    pub faulty_lowered : {b j : ℕ} → Faulty extra (A ++ (h ++ B)) b j → length A ≤ j → j < length A + length h → FaultyInside b j
    faulty_lowered {b} {j} f l m =
        let x = faulty_shut extra apart f in
        let n = j - length A in
        let e : j ≡ length A + n = omega arith in
        let w =
        lowered (length A) ls (state_at extra h n) x.held b
        (sym (state_inside n (omega arith)) ∙ ap (state_at extra (A ++ (h ++ B))) (sym e) ∙ x.stands)
        in
        let o : get_or h n 0 ≡ 62 =
        sym (octet_inside n (omega arith)) ∙ ap (λ (i : ℕ). get_or (A ++ (h ++ B)) i 0) (sym e) ∙ x.octet
        in
        record {
          start = w.start;
          end = n;
          starts = w.raised;
          ends = e;
          faulty =
              shut_faulty extra apart (record { inside = omega arith; octet = o; held = w.links; stands = w.stands })
              (λ r. f.no_reference
              (subst₂ (ReferenceAt (A ++ (h ++ B))) (sym w.raised) (sym e)
              (subst IsReference (sym (slice_within A h B w.start n (omega arith))) r)));
        }
