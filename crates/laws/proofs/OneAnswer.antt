-- Of a state and a buffer that are right for some octets, a feed and the finish answer and leave one thing each.
use Prim.Native.Nat.{ℕ, ◌+◌, ◌≤◌}
use native.Mathlib.Omega.{arith}
use mathlib.Core.Path.{◌≡◌, refl, sym, ap, ◌∙◌}
use mathlib.Core.List.{List, []}
use lib.ListN.{length}
use Rattle.octets.specs.Editions.{further}
use Rattle.octets.specs.declared.editions.Edition.{Edition}
use Rattle.grammar.specs.Machine.{gap, run, phase_of, open_at}
use Rattle.grammar.proofs.Editions.{apart}
use Rattle.grammar.proofs.Growing.{before_end}
use Rattle.outcomes.specs.Number.{limit}
use Rattle.outcomes.specs.Read.{ReadOut}
use Rattle.outcomes.specs.Feed.{FeedOut}
use Rattle.outcomes.specs.Feeding.{Feeding, Holds, over, stuck, begun, start_of, judged_of, moved_to, Feeds, Finishes}
use Rattle.outcomes.specs.Feeding.{AnyFeed, small_buffer, too_long, remembered, faulty, unfit, stored}
use Rattle.outcomes.proofs.FeedSettled.{feed_in, finish_in}
use Rattle.laws.specs.Feedings.{OneAnswer}
use Rattle.laws.proofs.HandedRight.{feeds_in, finishes_in}

-- what a state whose place is its total remembers of reading
record Told (ed : Edition) (octets : List ℕ) (s : Feeding) : Type 0 where
  phase : s.phase ≡ phase_of (run (further ed) (gap []) 0 octets)
  target : s.target ≡ start_of (open_at (run (further ed) (gap []) 0 octets))
  judged : s.judged ≡ judged_of octets (open_at (run (further ed) (gap []) 0 octets))

told : {ed : Edition} {octets b : List ℕ} {s : Feeding} → Holds ed octets b s → s.place ≡ s.total → s.total ≤ limit → Told ed octets s
told (over l) e h = absurd (omega arith)
told {ed} (stuck l n p) e h = absurd (omega (arith, before_end (apart ed) n p))
told (begun l b t) e h = record { phase = refl; target = refl; judged = refl }

-- one next state for one answer
module _ (ed : Edition) {st : Feeding} {part buffer octets b c : List ℕ} where
  same_next : {o p : FeedOut} {next more : Feeding} → AnyFeed st part buffer o next → AnyFeed st part buffer p more
      → o.number ≡ p.number → o.place ≡ p.place → Holds ed octets b next → Holds ed octets c more → next ≡ more
  same_next (small_buffer _) (small_buffer _) e f x y = refl
  same_next (small_buffer _) (too_long _ _) e f x y = absurd (omega arith)
  same_next (small_buffer _) (remembered _ _ _) e f x y = absurd (omega arith)
  same_next (small_buffer _) (faulty _ _ _ _) e f x y = absurd (omega arith)
  same_next (small_buffer _) (unfit _ _ _ _ _) e f x y = absurd (omega arith)
  same_next (small_buffer _) (stored _ _ _ _) e f x y = absurd (omega arith)
  same_next (too_long _ _) (small_buffer _) e f x y = absurd (omega arith)
  same_next (too_long _ _) (too_long _ _) e f x y = refl
  same_next (too_long _ _) (remembered _ _ _) e f x y = absurd (omega arith)
  same_next (too_long _ _) (faulty _ _ _ _) e f x y = absurd (omega arith)
  same_next (too_long _ _) (unfit _ _ _ _ _) e f x y = absurd (omega arith)
  same_next (too_long _ _) (stored _ _ _ _) e f x y = absurd (omega arith)
  same_next (remembered _ _ _) (small_buffer _) e f x y = absurd (omega arith)
  same_next (remembered _ _ _) (too_long _ _) e f x y = absurd (omega arith)
  same_next (remembered _ _ _) (remembered _ _ _) e f x y = ap (moved_to st (st.total + length part)) f
  same_next (remembered _ _ _) (faulty _ _ _ _) e f x y = ap (moved_to st (st.total + length part)) f
  same_next (remembered _ _ _) (unfit _ _ _ _ _) e f x y = ap (moved_to st (st.total + length part)) f
  same_next (remembered _ _ _) (stored _ _ _ _) e f x y = absurd (omega arith)
  same_next (faulty _ _ _ _) (small_buffer _) e f x y = absurd (omega arith)
  same_next (faulty _ _ _ _) (too_long _ _) e f x y = absurd (omega arith)
  same_next (faulty _ _ _ _) (remembered _ _ _) e f x y = ap (moved_to st (st.total + length part)) f
  same_next (faulty _ _ _ _) (faulty _ _ _ _) e f x y = ap (moved_to st (st.total + length part)) f
  same_next (faulty _ _ _ _) (unfit _ _ _ _ _) e f x y = ap (moved_to st (st.total + length part)) f
  same_next (faulty _ _ _ _) (stored _ _ _ _) e f x y = absurd (omega arith)
  same_next (unfit _ _ _ _ _) (small_buffer _) e f x y = absurd (omega arith)
  same_next (unfit _ _ _ _ _) (too_long _ _) e f x y = absurd (omega arith)
  same_next (unfit _ _ _ _ _) (remembered _ _ _) e f x y = ap (moved_to st (st.total + length part)) f
  same_next (unfit _ _ _ _ _) (faulty _ _ _ _) e f x y = ap (moved_to st (st.total + length part)) f
  same_next (unfit _ _ _ _ _) (unfit _ _ _ _ _) e f x y = ap (moved_to st (st.total + length part)) f
  same_next (unfit _ _ _ _ _) (stored _ _ _ _) e f x y = absurd (omega arith)
  same_next (stored _ _ _ _) (small_buffer _) e f x y = absurd (omega arith)
  same_next (stored _ _ _ _) (too_long _ _) e f x y = absurd (omega arith)
  same_next (stored _ _ _ _) (remembered _ _ _) e f x y = absurd (omega arith)
  same_next (stored _ _ _ _) (faulty _ _ _ _) e f x y = absurd (omega arith)
  same_next (stored _ _ _ _) (unfit _ _ _ _ _) e f x y = absurd (omega arith)
  same_next (stored {p = p} {a = a} {q = q} _ s _ _) (stored {p = r} {a = b} {q = t} _ _ _ _) e f x y =
      let u = told x refl s in
      let v = told y refl s in
      let phase : p ≡ r = u.phase ∙ sym v.phase in
      let target : a ≡ b = u.target ∙ sym v.target in
      let judged : q ≡ t = u.judged ∙ sym v.judged in
      cc

-- of a state and a buffer that are right for some octets, a feed has one answer and one next state
one_feed : (e : Edition) (octets part buffer : List ℕ) (st next more : Feeding) (o p : FeedOut) → Holds e octets buffer st
    → Feeds st part buffer o next → Feeds st part buffer p more → (o ≡ p) × (next ≡ more)
one_feed e octets part buffer st next more o p d f g =
    let one = (feed_in e octets part buffer).2 in
    let x = feeds_in e d f in
    let y = feeds_in e d g in
    let q : o ≡ p = one o (x.answers octets d) ∙ sym (one p (y.answers octets d)) in
    (q, same_next e x.any y.any (ap (λ (z : FeedOut). z.number) q) (ap (λ (z : FeedOut). z.place) q) (x.holds octets d) (y.holds octets d))

one_finish : (e : Edition) (octets buffer L P : List ℕ) (st : Feeding) (o p : ReadOut) → Holds e octets buffer st
    → Finishes st buffer L P o → Finishes st buffer L P p → o ≡ p
one_finish e octets buffer L P st o p d f g =
    let one = (finish_in e octets buffer L P).2 in
    one o ((finishes_in e d f).answers octets d) ∙ sym (one p ((finishes_in e d g).answers octets d))

pub one_answer : OneAnswer
one_answer = record { feed = one_feed; finish = one_finish }
