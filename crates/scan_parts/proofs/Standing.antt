-- Where the machine stands after one octet more, after a run that leaves its state, and where it can go no further.
use Prim.Native.Nat.{ℕ, suc, ◌+◌, ◌≤◌, ◌<◌}
use native.Mathlib.Omega.{arith}
use native.Mathlib.Decide.{dec_le}
use mathlib.Core.Path.{◌≡◌, refl, sym, ap, subst, ◌∙◌}
use mathlib.Core.Logic.{◌⊎◌, inl, inr}
use mathlib.Core.Bool.{Bool, true, false, true≢false}
use mathlib.Core.List.{List, [], ◌∷◌, reverse}
use mathlib.Core.Option.{none, some}
use lib.ListN.{length, take, drop, get_or, take-append-drop}
use lib.Seq.{take-suc, take-length, length-take-le}
use Rattle.grammar.specs.Link.{Link}
use Rattle.grammar.specs.Grammar.{Extra, Admissible, Run, run_end, run_more, Field}
use Rattle.grammar.specs.Machine.{State, gap, dead, step, run, settle, links_in_order}
use Rattle.grammar.proofs.Exact.{read_derived}
use Rattle.grammar.specs.Targets.{References}
use Rattle.grammar.specs.Place.{Place, MalformedAt}
use Rattle.grammar.proofs.Readings.{unread}
use Rattle.grammar.proofs.Prefix.{run_append, is_dead, begins_alive}
use Rattle.grammar.proofs.TargetsHeld.{closed_in}
use Rattle.grammar.proofs.Closing.{state_at, clean}
use Rattle.grammar.proofs.Places.{halted}
use Rattle.scan_parts.specs.Stands.{Stands}

pub stands_start : {extra : Extra} → Admissible extra → (s : List ℕ) → Stands extra s (gap []) 0
stands_start a s = record { apart = a; inside = omega arith; is = refl }

module _ {extra : Extra} {s : List ℕ} where
  -- one octet more
  pub stands_step : {st : State} {i : ℕ} → Stands extra s st i → i < length s → Stands extra s (step extra st i (get_or s i 0)) (suc i)
  stands_step {st} {i} p h =
      let n : 0 + length (take i s) ≡ i = omega (arith, length-take-le i s p.inside) in
      record {
        apart = p.apart;
        inside = h;
        is =
            ap (run extra (gap []) 0) (take-suc s i 0 h)
            ∙ run_append extra (take i s) (get_or s i 0 ∷ []) (gap []) 0
            ∙ ap (λ (k : ℕ). step extra (run extra (gap []) 0 (take i s)) k (get_or s i 0)) n
            ∙ ap (λ (x : State). step extra x i (get_or s i 0)) p.is;
      }

  -- one octet more, which leads to a known state
  pub stands_on : {st : State} {i : ℕ} (new : State) → Stands extra s st i → i < length s
      → step extra st i (get_or s i 0) ≡ new → Stands extra s new (suc i)
  stands_on {i = i} new p h e = subst (λ (x : State). Stands extra s x (suc i)) e (stands_step p h)

  -- a run of octets that leave the state
  pub stands_run : {f : ℕ → Bool} {st : State} {a e : ℕ} → ((i c : ℕ) → f c ≡ true → step extra st i c ≡ st)
      → Run s f a e → Stands extra s st a → Stands extra s st e
  stands_run stays run_end p = p
  stands_run {st = st} {a = a} stays (run_more c r) p =
      stands_run stays r (stands_on st p c.inside (stays a (get_or s a 0) c.is))

  -- the place is here, if all targets that are closed so far are references
  here : {st : State} {i : ℕ} → Stands extra s st i → is_dead st ≡ false → References s (closed_in st)
      → (i ≡ length s) ⊎ (is_dead (state_at extra s (suc i)) ≡ true) → Place extra s i
  here {st} {i} p alive r d =
      let lives : is_dead (state_at extra s i) ≡ false = ap is_dead p.is ∙ alive in
      halted extra p.apart s i p.inside lives d
      (clean extra i p.inside lives (subst (λ (x : State). References s (closed_in x)) (sym p.is) r))

  -- the next octet leads nowhere: the header isn't derived
  pub dies_at : {st : State} {i : ℕ} → Stands extra s st i → i < length s → step extra st i (get_or s i 0) ≡ dead → {R : List Link}
      → Field extra s R → ⊥
  dies_at {st} {i} p h e {R} f =
      true≢false
      (sym (ap is_dead (stands_on dead p h e).is)
      ∙ begins_alive extra p.apart (take (suc i) s)
      (record {
        rest = drop (suc i) s;
        links = R;
        derived = subst (λ (x : List ℕ). Field extra x R) (sym (take-append-drop (suc i) s)) f;
      }))

  pub halts_at : {st : State} {i : ℕ} → Stands extra s st i → is_dead st ≡ false → i < length s
      → step extra st i (get_or s i 0) ≡ dead → References s (closed_in st) → MalformedAt extra s i
  halts_at {st} {i} p alive h e r =
      record {
        malformed = λ R f _. dies_at p h e f;
        place = here p alive r (inr (ap is_dead (stands_on dead p h e).is));
      }

  -- the header ends where it may not
  pub dies_end : {st : State} {i : ℕ} → Stands extra s st i → length s ≤ i → settle st i ≡ none → {R : List Link} → Field extra s R → ⊥
  dies_end {st} {i} p h e {R} f =
      let w : i ≡ length s = omega (arith, p.inside) in
      let all : take i s ≡ s = ap (λ (k : ℕ). take k s) w ∙ take-length s in
      unread extra p.apart s
      (ap links_in_order
      (ap (λ (x : List ℕ). settle (run extra (gap []) 0 x) (length s)) (sym all)
      ∙ ap (λ (x : State). settle x (length s)) p.is ∙ ap (settle st) (sym w) ∙ e))
      R f

  pub halts_end : {st : State} {i : ℕ} → Stands extra s st i → is_dead st ≡ false → length s ≤ i → settle st i ≡ none
      → References s (closed_in st) → MalformedAt extra s i
  halts_end p alive h e r =
      record { malformed = λ R f _. dies_end p h e f; place = here p alive r (inl (omega (arith, p.inside))) }

  -- no octet that may stand here does
  pub dies : {st : State} {i : ℕ} → Stands extra s st i → settle st i ≡ none → (i < length s → step extra st i (get_or s i 0) ≡ dead)
      → {R : List Link} → Field extra s R → ⊥
  dies {i = i} p ends e f = go (dec_le (length s) i)
    where
      go : Dec (length s ≤ i) → ⊥
      go (yes h) = dies_end p h ends f
      go (no h) = let l : i < length s = omega arith in dies_at p l (e l) f

  pub halts : {st : State} {i : ℕ} → Stands extra s st i → is_dead st ≡ false → settle st i ≡ none
      → (i < length s → step extra st i (get_or s i 0) ≡ dead) → References s (closed_in st) → MalformedAt extra s i
  halts {i = i} p alive ends e r = go (dec_le (length s) i)
    where
      go : Dec (length s ≤ i) → MalformedAt extra s i
      go (yes h) = halts_end p alive h ends r
      go (no h) = let l : i < length s = omega arith in halts_at p alive l (e l) r

  -- the header ends where it may
  pub finishes : {st : State} {i : ℕ} {ls : List Link} → Stands extra s st i → length s ≤ i → settle st i ≡ some ls
      → Field extra s (reverse ls)
  finishes {st} {i} {ls} p h e =
      let w : i ≡ length s = omega (arith, p.inside) in
      let all : take i s ≡ s = ap (λ (k : ℕ). take k s) w ∙ take-length s in
      read_derived extra p.apart s
      (ap links_in_order
      (ap (λ (x : List ℕ). settle (run extra (gap []) 0 x) (length s)) (sym all)
      ∙ ap (λ (x : State). settle x (length s)) p.is ∙ ap (settle st) (sym w) ∙ e))
