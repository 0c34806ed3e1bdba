-- Behind octets of which nothing is wrong so far: a part that leads on from their spot leaves it so, one that gets stuck has its place
-- there, and one that closes a target that is no reference has its place at the target's start.
use Prim.Native.Nat.{ℕ, suc, ◌+◌, ◌≤◌, ◌<◌}
use native.Mathlib.Omega.{arith}
use native.Mathlib.Decide.{dec_lt}
use mathlib.Core.Path.{◌≡◌, sym, ap, subst, ◌∙◌}
use mathlib.Core.Logic.{◌⊎◌, inl, inr}
use mathlib.Core.Bool.{true, false, false≢true}
use mathlib.Core.List.{List, [], ◌∷◌, ◌++◌, append_assoc, append-nil}
use lib.ListN.{length, take, drop, get_or, length-append}
use lib.Seq.{slice, take-suc, take-append-add, take-length, length-take-le, get_or-append-add}
use borrow.Author.Tests.{eq-eqb, ne_eqb}
use Rattle.references.specs.AppendixA.{IsReference}
use Rattle.reference_steps.specs.Machine as judge
use Rattle.reference_steps.proofs.Exact.{steps_exact}
use Rattle.grammar.specs.Link.{Link}
use Rattle.grammar.specs.Grammar.{Extra, Admissible}
use Rattle.grammar.specs.Targets.{ReferenceAt}
use Rattle.grammar.specs.Place.{Place, Begun}
use Rattle.grammar.specs.Machine.{State, gap, target, run, step, phase_of}
use Rattle.grammar.proofs.Prefix.{is_dead, run_append, alive_begins, begins_alive}
use Rattle.grammar.proofs.TargetsHeld.{OpenFrom}
use Rattle.grammar.proofs.Closing.{Shut, shut_front, CleanTo, state_end, starts_before}
use Rattle.grammar.proofs.Places.{judged, shut_faulty, faulty_shut, halted, first_target}
use Rattle.grammar.proofs.TargetsRaised.{slice_front}
use Rattle.phases.specs.declared.spot.Spot.{Spot}
use Rattle.phases.specs.Steps.{stuck}
use Rattle.phases.specs.Spots.{unfit, onward, Live, Leads, here, further}
use Rattle.feeding.proofs.SpotSteps.{spot_in, Told, Refused, told}
use Rattle.feeding.proofs.Phases.{dead_phase, never_unfit}

-- the state after a text
abbrev pub behind : Extra → List ℕ → State
behind extra u = run extra (gap []) 0 u

module _ {extra : Extra} (apart : Admissible extra) (fed part : List ℕ) where
  abbrev all : List ℕ
  all = fed ++ part

  -- what was fed with k octets of the part
  abbrev up_to : ℕ → List ℕ
  up_to k = fed ++ take k part

  front : (k : ℕ) → take (length fed + k) all ≡ up_to k
  front k = take-append-add fed part k

  longer : (k : ℕ) → k < length part → up_to (suc k) ≡ up_to k ++ get_or part k 0 ∷ []
  longer k h = ap (λ (u : List ℕ). fed ++ u) (take-suc part k 0 h) ∙ sym (append_assoc fed (take k part) (get_or part k 0 ∷ []))

  long : (k : ℕ) → k ≤ length part → length (up_to k) ≡ length fed + k
  long k h = omega (arith, length-append fed (take k part), length-take-le k part h)

  -- the part has led to the spot y at place k
  record Led (y : Spot) (k : ℕ) : Type 0 where
    inside : k ≤ length part
    at_spot : y ≡ spot_in (up_to k) (behind extra (up_to k))
    alive : is_dead (behind extra (up_to k)) ≡ false
    clean : CleanTo extra all (length fed + k)

  -- one octet more, from the state at which the machine stands
  module _ {y : Spot} {k : ℕ} (l : Led y k) (h : k < length part) where
    c : ℕ
    c = get_or part k 0

    open_before : OpenFrom (λ (a : ℕ). a ≤ length (up_to k)) (behind extra (up_to k))
    open_before =
        subst (OpenFrom (λ (a : ℕ). a ≤ length (up_to k))) (state_end extra (up_to k))
        (starts_before extra (up_to k) (length (up_to k)) (length (up_to k)) (omega arith) (omega arith))

    what : Told extra (up_to k) (behind extra (up_to k)) (get_or part k 0) ⊎ Refused extra (up_to k) (behind extra (up_to k)) (get_or part k 0)
    what = told apart (up_to k) (get_or part k 0) (behind extra (up_to k)) open_before

    -- the spot behind it, as the scan has it
    same_onward : onward extra y (length fed + suc k) (get_or part k 0)
        ≡ onward extra (spot_in (up_to k) (behind extra (up_to k))) (suc (length (up_to k))) (get_or part k 0)
    same_onward =
        let n : length fed + suc k ≡ suc (length (up_to k)) = omega (arith, long k l.inside) in
        ap (λ (x : Spot). onward extra x (length fed + suc k) (get_or part k 0)) l.at_spot
        ∙ ap (λ (a : ℕ). onward extra (spot_in (up_to k) (behind extra (up_to k))) a (get_or part k 0)) n

    stepped : step extra (behind extra (up_to k)) (length (up_to k)) (get_or part k 0) ≡ behind extra (up_to (suc k))
    stepped =
        sym
        (ap (behind extra) (longer k h)
        ∙ run_append extra (up_to k) (get_or part k 0 ∷ []) (gap []) 0
        ∙ ap (λ (n : ℕ). step extra (behind extra (up_to k)) n (get_or part k 0)) (omega arith))

    -- a target that is closed here
    shut_here : {b : ℕ} → Shut extra all b (length fed + k) → (ls : List Link) × (behind extra (up_to k) ≡ target ls b) × (get_or part k 0 ≡ 62)
    shut_here s = (
      s.held,
      sym (ap (behind extra) (front k)) ∙ s.stands,
      sym (get_or-append-add fed part k 0) ∙ s.octet,
    )

    slice_here : (b : ℕ) → slice b (length fed + k) all ≡ drop b (up_to k)
    slice_here b = ap (drop b) (front k)

    -- it leads on
    led_on : {z : Spot} → onward extra y (length fed + suc k) (get_or part k 0) ≡ z → Live z → Led z (suc k)
    led_on {z} e live = go what
      where
        go : Told extra (up_to k) (behind extra (up_to k)) (get_or part k 0) ⊎ Refused extra (up_to k) (behind extra (up_to k)) (get_or part k 0)
            → Led z (suc k)
        go (inr r) = absurd (live.not_unfit (ap (λ (x : Spot). x.phase) (sym e ∙ same_onward ∙ r.spot_then)))
        go (inl t) =
            let p : z.phase ≡ phase_of (step extra (behind extra (up_to k)) (length (up_to k)) (get_or part k 0)) =
            ap (λ (x : Spot). x.phase) (sym e ∙ same_onward) ∙ t.phase
            in
            let lives : phase_of (step extra (behind extra (up_to k)) (length (up_to k)) (get_or part k 0)) ≡ stuck → ⊥ =
            λ w. live.not_stuck (p ∙ w)
            in
            record {
              inside = h;
              at_spot =
                  sym e ∙ same_onward ∙ t.spot_on lives
                  ∙ ap (λ (x : State). spot_in (up_to k ++ get_or part k 0 ∷ []) x) stepped
                  ∙ ap (λ (u : List ℕ). spot_in u (behind extra (up_to (suc k)))) (sym (longer k h));
              alive =
                  sym (ap is_dead stepped) ∙ dead_phase (step extra (behind extra (up_to k)) (length (up_to k)) (get_or part k 0))
                  ∙ ne_eqb _ stuck lives;
              clean = λ b j s m. pick b j s (dec_lt j (length fed + k)) m;
            }
          where
            pick : (b j : ℕ) → Shut extra all b j → Dec (j < length fed + k) → j < length fed + suc k → ReferenceAt all b j
            pick b j s (yes m) n = l.clean b j s m
            pick b j s (no m) n =
                let q : j ≡ length fed + k = omega arith in
                let (ls, w, o) = shut_here (subst (λ (x : ℕ). Shut extra all b x) q s) in
                subst (ReferenceAt all b) (sym q)
                (subst IsReference (sym (slice_here b)) (steps_exact.reference (drop b (up_to k)) (t.accepted ls b w o)))

    -- it leads nowhere
    led_nowhere : (onward extra y (length fed + suc k) (get_or part k 0)).phase ≡ stuck → Place extra all (length fed + k)
    led_nowhere e = go what
      where
        go : Told extra (up_to k) (behind extra (up_to k)) (get_or part k 0) ⊎ Refused extra (up_to k) (behind extra (up_to k)) (get_or part k 0)
            → Place extra all (length fed + k)
        go (inr r) =
            let z : ◌≡◌ {A = ℕ} 13 12 = ap (λ (x : Spot). x.phase) (sym r.spot_then ∙ sym same_onward) ∙ e in
            absurd (omega arith)
        go (inl t) =
            let n : suc (length fed + k) ≡ length fed + suc k = omega arith in
            let dies : is_dead (behind extra (up_to (suc k))) ≡ true =
            sym (ap is_dead stepped)
            ∙ dead_phase (step extra (behind extra (up_to k)) (length (up_to k)) (get_or part k 0))
            ∙ eq-eqb _ stuck (sym t.phase ∙ ap (λ (x : Spot). x.phase) (sym same_onward) ∙ e)
            in
            halted extra apart all (length fed + k) (omega (arith, length-append fed part))
            (ap (λ (u : List ℕ). is_dead (behind extra u)) (front k) ∙ l.alive)
            (inr (ap (λ (i : ℕ). is_dead (behind extra (take i all))) n ∙ ap (λ (u : List ℕ). is_dead (behind extra u)) (front (suc k)) ∙ dies))
            l.clean

    -- it closes a target that is no reference
    led_refused : (onward extra y (length fed + suc k) (get_or part k 0)).phase ≡ unfit
        → Place extra all (onward extra y (length fed + suc k) (get_or part k 0)).target.0 × (Begun extra all → ⊥)
    led_refused e = go what
      where
        go : Told extra (up_to k) (behind extra (up_to k)) (get_or part k 0) ⊎ Refused extra (up_to k) (behind extra (up_to k)) (get_or part k 0)
            → Place extra all (onward extra y (length fed + suc k) (get_or part k 0)).target.0 × (Begun extra all → ⊥)
        go (inl t) =
            absurd
            (never_unfit (step extra (behind extra (up_to k)) (length (up_to k)) (get_or part k 0))
            (sym t.phase ∙ ap (λ (x : Spot). x.phase) (sym same_onward) ∙ e))
        go (inr r) =
            let shut : Shut extra all r.start (length fed + k) =
            record {
              inside = omega (arith, length-append fed part);
              octet = get_or-append-add fed part k 0 ∙ r.closes;
              held = r.held;
              stands = ap (behind extra) (front k) ∙ r.stands;
            }
            in
            let bad : ReferenceAt all r.start (length fed + k) → ⊥ =
            λ d.
            false≢true
            (sym r.refused ∙ steps_exact.accepted (drop r.start (up_to k)) (subst IsReference (slice_here r.start) d))
            in (
              subst (Place extra all) (sym (ap (λ (x : Spot). x.target.0) (same_onward ∙ r.spot_then)))
                  (first_target extra apart shut bad l.clean),
              λ b. b.references r.start (length fed + k) (shut_faulty extra apart shut bad),
            )

  -- ---- from octets of which nothing is wrong so far

  module _ (b : Begun extra fed) {x : Spot} (e : x ≡ spot_in fed (behind extra fed)) where
    -- none of their targets that is closed is faulty
    clean_fed : CleanTo extra all (length fed + 0)
    clean_fed a j s m = go (judged fed a j)
      where
        shut : Shut extra fed a j
        shut = shut_front extra fed part (omega arith) s

        go : ReferenceAt fed a j ⊎ (ReferenceAt fed a j → ⊥) → ReferenceAt all a j
        go (inl r) = subst IsReference (sym (slice_front fed part a j (omega arith))) r
        go (inr n) = absurd (b.references a j (shut_faulty extra apart shut n))

    led_none : Led x 0
    led_none =
        record {
          inside = omega arith;
          at_spot = e ∙ ap (λ (u : List ℕ). spot_in u (behind extra u)) (sym (append-nil fed));
          alive = ap (λ (u : List ℕ). is_dead (behind extra u)) (append-nil fed) ∙ begins_alive extra apart fed b.begins;
          clean = clean_fed;
        }

    led : {y : Spot} {k : ℕ} → Leads extra part (length fed) x 0 y k → Led y k
    led here = led_none
    led (further l h q live) = led_on (led l) h q live

    module _ {y : Spot} (l : Leads extra part (length fed) x 0 y (length part)) where
      whole : up_to (length part) ≡ all
      whole = ap (λ (u : List ℕ). fed ++ u) (take-length part)

      pub part_spot : y ≡ spot_in all (behind extra all)
      part_spot = (led l).at_spot ∙ ap (λ (u : List ℕ). spot_in u (behind extra u)) whole

      pub part_begun : Begun extra all
      part_begun =
          record {
            begins = alive_begins extra apart all (ap (λ (u : List ℕ). is_dead (behind extra u)) (sym whole) ∙ (led l).alive);
            references =
                λ a j f.
                f.no_reference
                ((led l).clean a j (faulty_shut extra apart f) (omega (arith, f.closed.inside, length-append fed part)));
          }

    pub part_place : {y : Spot} {k : ℕ} → Leads extra part (length fed) x 0 y k → k < length part
        → (onward extra y (length fed + suc k) (get_or part k 0)).phase ≡ stuck → Place extra all (length fed + k)
    part_place l h q = led_nowhere (led l) h q

    pub part_refused : {y : Spot} {k : ℕ} → Leads extra part (length fed) x 0 y k → k < length part
        → (onward extra y (length fed + suc k) (get_or part k 0)).phase ≡ unfit
        → Place extra all (onward extra y (length fed + suc k) (get_or part k 0)).target.0 × (Begun extra all → ⊥)
    part_refused l h q = led_refused (led l) h q
