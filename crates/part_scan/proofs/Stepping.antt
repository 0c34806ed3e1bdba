-- Steps outside of targets: one octet, one behind a run, and one behind another; and the moves that they are.
use Prim.Native.Nat.{ℕ, suc, ◌+◌, ◌≤◌, ◌<◌}
use native.Mathlib.Omega.{arith}
use mathlib.Core.Path.{◌≡◌, refl, sym, subst, ◌∙◌}
use mathlib.Core.Bool.{Bool, true, false, true≢false}
use mathlib.Core.List.{List}
use lib.Dec.{eqb}
use lib.ListN.{length, get_or}
use borrow.Author.Tests.{ne_eqb, eqb-false}
use Rattle.grammar.specs.Grammar.{Extra}
use Rattle.cursor.specs.Passed.{Passed}
use Rattle.kinds.specs.declared.Place.{Place}
use Rattle.cursor.specs.declared.Cursor.{Cursor}
use Rattle.phases.specs.declared.spot.Spot.{Spot}
use Rattle.phases.specs.Steps.{stuck, step_in}
use Rattle.phases.specs.Spots.{unfit, spot, flat, is_open, Normal, onward, Live, Leads, here}
use Rattle.part_scan.specs.declared.go_on.Move.TheVariants as moves
use Rattle.part_scan.specs.declared.outside.Step.{Step}
use Rattle.part_scan.specs.declared.outside.Step.TheVariants.{End, Halt, Open, To}
use Rattle.part_scan.specs.Moved.{Stays, Moved, ended, halted, moved}
use Rattle.part_scan.specs.Stepping.{Stepped, ends, halts, opens, steps}
use Rattle.part_scan.proofs.Leading.{Leaves, leads_on, leads_one, run_leads}
use Rattle.part_scan.proofs.OutSteps as outs
use Rattle.part_scan.proofs.OutSteps.{Out, out_step}

module _ {extra : Extra} {s : List ℕ} where
  -- ---- the octet at place i

  -- at the end of the text
  pub out_end : {p i : ℕ} → i ≤ length s → length s ≤ i → Stepped extra s p i (End p)
  out_end {p} {i} h l =
      let e : i ≡ length s = omega arith in
      ends (λ base. subst (λ (k : ℕ). Leads extra s base (flat p) i (flat p) k) e here)

  module _ {p q i : ℕ} (h : i < length s) (o : is_open p ≡ false) (e : q ≡ step_in extra p (get_or s i 0)) where
    -- nowhere
    pub out_halts : q ≡ stuck → Stepped extra s p i (Halt (record { 0 = i }))
    unfolding onward
    out_halts w =
        let n : step_in extra p (get_or s i 0) ≡ 12 = sym e ∙ w in
        halts (λ base. record { last = flat p; leads = here; inside = h; nowhere = rw (o, n) })

    -- into a target
    pub out_opens : {c : Cursor} → q ≡ 1 → c.at.0 ≡ suc i → Stepped extra s p i (Open c)
    unfolding onward
    out_opens {c} w k =
        let n : step_in extra p (get_or s i 0) ≡ 1 = sym e ∙ w in
        opens {c = c} (omega arith) (omega arith)
        (λ base.
        subst (λ (j : ℕ). Leads extra s base (flat p) i (spot 1 (base + j) 0) j) (sym k)
        (leads_one h (rw (o, n)) (record { not_stuck = λ z. omega arith; not_unfit = λ z. omega arith })))

    -- to another phase outside
    pub out_moves : {c : Cursor} → (q ≡ stuck → ⊥) → (q ≡ 1 → ⊥) → c.at.0 ≡ suc i → Stepped extra s p i (To q c)
    unfolding onward
    out_moves {c} m n k = go (subst Out (sym e) (out_step extra p (get_or s i 0) o)) refl
      where
        go : {r : ℕ} → Out r → r ≡ q → Stepped extra s p i (To q c)
        go outs.opens w = absurd (n (sym w))
        go (outs.outside {n = r} closed fit) w =
            let a : step_in extra p (get_or s i 0) ≡ r = sym e ∙ sym w in
            let b : eqb r 1 ≡ false = ne_eqb r 1 (λ z. n (sym w ∙ z)) in
            let live : Live (flat r) = record { not_stuck = λ z. m (sym w ∙ z); not_unfit = eqb-false r unfit fit } in
            subst (λ (z : ℕ). Stepped extra s p i (To z c)) w
            (steps {c = c} (omega arith) (omega arith) closed
            (λ base. subst (λ (j : ℕ). Leads extra s base (flat p) i (flat r) j) (sym k) (leads_one h (rw (o, a, b)) live)))

  -- ---- behind octets that leave the phase

  pub out_behind : {p a e q : ℕ} {r : Step} → a ≤ e → ((base : ℕ) → Leads extra s base (flat p) a (flat q) e) → Stepped extra s q e r
      → Stepped extra s p a r
  out_behind f l (ends m) = ends (λ base. leads_on (l base) (m base))
  out_behind f l (halts m) =
      halts
      (λ base.
      record {
        last = (m base).last;
        leads = leads_on (l base) (m base).leads;
        inside = (m base).inside;
        nowhere = (m base).nowhere;
      })
  out_behind f l (opens {c = c} g i m) = opens {c = c} (omega arith) i (λ base. leads_on (l base) (m base))
  out_behind f l (steps {c = c} g i o m) = steps {c = c} (omega arith) i o (λ base. leads_on (l base) (m base))

  pub out_run : {f : ℕ → Bool} {p q a e : ℕ} {r : Step} → p ≡ q → Leaves extra f q → Passed f s a e → Stepped extra s p e r
      → Stepped extra s p a r
  out_run {f} {p} {q} {a} {e} w leaves y m =
      out_behind y.forward
      (λ base. subst (λ (x : ℕ). Leads extra s base (flat x) a (flat x) e) (sym w) (run_leads leaves y.run)) m

  pub out_stays : {p q a e : ℕ} {r : Step} → p ≡ q → ((base : ℕ) → Stays extra s base q a e) → Stepped extra s p e r → Stepped extra s p a r
  out_stays {p} {q} {a} {e} w y m =
      out_behind (y 0).forward
      (λ base. subst (λ (x : ℕ). Leads extra s base (flat x) a (flat x) e) (sym w) (y base).leads) m

-- ---- one behind another

-- up to place i, where the phase is q
pub record OutSoFar (extra : Extra) (s : List ℕ) (p a q i : ℕ) : Type 0 where
  pub forward : a ≤ i
  pub inside : i ≤ length s
  pub closed : is_open q ≡ false
  pub leads : (base : ℕ) → Leads extra s base (flat p) a (flat q) i

pub none_out : (extra : Extra) (s : List ℕ) (p a : ℕ) → a ≤ length s → is_open p ≡ false → OutSoFar extra s p a p a
none_out extra s p a h o = record { forward = omega arith; inside = h; closed = o; leads = λ base. here }

module _ {extra : Extra} {s : List ℕ} {p a q i : ℕ} {r : Step} (f : OutSoFar extra s p a q i) (m : Stepped extra s q i r) where
  all_so_far : Stepped extra s p a r
  all_so_far = out_behind f.forward f.leads m

  -- the way ends as its last step does
  pub so_ends : {z : Step} → r ≡ z → Stepped extra s p a z
  so_ends e = subst (Stepped extra s p a) e all_so_far

  pub out_further : {n : ℕ} {c : Cursor} → r ≡ To n c → (i < c.at.0) × OutSoFar extra s p a n c.at.0
  out_further e = go (subst (Stepped extra s q i) e m)
    where
      go : {n : ℕ} {c : Cursor} → Stepped extra s q i (To n c) → (i < c.at.0) × OutSoFar extra s p a n c.at.0
      go (steps g h o l) = (
        g,
        record {
          forward = omega (arith, f.forward);
          inside = h;
          closed = o;
          leads = λ base. leads_on (f.leads base) (l base);
        },
      )

-- ---- as moves

module _ {extra : Extra} {s : List ℕ} {base a : ℕ} {x : Spot} {r : Step} (n : Normal x) (o : is_open x.phase ≡ false)
    (m : Stepped extra s x.phase a r) where
  from_flat : {z : Spot} {i : ℕ} → Leads extra s base (flat x.phase) a z i → Leads extra s base x a z i
  from_flat {z} {i} l = subst (λ (y : Spot). Leads extra s base y a z i) (sym (n o)) l

  pub move_ends : {q : ℕ} {z : Spot} → r ≡ End q → z ≡ flat q → Moved extra s base x a (moves.End z)
  move_ends e w = go (subst (Stepped extra s x.phase a) e m) w
    where
      go : {q : ℕ} {z : Spot} → Stepped extra s x.phase a (End q) → z ≡ flat q → Moved extra s base x a (moves.End z)
      go (ends l) w = subst (λ (y : Spot). Moved extra s base x a (moves.End y)) (sym w) (ended (from_flat (l base)))

  pub move_halts : {k : Place} → r ≡ Halt k → Moved extra s base x a (moves.Halt k)
  move_halts e = go (subst (Stepped extra s x.phase a) e m)
    where
      go : {k : Place} → Stepped extra s x.phase a (Halt k) → Moved extra s base x a (moves.Halt k)
      go (halts l) =
          let h = l base in
          halted (record { last = h.last; leads = from_flat h.leads; inside = h.inside; nowhere = h.nowhere })

  pub move_opens : {c : Cursor} {z : Spot} → r ≡ Open c → z ≡ spot 1 (base + c.at.0) 0 → Moved extra s base x a (moves.To z c)
  move_opens e w = go (subst (Stepped extra s x.phase a) e m) w
    where
      go : {c : Cursor} {z : Spot} → Stepped extra s x.phase a (Open c) → z ≡ spot 1 (base + c.at.0) 0
          → Moved extra s base x a (moves.To z c)
      go (opens {c = c} g i l) w =
          subst (λ (y : Spot). Moved extra s base x a (moves.To y c)) (sym w)
          (moved {c = c} g i (from_flat (l base)) (λ z. absurd (true≢false z)))

  pub move_steps : {q : ℕ} {c : Cursor} {z : Spot} → r ≡ To q c → z ≡ flat q → Moved extra s base x a (moves.To z c)
  move_steps e w = go (subst (Stepped extra s x.phase a) e m) w
    where
      go : {q : ℕ} {c : Cursor} {z : Spot} → Stepped extra s x.phase a (To q c) → z ≡ flat q → Moved extra s base x a (moves.To z c)
      go (steps {c = c} g i o l) w =
          subst (λ (y : Spot). Moved extra s base x a (moves.To y c)) (sym w) (moved {c = c} g i (from_flat (l base)) (λ z. refl))

-- a target that opens does so in the text
pub open_inside : {extra : Extra} {s : List ℕ} {p a : ℕ} {r : Step} → Stepped extra s p a r → {c : Cursor} → r ≡ Open c → c.at.0 ≤ length s
open_inside {extra} {s} {p} {a} m e = go (subst (Stepped extra s p a) e m)
  where
    go : {c : Cursor} → Stepped extra s p a (Open c) → c.at.0 ≤ length s
    go (opens g i l) = i
