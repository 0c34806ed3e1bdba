-- What octets leave as it is, moves in a target, and a part scanned move by move.
use Prim.Native.Nat.{ℕ, suc, ◌+◌, ◌≤◌, ◌<◌}
use native.Mathlib.Omega.{arith}
use mathlib.Core.Path.{◌≡◌, sym, ap, subst, ◌∙◌}
use mathlib.Core.Bool.{Bool}
use mathlib.Core.List.{List}
use lib.ListN.{length, get_or}
use Rattle.octets.specs.Sets.{is_target, is_plain, is_escapable}
use Rattle.grammar.specs.Grammar.{Extra, At, In}
use Rattle.cursor.specs.Passed.{Passed}
use Rattle.kinds.specs.declared.Place.{Place}
use Rattle.cursor.specs.declared.Cursor.{Cursor}
use Rattle.phases.specs.declared.spot.Spot.{Spot}
use Rattle.phases.specs.Steps.{stuck}
use Rattle.phases.specs.Spots.{unfit, spot, Normal, onward, Live, Leads, here}
use Rattle.part_scan.specs.declared.go_on.Move.{Move}
use Rattle.part_scan.specs.declared.go_on.Move.TheVariants.{End, Halt, Unfit, To}
use Rattle.part_scan.specs.declared.PartScan.TheVariants as scans
use Rattle.part_scan.specs.Moved.{Stays, Moved, ended, halted, refused, moved, judged_to}
use Rattle.part_scan.specs.Moved.{PartScanned, through, stuck_at, unfit_at}
use Rattle.part_scan.proofs.Normals.{onward_normal}
use Rattle.part_scan.proofs.Leading.{Leaves, leads_on, leads_one, run_leads, pair_leads, target_leads, plain_quote}

-- the place behind place i, as the code counts it
pub place_as : (extra : Extra) (x z : Spot) (base i c : ℕ) → z ≡ onward extra x (base + i + 1) c → onward extra x (base + suc i) c ≡ z
place_as extra x z base i c e =
    let p : base + suc i ≡ base + i + 1 = omega arith in
    ap (λ (a : ℕ). onward extra x a c) p ∙ sym e

module _ {extra : Extra} {s : List ℕ} {base : ℕ} where
  -- ---- outside targets

  -- a run of octets that leave the phase
  pub passed_stays : {f : ℕ → Bool} {p a e : ℕ} → Leaves extra f p → Passed f s a e → Stays extra s base p a e
  passed_stays leaves x = record { forward = x.forward; inside = x.inside; leads = run_leads leaves x.run }

  pub stays_on : {p a i e : ℕ} → Stays extra s base p a i → Stays extra s base p i e → Stays extra s base p a e
  stays_on x y =
      record {
        forward = omega (arith, x.forward, y.forward);
        inside = y.inside;
        leads = leads_on x.leads y.leads;
      }

  -- nothing is passed
  pub stays_here : {p a : ℕ} → a ≤ length s → Stays extra s base p a a
  stays_here h = record { forward = omega arith; inside = h; leads = here }

  -- plain octets inside quotes
  pub plain_stays : {a e : ℕ} → Passed is_plain s a e → Stays extra s base 10 a e
  plain_stays x = passed_stays plain_quote x

  -- a pair inside quotes, and the plain octets behind it
  pub pair_stays : {a e : ℕ} → At s a 92 → In s is_escapable (suc a) → Passed is_plain s (suc (suc a)) e → Stays extra s base 10 a e
  pair_stays {a} b x r =
      record {
        forward = omega (arith, r.forward);
        inside = r.inside;
        leads = leads_on (pair_leads b x) (plain_stays r).leads;
      }

  -- ---- a move behind octets that lead to its spot

  behind_leads : {x y : Spot} {a e : ℕ} {r : Move} → a ≤ e → Leads extra s base x a y e → Moved extra s base y e r → Moved extra s base x a r
  behind_leads f l (ended m) = ended (leads_on l m)
  behind_leads f l (halted h) =
      halted (record { last = h.last; leads = leads_on l h.leads; inside = h.inside; nowhere = h.nowhere })
  behind_leads f l (refused h) =
      refused
      (record {
        last = h.last;
        place = h.place;
        leads = leads_on l h.leads;
        inside = h.inside;
        refused = h.refused;
        start = h.start;
      })
  behind_leads f l (moved {c = c} g i m n) = moved {c = c} (omega arith) i (leads_on l m) n

  -- behind a target's octets
  pub target_move : {x : Spot} {a e : ℕ} {r : Move} → x.phase ≡ 1 → Passed is_target s a e → Moved extra s base (judged_to s x a e) e r
      → Moved extra s base x a r
  target_move {x} {a} {e} g y m =
      behind_leads y.forward
      (subst (λ (p : ℕ). Leads extra s base (spot p x.target.0 x.judged) a (spot p x.target.0 (judged_to s x a e).judged) e) (sym g)
      (target_leads x.target.0 x.judged y.inside y.run))
      m

  -- ---- the octet at place i

  -- at the end of the text
  pub at_its_end : {x : Spot} {i : ℕ} → i ≤ length s → length s ≤ i → Moved extra s base x i (End x)
  at_its_end {x} {i} h l =
      let e : i ≡ length s = omega arith in
      ended (subst (λ (k : ℕ). Leads extra s base x i x k) e here)

  module _ {x z : Spot} {i : ℕ} (h : i < length s) (on : onward extra x (base + suc i) (get_or s i 0) ≡ z) where
    -- it leads nowhere
    pub one_halts : z.phase ≡ stuck → Moved extra s base x i (Halt (record { 0 = i }))
    one_halts q = halted (record { last = x; leads = here; inside = h; nowhere = ap (λ (y : Spot). y.phase) on ∙ q })

    -- it closes a target that is no reference
    pub one_refused : z.phase ≡ unfit → Moved extra s base x i (Unfit z.target)
    one_refused q =
        refused
        (record {
          last = x;
          place = i;
          leads = here;
          inside = h;
          refused = ap (λ (y : Spot). y.phase) on ∙ q;
          start = ap (λ (y : Spot). y.target.0) on;
        })

    -- it leads on
    pub one_moves : {c : Cursor} → (z.phase ≡ stuck → ⊥) → (z.phase ≡ unfit → ⊥) → c.at.0 ≡ suc i → Moved extra s base x i (To z c)
    one_moves {c} m n k =
        let live : Live z = record { not_stuck = m; not_unfit = n } in
        moved {c = c} (omega arith) (omega arith)
        (subst (λ (j : ℕ). Leads extra s base x i z j) (sym k) (leads_one h on live))
        (subst (λ (y : Spot). (y.phase ≡ stuck → ⊥) → (y.phase ≡ unfit → ⊥) → Normal y) on (onward_normal extra x (base + suc i) (get_or s i 0)) m n)

-- ---- a part scanned move by move

-- up to place i, where the spot is y
pub record SoFar (extra : Extra) (s : List ℕ) (base : ℕ) (x y : Spot) (i : ℕ) : Type 0 where
  pub inside : i ≤ length s
  pub leads : Leads extra s base x 0 y i
  pub is_normal : Normal y

pub none_yet : (extra : Extra) (s : List ℕ) (base : ℕ) {x : Spot} → Normal x → SoFar extra s base x x 0
none_yet extra s base n = record { inside = omega arith; leads = here; is_normal = n }

module _ {extra : Extra} {s : List ℕ} {base : ℕ} {x y : Spot} {i : ℕ} {r : Move} (f : SoFar extra s base x y i)
    (m : Moved extra s base y i r) where
  pub goes_through : {z : Spot} → r ≡ End z → PartScanned extra s base x (scans.Through z)
  goes_through e = go (subst (Moved extra s base y i) e m)
    where
      go : {z : Spot} → Moved extra s base y i (End z) → PartScanned extra s base x (scans.Through z)
      go (ended l) = through (leads_on f.leads l)

  pub gets_stuck : {k : Place} → r ≡ Halt k → PartScanned extra s base x (scans.Stuck k)
  gets_stuck e = go (subst (Moved extra s base y i) e m)
    where
      go : {k : Place} → Moved extra s base y i (Halt k) → PartScanned extra s base x (scans.Stuck k)
      go (halted h) =
          stuck_at (record { last = h.last; leads = leads_on f.leads h.leads; inside = h.inside; nowhere = h.nowhere })

  pub gets_refused : {t : Place} → r ≡ Unfit t → PartScanned extra s base x (scans.Unfit t)
  gets_refused e = go (subst (Moved extra s base y i) e m)
    where
      go : {t : Place} → Moved extra s base y i (Unfit t) → PartScanned extra s base x (scans.Unfit t)
      go (refused h) =
          unfit_at
          (record {
            last = h.last;
            place = h.place;
            leads = leads_on f.leads h.leads;
            inside = h.inside;
            refused = h.refused;
            start = h.start;
          })

  -- it is further on
  module _ {z : Spot} {c : Cursor} (e : r ≡ To z c) where
    pub is_further : (i < c.at.0) × (c.at.0 ≤ length s)
    is_further = go (subst (Moved extra s base y i) e m)
      where
        go : {z : Spot} {c : Cursor} → Moved extra s base y i (To z c) → (i < c.at.0) × (c.at.0 ≤ length s)
        go (moved g h l n) = (g, h)

    pub so_further : SoFar extra s base x z c.at.0
    so_further = go (subst (Moved extra s base y i) e m)
      where
        go : {z : Spot} {c : Cursor} → Moved extra s base y i (To z c) → SoFar extra s base x z c.at.0
        go (moved g h l n) = record { inside = h; leads = leads_on f.leads l; is_normal = n }
