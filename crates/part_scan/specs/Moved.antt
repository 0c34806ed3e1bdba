-- What the scan of a part promises. Before the part s stand `base` octets of the header.
use Rattle.std.specs.Prelude.{ℕ, suc, ◌+◌, ◌≤◌, ◌<◌, ◌≡◌, List, length, get_or}
use Rattle.std.proofs.Math.Seq.{slice}
use Rattle.reference_steps.specs.Machine as judge
use Rattle.grammar.specs.Grammar.{Extra}
use Rattle.kinds.specs.declared.Place.{Place}
use Rattle.cursor.specs.declared.Cursor.{Cursor}
use Rattle.phases.specs.declared.spot.Spot.{Spot}
use Rattle.phases.specs.Steps.{stuck}
use Rattle.phases.specs.Spots.{unfit, spot, flat, Normal, onward, Leads}
use Rattle.part_scan.specs.declared.go_on.Move.{Move}
use Rattle.part_scan.specs.declared.go_on.Move.TheVariants.{End, Halt, Unfit, To}
use Rattle.part_scan.specs.declared.PartScan as scan
use Rattle.part_scan.specs.declared.PartScan.TheVariants as scans

module _ (extra : Extra) (s : List ℕ) (base : ℕ) where
  -- outside targets, octets that lead to the phase p again at place e
  pub record Stays (p a e : ℕ) : Type 0 where
    pub forward : a ≤ e
    pub inside : e ≤ length s
    pub leads : Leads extra s base (flat p) a (flat p) e

  -- octets that lead to a spot at which the octet at place k leads nowhere
  pub record Halts (x : Spot) (a k : ℕ) : Type 0 where
    pub last : Spot
    pub leads : Leads extra s base x a last k
    pub inside : k < length s
    pub nowhere : (onward extra last (base + suc k) (get_or s k 0)).phase ≡ stuck

  -- octets that lead to a spot at which the octet at some place closes the target that begins at t, which is no reference
  pub record Refuses (x : Spot) (a t : ℕ) : Type 0 where
    pub last : Spot
    pub place : ℕ
    pub leads : Leads extra s base x a last place
    pub inside : place < length s
    pub refused : (onward extra last (base + suc place) (get_or s place 0)).phase ≡ unfit
    pub start : (onward extra last (base + suc place) (get_or s place 0)).target.0 ≡ t

  -- from the spot x at place a
  pub data Moved (x : Spot) (a : ℕ) : Move → Type 0 where
    ended : {y : Spot} → Leads extra s base x a y (length s) → Moved x a (End y)
    halted : {k : Place} → Halts x a k.0 → Moved x a (Halt k)
    refused : {t : Place} → Refuses x a t.0 → Moved x a (Unfit t)
    moved : {y : Spot} {c : Cursor} → a < c.at.0 → c.at.0 ≤ length s → Leads extra s base x a y c.at.0 → Normal y
        → Moved x a (To y c)

  -- the whole part, from the spot x on
  pub data PartScanned (x : Spot) : scan.PartScan → Type 0 where
    through : {y : Spot} → Leads extra s base x 0 y (length s) → PartScanned x (scans.Through y)
    stuck_at : {k : Place} → Halts x 0 k.0 → PartScanned x (scans.Stuck k)
    unfit_at : {t : Place} → Refuses x 0 t.0 → PartScanned x (scans.Unfit t)

-- the spot behind the octets of a target from place a up to place e
abbrev pub judged_to : List ℕ → Spot → ℕ → ℕ → Spot
judged_to s x a e = spot x.phase x.target.0 (judge.run x.judged (slice a e s))
