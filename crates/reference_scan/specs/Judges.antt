-- What judging a text from a place on tells.
use Rattle.std.specs.Prelude.{ℕ, ◌≤◌, ◌<◌, ◌≡◌, List, length, get_or}
use Rattle.std.proofs.Math.Seq.{slice}
use Rattle.reference_steps.specs.Machine.{step, run}
use Rattle.reference_scan.specs.declared.Judged.{Judged}

-- From place a in the state q: r has the state behind the octets before its place, and the octet at its place leads nowhere. No octet that
-- leads nowhere is passed.
pub record Judges (s : List ℕ) (a q : ℕ) (r : Judged) : Type 0 where
  pub forward : a ≤ r.at.at.0
  pub inside : r.at.at.0 ≤ length s
  pub state : r.state ≡ run q (slice a r.at.at.0 s)
  pub stops : r.at.at.0 < length s → step r.state (get_or s r.at.at.0 0) ≡ 54
  pub lives : (q ≡ 54 → ⊥) → r.state ≡ 54 → ⊥
