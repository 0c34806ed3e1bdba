-- What moves outside of targets promise.
use Rattle.std.specs.Prelude.{ℕ, ◌+◌, ◌≤◌, ◌<◌, ◌≡◌, false, List, length}
use Rattle.grammar.specs.Grammar.{Extra}
use Rattle.kinds.specs.declared.Place.{Place}
use Rattle.cursor.specs.declared.Cursor.{Cursor}
use Rattle.phases.specs.Spots.{spot, flat, is_open, Leads}
use Rattle.part_scan.specs.Moved.{Halts}
use Rattle.part_scan.specs.declared.outside.Step.{Step}
use Rattle.part_scan.specs.declared.outside.Step.TheVariants.{End, Halt, Open, To}

-- from the phase p, which is outside of targets, at place a of the text s, however many octets of the header stand before s
pub data Stepped (extra : Extra) (s : List ℕ) (p a : ℕ) : Step → Type 0 where
  ends : {q : ℕ} → ((base : ℕ) → Leads extra s base (flat p) a (flat q) (length s)) → Stepped extra s p a (End q)
  halts : {k : Place} → ((base : ℕ) → Halts extra s base (flat p) a k.0) → Stepped extra s p a (Halt k)
  opens : {c : Cursor} → a < c.at.0 → c.at.0 ≤ length s
      → ((base : ℕ) → Leads extra s base (flat p) a (spot 1 (base + c.at.0) 0) c.at.0) → Stepped extra s p a (Open c)
  steps : {q : ℕ} {c : Cursor} → a < c.at.0 → c.at.0 ≤ length s → is_open q ≡ false
      → ((base : ℕ) → Leads extra s base (flat p) a (flat q) c.at.0) → Stepped extra s p a (To q c)
