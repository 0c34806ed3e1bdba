-- What writing answers on a usable table.
use Prim.Native.Nat.{ℕ, ◌≤◌}
use native.Mathlib.Omega.{arith}
use mathlib.Core.Path.{◌≡◌, ◌∙◌}
use mathlib.Core.List.{List, ◌++◌}
use lib.ListN.{length, drop}
use Rattle.kinds.specs.Put.{Put}
use Rattle.kinds.proofs.Stores.{sets_front}
use Rattle.tables.specs.Table.{Table}
use Rattle.outcomes.specs.Number.{limit, done, no_relation_number}
use Rattle.outcomes.specs.Copy.{untouched}
use Rattle.outcomes.specs.Write.{written_form, Related, Wrote, no_relation, long_form, no_room, wrote}
use Rattle.answers.specs.Refusal.{refusal_number}
use Rattle.answers.specs.declared.Refusal.{Refusal}
use Rattle.writer.specs.Room.{Over, over_limit, over_room}
use Rattle.writer.specs.Related.{Unrelated}

module _ {t : Table} (out : List ℕ) where
  pub unrelated_answer : Unrelated t → Wrote t out (untouched out no_relation_number)
  unrelated_answer r = no_relation r.1 r.2

  -- a form that doesn't fit
  pub over_answer : Related t → {w : Refusal} → Over (length (written_form t)) (length out) w → Wrote t out (untouched out (refusal_number w))
  over_answer r (over_limit h) = long_form r h
  over_answer r (over_room h k) = no_room r h k

  -- the length is told by the place behind what was put
  pub written_answer : {new : List ℕ} {to : ℕ} → Related t → (length (written_form t) ≤ limit) × (length (written_form t) ≤ length out)
      → Put out new 0 to (written_form t) → Wrote t out (record { number = done; count = to; buffer = new })
  written_answer {new} {to} r l p =
      let b : new ≡ written_form t ++ drop (length (written_form t)) out = p.buffer ∙ sets_front out (written_form t) l.1 in
      let n : to ≡ length (written_form t) = omega (arith, p.place) in
      rw (n, b) (wrote r l.0 l.1)
