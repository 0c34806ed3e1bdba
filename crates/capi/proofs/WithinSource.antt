-- A part that is handed out lies in its source.
use Prim.Native.Nat.{ℕ}
use native.Mathlib.Omega.{arith}
use mathlib.Core.Path.{◌≡◌}
use mathlib.Core.List.{List}
use Rattle.octets.specs.Text.{octets}
use Rattle.octets.specs.declared.editions.Edition.{Edition}
use Rattle.tables.specs.Table.{Table}
use Rattle.tables.specs.Good.{InText}
use Rattle.outcomes.specs.InEdition.{unknown, known}
use Rattle.outcomes.specs.Usable.{Usable, refused, usable}
use Rattle.outcomes.specs.Context.{ContextOut, ContextOf, Context, no_such_link, anchored, unanchored}
use Rattle.tables.proofs.InGood.{good_link, named_each}
use Rattle.answers.specs.Context.{context_numbers}
use Rattle.answers.specs.declared.context_answer.ContextNumbers.{ContextNumbers}
use Rattle.capi.specs.ContextTold.{source_octets, ContextTold}

-- a refusal's part is empty
empty_part : (s : List ℕ) → InText s 0 0
empty_part s = record { ordered = omega arith; inside = omega arith }

within_usable : {e : Edition} (t : Table) (base : List ℕ) (i : ℕ) {o : ContextOut} → Usable e t → ContextOf t base i o
    → InText (source_octets t.text base (context_numbers o).source) o.start o.end
within_usable t base i u (no_such_link h) = empty_part _
within_usable t base i u (anchored h q) =
    (named_each t.text (octets "anchor") (good_link u.good h).params q).value_span
within_usable t base i u (unanchored h q) = record { ordered = omega arith; inside = omega arith }

within : {n : ℕ} (t : Table) (base : List ℕ) (i : ℕ) {o : ContextOut} → Context n t base i o
    → InText (source_octets t.text base (context_numbers o).source) o.start o.end
within t base i (unknown z) = empty_part _
within t base i (known q (refused r)) = empty_part _
within t base i (known q (usable u x)) = within_usable t base i u x

pub is_told : {n : ℕ} {t : Table} {base : List ℕ} {i : ℕ} {o : ContextOut} {r : ContextNumbers} → Context n t base i o
    → r ≡ context_numbers o → ContextTold n t base i r
is_told {t = t} {base} {i} {o} c e = record { out = o; outcome = c; numbers = e; within = rw e (within t base i c) }
