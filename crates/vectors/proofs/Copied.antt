-- What is copied or written fits the buffer that holds it.
use Prim.Native.Nat.{ℕ, ◌≤◌}
use mathlib.Core.List.{List}
use native.Mathlib.Omega.{arith}
use lib.ListN.{length, drop, length-append}
use Rattle.tables.specs.Table.{Table}
use Rattle.outcomes.specs.Copy.{CopyOut, Copied, Copy, meant, no_such_link, no_such_param, no_room, copied}
use Rattle.outcomes.specs.Write as Writing
use Rattle.outcomes.proofs.Usable.{over_any}

abbrev Fits : CopyOut → Type 0
Fits o = o.count ≤ length o.buffer

copied_fits : {t : Table} {i j : ℕ} {old : List ℕ} (o : CopyOut) → Copied t i j old o → Fits o
copied_fits _ (no_such_link b) = omega arith
copied_fits _ (no_such_param b c) = omega arith
copied_fits _ (no_room b c d) = omega arith
copied_fits {t} {i} {j} {old} _ (copied b c d) =
    omega (arith, length-append (meant t i j) (drop (length (meant t i j)) old))

pub count_fits : {n : ℕ} {t : Table} {i j : ℕ} {old : List ℕ} {o : CopyOut} → Copy n t i j old o → o.count ≤ length o.buffer
count_fits {o = o} d = over_any Fits (λ k z. omega arith) copied_fits o d

wrote_fits : {t : Table} {old : List ℕ} (o : CopyOut) → Writing.Wrote t old o → Fits o
wrote_fits _ (Writing.no_relation b c) = omega arith
wrote_fits _ (Writing.long_form b c) = omega arith
wrote_fits _ (Writing.no_room b c d) = omega arith
wrote_fits {t} {old} _ (Writing.wrote b c d) =
    omega (arith, length-append (Writing.written_form t) (drop (length (Writing.written_form t)) old))

pub written_count : {n : ℕ} {t : Table} {old : List ℕ} {o : CopyOut} → Writing.Write n t old o → o.count ≤ length o.buffer
written_count {o = o} d = over_any Fits (λ k z. omega arith) wrote_fits o d
