-- What is read at a place: the octet there, or behind a backslash the next one.
use Prim.Native.Nat.{ℕ, ◌+◌, ◌≤◌, ◌<◌}
use native.Mathlib.Omega.{arith}
use native.Mathlib.Numerals.{add-one}
use mathlib.Core.Path.{◌≡◌, refl}
use mathlib.Core.List.{List, []}
use lib.ListN.{length, get_or, take, length-take, drop_of_length-le}
use lib.Seq.{slice-cons}
use Rattle.values.specs.Rest.{Meant}
use Rattle.values.proofs.Meant.{none_left, at_plain}
use Rattle.units.specs.declared.Reading.{Reading}
use Rattle.units.specs.declared.Reading.TheVariants.{Unescaped, AsItStands}
use Rattle.units.specs.Seen.{seen, ReadAt, ReadsOctet, ReadsNone}

-- nothing is left at the end
pub nothing_left : (b : Reading) (s : List ℕ) {e k : ℕ} → e ≤ k → seen b s e k ≡ []
nothing_left Unescaped s h = none_left s h
nothing_left AsItStands s {e} {k} h = drop_of_length-le (take e s) {i = k} (simp length-take (omega arith))

pub at_its_end : (b : Reading) (s : List ℕ) {e k : ℕ} → e ≤ k → ReadsNone b s e k
at_its_end b s h = record { none = nothing_left b s h }

-- without backslashes
pub meant : {b : Reading} {s : List ℕ} {e k p : ℕ} → b ≡ Unescaped → Meant s e k p → ReadAt b s e k p
meant t m = rw t (record { from = m.from; to = m.to; octet = m.octet; none = m.none })

-- as it stands
pub stands : {b : Reading} (s : List ℕ) {e k : ℕ} → b ≡ AsItStands → k < e → e ≤ length s → ReadAt b s e k k
stands s {e} {k} t h l =
    rw t (record { from = omega arith; to = omega arith; octet = λ _. slice-cons k e s 0 h l; none = λ q. absurd (omega arith) })

-- which is the same where no backslash stands
pub plain : (b : Reading) (s : List ℕ) {e k : ℕ} → (get_or s k 0 ≡ 92 → ⊥) → k < e → e ≤ length s → ReadAt b s e k k
plain Unescaped s n h l = meant refl (at_plain h l n)
plain AsItStands s n h l = stands s refl h l

-- what is answered of it
module _ {b : Reading} {s : List ℕ} {e k p : ℕ} (r : ReadAt b s e k p) where
  pub reads_octet : p < e → {n : ℕ} → n ≡ p + 1 → ReadsOctet b s e k (get_or s p 0) n
  reads_octet h q = rw (q, add-one p) (record { octet = r.octet h; onward = omega (arith, r.from); inside = h })

  pub reads_none : e ≤ p → ReadsNone b s e k
  reads_none h = record { none = r.none h }
