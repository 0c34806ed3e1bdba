-- Notes of numbers that 16 bits hold, copied: the numbers themselves.
use Prim.Native.Nat.{ℕ, ◌+◌, ◌≤◌, ◌<◌}
use native.Mathlib.Omega.{arith}
use native.Mathlib.Nat.{mod-eq_of_lt}
use mathlib.Core.Path.{◌≡◌, refl, ap, ap₂, ◌∙◌}
use mathlib.Core.List.{List, ◌∷◌, ◌++◌, map}
use lib.ListN.{length, take, drop}
use lib.Seq.{sets, take_at}
use Rattle.kinds.proofs.Stores.{sets_front}
use Rattle.tables.specs.Good.{Each, each_none, each_more}
use Rattle.notes.specs.Noted.{low, Noted}

-- numbers that 16 bits hold
abbrev pub Small : List ℕ → Type 0
Small ns = Each (λ (n : ℕ). n < 65536) ns

low_same : {ns : List ℕ} → Small ns → map low ns ≡ ns
low_same each_none = refl
low_same (each_more h t) = ap₂ (λ (n : ℕ) (ns : List ℕ). n ∷ ns) (mod-eq_of_lt h) (low_same t)

pub copied : (a ns : List ℕ) {old new b : List ℕ} {k : ℕ} → Noted old new 0 ns → Small ns → length ns ≡ k → k ≤ length new → k ≤ length a
    → b ≡ sets a 0 (take k new) → b ≡ ns ++ drop k a
copied a ns {old} {new} {b} {k} w s e h r c =
    let held : new ≡ ns ++ drop (length ns) old =
    w.holds (omega (arith, w.lengths)) ∙ ap (sets old 0) (low_same s) ∙ sets_front old ns (omega (arith, w.lengths))
    in
    let front : take k new ≡ ns = ap (take k) held ∙ take_at ns (drop (length ns) old) k e in
    c ∙ ap (sets a 0) front ∙ sets_front a ns (omega arith) ∙ ap (λ (n : ℕ). ns ++ drop n a) e
