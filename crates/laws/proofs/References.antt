-- Whether targets are references is computed.
use Prim.Native.Nat.{ℕ}
use mathlib.Core.Path.{◌≡◌, sym, ◌∙◌}
use mathlib.Core.Bool.{Bool, true, false, ◌&&◌, false≢true}
use mathlib.Core.List.{List, [], ◌∷◌}
use lib.Seq.{slice}
use Rattle.octets.proofs.Octets.{both}
use Rattle.rules.specs.Left.{matches}
use Rattle.rules.proofs.Lefts.{matches_sound, matches_complete}
use Rattle.references.specs.Octets.{has}
use Rattle.references.specs.AppendixA.{uri_reference}
use Rattle.grammar.specs.Link.{Link}
use Rattle.grammar.specs.Targets.{ReferenceAt, References}

-- the octets from place a up to place k are a reference, and so are those of every target
abbrev pub is_reference : List ℕ → ℕ → ℕ → Bool
is_reference h a k = matches has uri_reference (slice a k h)

abbrev pub are_references : List ℕ → List Link → Bool
are_references h [] = true
are_references h (l ∷ ls) = is_reference h l.target_from l.target_to && are_references h ls

pub is_reference_lem : (h : List ℕ) (a k : ℕ) → is_reference h a k ≡ true → ReferenceAt h a k
is_reference_lem h a k e = matches_sound has uri_reference (slice a k h) e

pub no_reference : (h : List ℕ) (a k : ℕ) → is_reference h a k ≡ false → ReferenceAt h a k → ⊥
no_reference h a k e r = false≢true (sym e ∙ matches_complete has uri_reference (slice a k h) r)

pub are_references_lem : (h : List ℕ) (ls : List Link) → are_references h ls ≡ true → References h ls
are_references_lem h [] e = tt
are_references_lem h (l ∷ ls) e =
    let (x, y) = both (is_reference h l.target_from l.target_to) (are_references h ls) e in
    (is_reference_lem h l.target_from l.target_to x, are_references_lem h ls y)
