-- No header has two readings, and whether it has one is decided.
use Prim.Native.Nat.{ℕ}
use native.Mathlib.Omega.{arith}
use mathlib.Core.Path.{◌≡◌, refl, sym, ap, subst, ◌∙◌}
use mathlib.Core.Logic.{◌⊎◌, inl, inr}
use mathlib.Core.List.{List, [], ◌∷◌, map}
use mathlib.Core.Option.{Option, none, some}
use lib.ListN.{length}
use Rattle.grammar.specs.Link.{Link}
use Rattle.grammar.specs.Grammar.{Extra, Admissible, Field}
use Rattle.grammar.specs.Targets.{ReferenceAt, References}
use Rattle.grammar.specs.Kept.{kept_link, Reading}
use Rattle.grammar.specs.Place.{Malformed}
use Rattle.grammar.specs.Laws.{OneReading, Decided}
use Rattle.grammar.specs.Machine.{gap, run, finish}
use Rattle.grammar.proofs.Exact.{derived_read, read_derived}
use Rattle.grammar.proofs.Places.{judged}

-- no header is derived with two lists of links
pub one_derived : (extra : Extra) → Admissible extra → (s : List ℕ) {R Q : List Link} → Field extra s R → Field extra s Q → R ≡ Q
one_derived extra apart s {R} {Q} f g =
    let a : finish (run extra (gap []) 0 s) (length s) ≡ some R = derived_read extra apart s f in
    let b : finish (run extra (gap []) 0 s) (length s) ≡ some Q = derived_read extra apart s g in
    cc

pub one_reading : OneReading
one_reading extra apart s K J a b =
    a.kept ∙ ap (map (kept_link s)) (one_derived extra apart s a.derived b.derived) ∙ sym b.kept

-- a header that the machine doesn't finish isn't derived
pub unread : (extra : Extra) → Admissible extra → (s : List ℕ) → finish (run extra (gap []) 0 s) (length s) ≡ none
    → (R : List Link) → Field extra s R → ⊥
unread extra apart s e R f =
    let a : finish (run extra (gap []) 0 s) (length s) ≡ some R = derived_read extra apart s f in
    let z : ◌≡◌ {A = ℕ} 0 1 = cc in
    omega arith

pub read_reading : (extra : Extra) → Admissible extra → (s : List ℕ) (R : List Link)
    → finish (run extra (gap []) 0 s) (length s) ≡ some R → References s R → Reading extra s (map (kept_link s) R)
read_reading extra apart s R e r = record { links = R; derived = read_derived extra apart s e; references = r; kept = refl }

-- whether all targets are references
pub all_judged : (s : List ℕ) (ls : List Link) → References s ls ⊎ (References s ls → ⊥)
all_judged s [] = inl tt
all_judged s (l ∷ ls) = go (judged s l.target_from l.target_to) (all_judged s ls)
  where
    go : ReferenceAt s l.target_from l.target_to ⊎ (ReferenceAt s l.target_from l.target_to → ⊥)
        → References s ls ⊎ (References s ls → ⊥) → References s (l ∷ ls) ⊎ (References s (l ∷ ls) → ⊥)
    go (inr n) w = inr (λ r. n r.0)
    go (inl y) (inr n) = inr (λ r. n r.1)
    go (inl y) (inl z) = inl (y, z)

pub decided : Decided
decided extra apart s = go (finish (run extra (gap []) 0 s) (length s)) refl
  where
    go : (x : Option (List Link)) → finish (run extra (gap []) 0 s) (length s) ≡ x
        → ((K : List Link) × Reading extra s K) ⊎ Malformed extra s
    go (some R) e = try (all_judged s R)
      where
        try : References s R ⊎ (References s R → ⊥) → ((K : List Link) × Reading extra s K) ⊎ Malformed extra s
        try (inl r) = inl (map (kept_link s) R, read_reading extra apart s R e r)
        try (inr n) =
            inr (λ Q f r. n (subst (References s) (one_derived extra apart s f (read_derived extra apart s e)) r))
    go none e = inr (λ R f _. unread extra apart s e R f)
