-- Lists of packs with one pack more, and packs found in them by number. Assumes nothing.
use Prim.Native.Nat.{ℕ, zero, suc, ◌+◌, ◌≤◌, ◌<◌}
use native.Mathlib.Omega.{arith}
use mathlib.Core.Path.{◌≡◌, refl, sym, ap, subst, ◌∙◌}
use mathlib.Core.Logic.{◌⊎◌, inl, inr}
use mathlib.Core.List.{List, [], ◌∷◌, ◌++◌}
use mathlib.Core.Option.{Option, none, some}
use lib.ListN.{length}
use Rattle.tables.specs.Good.{Each, each_none, each_more}
use Rattle.catalogues.specs.Packs.{Pack, Absent, Distinct, one_more}
use Rattle.catalogues.specs.Packs as packs
use Rattle.catalogues.specs.Steps.{pack_at}

-- a pack is there for each number below the count, and for no other
pub pack_there : (ps : List Pack) (i : ℕ) → i < length ps → (p : Pack) × (pack_at ps i ≡ some p)
pack_there [] i h = absurd (omega (arith, h))
pack_there (p ∷ ps) zero h = (p, refl)
pack_there (p ∷ ps) (suc i) h = pack_there ps i (omega (arith, h))

pub number_below : (ps : List Pack) (i : ℕ) {p : Pack} → pack_at ps i ≡ some p → i < length ps
number_below [] i e = let z : ◌≡◌ {A = ℕ} 0 1 = cc in absurd (omega arith)
number_below (q ∷ ps) zero e = omega arith
number_below (q ∷ ps) (suc i) e = omega (arith, number_below ps i e)

pub each_at : {P : Pack → Type 0} (ps : List Pack) (i : ℕ) {p : Pack} → Each P ps → pack_at ps i ≡ some p → P p
each_at [] i a e = let z : ◌≡◌ {A = ℕ} 0 1 = cc in absurd (omega arith)
each_at {P} (q ∷ ps) zero (each_more h a) e = subst P (ap (λ (o : Option Pack). get o) e) h
  where
    get : Option Pack → Pack
    get none = q
    get (some x) = x
each_at (q ∷ ps) (suc i) (each_more h a) e = each_at ps i a e

pub at_each : {P : Pack → Type 0} (ps : List Pack) → ((i : ℕ) (p : Pack) → pack_at ps i ≡ some p → P p) → Each P ps
at_each [] f = each_none
at_each (p ∷ ps) f = each_more (f 0 p refl) (at_each ps (λ i. f (suc i)))

-- of a list with one pack more
pub last_or_before : (ps : List Pack) (q : Pack) (i : ℕ) {p : Pack} → pack_at (ps ++ (q ∷ [])) i ≡ some p
    → ((i < length ps) × (pack_at ps i ≡ some p)) ⊎ ((i ≡ length ps) × (q ≡ p))
last_or_before [] q zero {p} e = let same : q ≡ p = cc in inr (refl, same)
last_or_before [] q (suc i) e = let z : ◌≡◌ {A = ℕ} 0 1 = cc in absurd (omega arith)
last_or_before (r ∷ ps) q zero e = inl (omega arith, e)
last_or_before (r ∷ ps) q (suc i) {p} e = go (last_or_before ps q i e)
  where
    go : ((i < length ps) × (pack_at ps i ≡ some p)) ⊎ ((i ≡ length ps) × (q ≡ p))
        → ((suc i < length (r ∷ ps)) × (pack_at ps i ≡ some p)) ⊎ ((suc i ≡ length (r ∷ ps)) × (q ≡ p))
    go (inl h) = inl (omega (arith, h.0), h.1)
    go (inr h) = inr (ap suc h.0, h.1)

absent_append : {w : List ℕ} {ps : List Pack} (q : Pack) → Absent w ps → (q.uri ≡ w → ⊥) → Absent w (ps ++ (q ∷ []))
absent_append q each_none n = each_more n each_none
absent_append q (each_more h a) n = each_more h (absent_append q a n)

-- a URI that none has is one more
pub distinct_more : {ps : List Pack} (q : Pack) → Distinct ps → Absent q.uri ps → Distinct (ps ++ (q ∷ []))
distinct_more q packs.none a = one_more each_none packs.none
distinct_more q (one_more h d) (each_more n a) = one_more (absent_append q h (λ e. n (sym e))) (distinct_more q d a)

absent_behind : {w : List ℕ} (ps : List Pack) (q : Pack) (qs : List Pack) → Absent w (ps ++ (q ∷ qs)) → q.uri ≡ w → ⊥
absent_behind [] q qs (each_more h a) = h
absent_behind (p ∷ ps) q qs (each_more h a) = absent_behind ps q qs a

-- a pack has no URI of one before it
pub distinct_apart : (ps : List Pack) (q : Pack) (qs : List Pack) → Distinct (ps ++ (q ∷ qs)) → (i : ℕ) {p : Pack} → pack_at ps i ≡ some p
    → p.uri ≡ q.uri → ⊥
distinct_apart [] q qs d i e u = let z : ◌≡◌ {A = ℕ} 0 1 = cc in omega arith
distinct_apart (r ∷ ps) q qs (one_more h d) zero {p} e u =
    let same : r ≡ p = cc in absent_behind ps q qs h (sym u ∙ ap (λ (x : Pack). x.uri) (sym same))
distinct_apart (r ∷ ps) q qs (one_more h d) (suc i) e u = distinct_apart ps q qs d i e u
