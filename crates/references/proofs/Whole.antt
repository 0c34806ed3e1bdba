-- What was cut makes the text again. Assumes nothing.
use Prim.Native.Nat.{ℕ}
use mathlib.Core.Path.{◌≡◌, refl, sym, ap, subst, ◌∙◌}
use mathlib.Core.Bool.{Bool, true, false, cond, ◌||◌, false≢true}
use mathlib.Core.List.{List, [], ◌∷◌, ◌++◌, append_assoc}
use mathlib.Core.Option.{Option, none, some, IsSome}
use lib.Dec.{eqb}
use borrow.Author.Tests.{eqb-true}
use Rattle.octets.specs.Text.{octets}
use Rattle.octets.specs.Sets.{one_of}
use Rattle.references.specs.Components.{marked, ended, before, from, behind, cut_at, cut_scheme, cut_before, cut_marked}
use Rattle.references.specs.Laws.{NothingLost}
use Rattle.references.proofs.Cuts.{Stops}

pub before_from : (cs w : List ℕ) → before cs w ++ from cs w ≡ w
before_from cs [] = refl
before_from cs (c ∷ w) = go (one_of cs c) (before_from cs w)
  where
    go : (b : Bool) → before cs w ++ from cs w ≡ w → cond b [] (c ∷ before cs w) ++ cond b (c ∷ w) (from cs w) ≡ c ∷ w
    go true e = refl
    go false e = ap {B = List ℕ} (λ v. c ∷ v) e

-- w is m and what stands behind it
behind_whole : (m w v : List ℕ) → behind m w ≡ some v → w ≡ m ++ v
behind_whole [] w v e = cc
behind_whole (x ∷ m) [] v e = absurd (subst IsSome (sym e) tt)
behind_whole (x ∷ m) (c ∷ w) v e = go (eqb c x) refl e (behind_whole m w v)
  where
    go : (b : Bool) → eqb c x ≡ b → cond b (behind m w) none ≡ some v → (behind m w ≡ some v → w ≡ m ++ v) → c ∷ w ≡ x ∷ (m ++ v)
    go true q h more = rw (← more h, eqb-true c x q) refl
    go false q h more = absurd (subst IsSome (sym h) tt)

marked_whole : (m cs w : List ℕ) → marked m (cut_marked m cs w).part ++ (cut_marked m cs w).rest ≡ w
marked_whole m cs w = go (behind m w) refl
  where
    go : (o : Option (List ℕ)) → behind m w ≡ o → marked m (cut_before cs w o).part ++ (cut_before cs w o).rest ≡ w
    go none e = refl
    go (some v) e = append_assoc m (before cs v) (from cs v) ∙ rw (before_from cs v) (sym (behind_whole m w v e))

scheme_whole : (w : List ℕ) → ended (octets ":") (cut_scheme w).part ++ (cut_scheme w).rest ≡ w
scheme_whole w = go (behind (octets ":") (from (octets ":/?#") w)) refl
  where
    go : (o : Option (List ℕ)) → behind (octets ":") (from (octets ":/?#") w) ≡ o
        → ended (octets ":") (cut_at w (before (octets ":/?#") w) o).part ++ (cut_at w (before (octets ":/?#") w) o).rest ≡ w
    go none e = refl
    go (some v) e =
        append_assoc (before (octets ":/?#") w) (octets ":") v
        ∙ rw (← behind_whole (octets ":") (from (octets ":/?#") w) v e) (before_from (octets ":/?#") w)

-- ---- behind the query there is a fragment or nothing

from_stops : (cs w : List ℕ) → Stops cs (from cs w)
from_stops cs [] = tt
from_stops cs (c ∷ w) = go (one_of cs c) refl (from_stops cs w)
  where
    go : (b : Bool) → one_of cs c ≡ b → Stops cs (from cs w) → Stops cs (cond b (c ∷ w) (from cs w))
    go true e s = e
    go false e s = s

query_stops : (w : List ℕ) → Stops (octets "?#") w → Stops (octets "#") (cut_marked (octets "?") (octets "#") w).rest
query_stops [] s = tt
query_stops (c ∷ w) s = go (eqb c 63) s
  where
    go : (b : Bool) → (b || one_of (octets "#") c) ≡ true → Stops (octets "#") (cut_before (octets "#") (c ∷ w) (cond b (some w) none)).rest
    go true e = from_stops (octets "#") w
    go false e = e

fragment_whole : (w : List ℕ) → Stops (octets "#") w → marked (octets "#") (behind (octets "#") w) ≡ w
fragment_whole [] s = refl
fragment_whole (c ∷ w) s = go (eqb c 35) refl s
  where
    go : (b : Bool) → eqb c 35 ≡ b → (b || false) ≡ true → marked (octets "#") (cond b (some w) none) ≡ c ∷ w
    go true e s = rw (eqb-true c 35 e) refl
    go false e s = absurd (false≢true s)

-- where a text goes on behind its path and its query, with or without them
abbrev rest : List ℕ → List ℕ
rest w = (cut_marked (octets "?") (octets "#") (from (octets "?#") w)).rest

pub fragment_left : (w : List ℕ) → marked (octets "#") (behind (octets "#") (rest w)) ≡ rest w
fragment_left w = fragment_whole (rest w) (query_stops (from (octets "?#") w) (from_stops (octets "?#") w))

pub nothing_lost : NothingLost
nothing_lost w =
    let s = cut_scheme w in
    let a = cut_marked (octets "//") (octets "/?#") s.rest in
    let v = from (octets "?#") a.rest in
    rw (
      fragment_left a.rest,
      marked_whole (octets "?") (octets "#") v,
      before_from (octets "?#") a.rest,
      marked_whole (octets "//") (octets "/?#") s.rest,
    )
    (scheme_whole w)
