-- A text of a rule does not begin with m, if nothing is left of the rule behind m. Assumes nothing.
use Prim.Native.Nat.{ℕ}
use mathlib.Core.Path.{◌≡◌, refl, sym, subst, ◌∙◌}
use mathlib.Core.Bool.{Bool, true, false, cond, false≢true}
use mathlib.Core.List.{List, [], ◌∷◌, ◌++◌}
use mathlib.Core.Option.{none, IsSome}
use lib.Dec.{eqb}
use borrow.Author.Tests.{eqb-true, ne_eqb}
use Rattle.rules.specs.Rule.{Rule, Derives}
use Rattle.rules.specs.Left.{lefts, tried}
use Rattle.rules.proofs.Lefts.{matches_complete}
use Rattle.references.specs.Octets.{Octets, has}
use Rattle.references.specs.Components.{behind}
use Rattle.references.proofs.Clear.{Free}
use Rattle.references.proofs.Cuts.{Stops}

-- what is left of rules behind m
abbrev left_behind : List ℕ → List (Rule Octets) → List (Rule Octets)
left_behind [] rs = rs
left_behind (c ∷ m) rs = left_behind m (lefts has c rs)

none_tried : (w : List ℕ) → tried has [] w ≡ false
none_tried [] = refl
none_tried (c ∷ w) = none_tried w

tried_behind : (m : List ℕ) (rs : List (Rule Octets)) (w : List ℕ) → left_behind m rs ≡ [] → tried has rs w ≡ true → behind m w ≡ none
tried_behind [] rs w e t = absurd (false≢true (sym (none_tried w) ∙ rw (← e) t))
tried_behind (x ∷ m) rs [] e t = refl
tried_behind (x ∷ m) rs (c ∷ w) e t = go (eqb c x) refl (tried_behind m (lefts has x rs) w e)
  where
    go : (b : Bool) → eqb c x ≡ b → (tried has (lefts has x rs) w ≡ true → behind m w ≡ none) → cond b (behind m w) none ≡ none
    go true q more = more (rw (← eqb-true c x q) t)
    go false q more = refl

pub not_behind : (m : List ℕ) (r : Rule Octets) (w : List ℕ) → left_behind m (r ∷ []) ≡ [] → Derives has r w → behind m w ≡ none
not_behind m r w e d = tried_behind m (r ∷ []) w e (matches_complete has r w d)

-- nor does it with more behind it, if that begins with an octet that isn't in m
pub behind_more : (cs m u v : List ℕ) → Free cs m → Stops cs v → behind m u ≡ none → behind m (u ++ v) ≡ none
behind_more cs [] u v p s e = absurd (subst IsSome e tt)
behind_more cs (x ∷ m) [] [] p s e = refl
behind_more cs (x ∷ m) [] (c ∷ v) p s e = rw (ne_eqb c x (λ q. false≢true (sym p.0 ∙ rw (← q) s))) refl
behind_more cs (x ∷ m) (c ∷ u) v p s e = go (eqb c x) e (behind_more cs m u v p.1 s)
  where
    go : (b : Bool) → cond b (behind m u) none ≡ none → (behind m u ≡ none → behind m (u ++ v) ≡ none)
        → cond b (behind m (u ++ v)) none ≡ none
    go true q more = more q
    go false q more = refl
