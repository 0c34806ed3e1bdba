-- Whether a rule derives a text, and whether two texts are the same, is decided, and the decisions can be computed. Assumes nothing.
use Prim.Native.Nat.{ℕ}
use mathlib.Core.Path.{◌≡◌, refl, subst}
use mathlib.Core.Bool.{Bool, true, false, false≢true}
use mathlib.Core.List.{List}
use Rattle.octets.specs.Fold.{same}
use Rattle.octets.proofs.Laws.{same_sound, same_refl}
use Rattle.rules.specs.Rule.{Rule, Derives}
use Rattle.rules.specs.Left.{matches}
use Rattle.rules.proofs.Lefts.{matches_sound, matches_complete}
use Rattle.references.specs.Octets.{Octets, has}

-- what holds just if something that is decided does
abbrev pub just_if : {A B : Type 0} → (A → B) → (B → A) → Dec A → Dec B
just_if f g (yes a) = yes (f a)
just_if f g (no n) = no (λ b. n (g b))

-- a test that is passed just if A holds
abbrev tested : {A : Type 0} (b : Bool) → (b ≡ true → A) → (A → b ≡ true) → Dec A
tested true f g = yes (f refl)
tested false f g = no (λ a. false≢true (g a))

abbrev pub derives_decided : (r : Rule Octets) (w : List ℕ) → Dec (Derives has r w)
derives_decided r w = tested (matches has r w) (matches_sound has r w) (matches_complete has r w)

abbrev pub same_decided : (x y : List ℕ) → Dec (x ≡ y)
same_decided x y = tested (same x y) (same_sound x y) (λ e. subst (λ (z : List ℕ). same x z ≡ true) e (same_refl x))
