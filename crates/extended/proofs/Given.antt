-- Attribute characters and triples give just what trying them gives. Assumes nothing.
use Prim.Native.Nat.{ℕ}
use mathlib.Core.Path.{◌≡◌, refl, sym}
use mathlib.Core.Bool.{Bool, true, false, cond}
use mathlib.Core.List.{List, [], ◌∷◌}
use mathlib.Core.Option.{Option, none, some, some-ne-none}
use lib.Dec.{eqb}
use borrow.Author.Tests.{eqb-true}
use Rattle.octets.specs.Sets.{is_token, is_letter, is_digit, is_hex}
use Rattle.octets.proofs.Laws.{not_eqb}
use Rattle.extended.specs.Value.{percent, is_attribute, tripled, Gives, nothing, plain, triple}
use Rattle.extended.specs.Decoded.{Open, no_triple, behind_percent, behind_digit, add, given_from, given}

-- nothing isn't something
pub none_some : {A : Type 0} {v : A} → none ≡ some v → ⊥
none_some {A} {v} e = some-ne-none v (sym e)

pub percent_apart : (c : ℕ) → is_attribute c ≡ true → eqb c percent ≡ false
unfolding is_attribute is_token
percent_apart c h = not_eqb is_attribute percent c refl h

-- the octets given behind c
pub added : (c : ℕ) (o : Option (List ℕ)) {v : List ℕ} → add c o ≡ some v → (u : List ℕ) × (o ≡ some u) × (v ≡ c ∷ u)
added c none e = absurd (none_some e)
added c (some u) e = (u, refl, cc)

-- what a text gives, with what is open of a triple before it
abbrev GivesFrom : Open → List ℕ → List ℕ → Type 0
GivesFrom no_triple w v = Gives w v
GivesFrom behind_percent w v = Gives (percent ∷ w) v
GivesFrom (behind_digit a) w v = is_hex a ≡ true → Gives (percent ∷ a ∷ w) v

from_given : (st : Open) (w v : List ℕ) → given_from st w ≡ some v → GivesFrom st w v
from_given no_triple [] v e = let q : [] ≡ v = cc in rw (sym q) nothing
from_given behind_percent [] v e = absurd (none_some e)
from_given (behind_digit a) [] v e = absurd (none_some e)
from_given no_triple (c ∷ w) v e = go (eqb c percent) refl (is_attribute c) refl e (from_given behind_percent w v) (from_given no_triple w)
  where
    go : (b : Bool) → eqb c percent ≡ b → (d : Bool) → is_attribute c ≡ d
        → cond b (given_from behind_percent w) (cond d (add c (given_from no_triple w)) none) ≡ some v
        → (given_from behind_percent w ≡ some v → Gives (percent ∷ w) v)
        → ((u : List ℕ) → given_from no_triple w ≡ some u → Gives w u) → Gives (c ∷ w) v
    go true p d q h more rest = rw (eqb-true c percent p) (more h)
    go false p true q h more rest =
        let (u, g, is) = added c (given_from no_triple w) h in
        rw is (plain q (rest u g))
    go false p false q h more rest = absurd (none_some h)
from_given behind_percent (a ∷ w) v e = go (is_hex a) refl e (from_given (behind_digit a) w v)
  where
    go : (b : Bool) → is_hex a ≡ b → cond b (given_from (behind_digit a) w) none ≡ some v
        → (given_from (behind_digit a) w ≡ some v → is_hex a ≡ true → Gives (percent ∷ a ∷ w) v) → Gives (percent ∷ a ∷ w) v
    go true p h more = more h p
    go false p h more = absurd (none_some h)
from_given (behind_digit a) (b ∷ w) v e = λ x. go x (is_hex b) refl e (from_given no_triple w)
  where
    go : is_hex a ≡ true → (d : Bool) → is_hex b ≡ d → cond d (add (tripled a b) (given_from no_triple w)) none ≡ some v
        → ((u : List ℕ) → given_from no_triple w ≡ some u → Gives w u) → Gives (percent ∷ a ∷ b ∷ w) v
    go x true p h rest =
        let (u, g, is) = added (tripled a b) (given_from no_triple w) h in
        rw is (triple x p (rest u g))
    go x false p h rest = absurd (none_some h)

pub given_sound : (w v : List ℕ) → given w ≡ some v → Gives w v
given_sound w v e = from_given no_triple w v e

pub given_all : {w v : List ℕ} → Gives w v → given w ≡ some v
given_all nothing = refl
given_all (plain {c} {w} h g) = rw (percent_apart c h, h, given_all g)
given_all (triple {a} {b} {w} x y g) = rw (x, y, given_all g)
