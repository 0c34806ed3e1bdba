-- Removal of dot segments (RFC 3986, section 5.2.4): its steps A to E on an input and an output. A `%2e` is no dot.
use Rattle.std.specs.Prelude.{ℕ, zero, suc, cond, eqb, length}
use mathlib.Core.List.{List, [], ◌∷◌, reverse, reverse_aux}
use Rattle.std.proofs.Math.Option.{Option, none, some}
use Rattle.octets.specs.Text.{octets}
use Rattle.references.specs.Components.{before, from, behind}

-- what is done with the input
pub data Step : Type 0 where
  -- it goes on as v
  go_on : List ℕ → Step
  -- so, and the output loses its last segment with the slash before it
  go_up : List ℕ → Step
  -- the segment u moves to the end of the output, and v is left
  move : List ℕ → List ℕ → Step

-- the first step, if the input begins with a text that asks for it, else the second
abbrev pub when : Option (List ℕ) → (List ℕ → Step) → Step → Step
when none f s = s
when (some v) f s = f v

-- nothing, if the text w is just m
abbrev pub whole : List ℕ → List ℕ → Option (List ℕ)
whole [] [] = some []
whole [] (c ∷ w) = none
whole (x ∷ m) [] = none
whole (x ∷ m) (c ∷ w) = cond (eqb c x) (whole m w) none

-- E: the first segment, with the slash before it if there is one
abbrev pub first_moved : List ℕ → Step
first_moved [] = go_on []
first_moved (c ∷ w) = move (c ∷ before (octets "/") w) (from (octets "/") w)

-- the first of the steps A to E that fits the input w
abbrev pub step_on : List ℕ → Step
step_on w =
    -- A
    when (behind (octets "../") w) (λ v. go_on v)
    (when (behind (octets "./") w) (λ v. go_on v)
    -- B
    (when (behind (octets "/./") w) (λ v. go_on (47 ∷ v))
    (when (whole (octets "/.") w) (λ v. go_on (47 ∷ v))
    -- C
    (when (behind (octets "/../") w) (λ v. go_up (47 ∷ v))
    (when (whole (octets "/..") w) (λ v. go_up (47 ∷ v))
    -- D
    (when (whole (octets ".") w) (λ v. go_on v)
    (when (whole (octets "..") w) (λ v. go_on v)
    (first_moved w))))))))

-- The output stands last octet first. Without its last segment and the slash before it; it may have none
abbrev pub pop : List ℕ → List ℕ
pop [] = []
pop (c ∷ o) = cond (eqb c 47) o (pop o)

-- the result, from the input w and the output o on, in n steps at most
abbrev pub loop : ℕ → List ℕ → List ℕ → List ℕ
loop zero w o = reverse o
loop (suc n) [] o = reverse o
loop (suc n) (c ∷ w) o =
    elim (step_on (c ∷ w)) [ go_on v ↦ loop n v o | go_up v ↦ loop n v (pop o) | move u v ↦ loop n v (reverse_aux u o) ]

-- each step leaves less of the input, so there are no more steps than octets
abbrev pub remove_dots : List ℕ → List ℕ
remove_dots w = loop (length w) w []
