-- A text that is put together of parts is cut into the same parts. Assumes nothing.
use Prim.Native.Nat.{ℕ}
use mathlib.Core.Path.{◌≡◌, refl, ap}
use mathlib.Core.Bool.{true}
use mathlib.Core.List.{List, [], ◌∷◌, ◌++◌, append_assoc}
use mathlib.Core.Option.{Option, none, some}
use borrow.Author.Tests.{eq-eqb}
use Rattle.octets.specs.Text.{octets}
use Rattle.octets.specs.Sets.{one_of}
use Rattle.references.specs.Components.{marked, ended, before, from, behind, cut_scheme, cut_marked}
use Rattle.references.proofs.Clear.{Free}

-- v is empty, or its first octet is in cs
abbrev pub Stops : List ℕ → List ℕ → Type 0
Stops cs [] = Unit
Stops cs (c ∷ v) = one_of cs c ≡ true

pub before_free : (cs u v : List ℕ) → Free cs u → Stops cs v → before cs (u ++ v) ≡ u
before_free cs [] [] p s = refl
before_free cs [] (c ∷ v) p s = rw s refl
before_free cs (c ∷ u) v p s = rw p.0 (ap {B = List ℕ} (λ t. c ∷ t) (before_free cs u v p.1 s))

pub from_free : (cs u v : List ℕ) → Free cs u → Stops cs v → from cs (u ++ v) ≡ v
from_free cs [] [] p s = refl
from_free cs [] (c ∷ v) p s = rw s refl
from_free cs (c ∷ u) v p s = rw p.0 (from_free cs u v p.1 s)

behind_mark : (m v : List ℕ) → behind m (m ++ v) ≡ some v
behind_mark [] v = refl
behind_mark (x ∷ m) v = rw (eq-eqb x x refl) (behind_mark m v)

-- the part is free of cs, if it's there
abbrev pub FreePart : List ℕ → Option (List ℕ) → Type 0
FreePart cs none = Unit
FreePart cs (some u) = Free cs u

-- v may stand behind a part with the mark m that goes up to the first octet of cs
abbrev pub Follows : List ℕ → List ℕ → Option (List ℕ) → List ℕ → Type 0
Follows m cs none v = behind m v ≡ none
Follows m cs (some u) v = Stops cs v

pub cut_marked_lem : (m cs : List ℕ) (o : Option (List ℕ)) (v : List ℕ) → FreePart cs o → Follows m cs o v
    → cut_marked m cs (marked m o ++ v) ≡ record { part = o; rest = v }
cut_marked_lem m cs none v p s = rw s refl
cut_marked_lem m cs (some u) v p s =
    rw (append_assoc m u v, behind_mark m (u ++ v), before_free cs u v p s, from_free cs u v p s) refl

-- v may stand behind a scheme
abbrev pub FollowsScheme : Option (List ℕ) → List ℕ → Type 0
FollowsScheme none v = behind (octets ":") (from (octets ":/?#") v) ≡ none
FollowsScheme (some u) v = Unit

pub cut_scheme_lem : (o : Option (List ℕ)) (v : List ℕ) → FreePart (octets ":/?#") o → FollowsScheme o v
    → cut_scheme (ended (octets ":") o ++ v) ≡ record { part = o; rest = v }
cut_scheme_lem none v p s = rw s refl
cut_scheme_lem (some u) v p s =
    rw (append_assoc u (octets ":") v, before_free (octets ":/?#") u (58 ∷ v) p refl, from_free (octets ":/?#") u (58 ∷ v) p refl)
    refl

pub fragment_back : (o : Option (List ℕ)) → behind (octets "#") (marked (octets "#") o) ≡ o
fragment_back none = refl
fragment_back (some u) = refl
