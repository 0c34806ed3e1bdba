-- Results have one shape, whatever components a reference has. Assumes nothing.
use Prim.Native.Nat.{ℕ}
use mathlib.Core.Path.{◌≡◌, refl, sym, subst, ◌∙◌}
use mathlib.Core.List.{List, [], ◌∷◌, ◌++◌, append_assoc}
use mathlib.Core.Option.{Option, none, some, IsSome}
use borrow.Author.Tests.{eq-eqb, ne_eqb}
use Rattle.octets.specs.Text.{octets}
use Rattle.references.specs.Components.{Parts, marked, ended, recompose}
use Rattle.resolution.specs.Dots.{remove_dots}
use Rattle.resolution.specs.Laws.{left_of_path}
use Rattle.resolution.specs.Resolve.{transform, transform_by, merge}
use Rattle.routing.specs.Folders.{root}
use Rattle.routing.specs.Plans.{right_of_path, shape}

-- ---- a scheme, or an authority

schemed : (b r : Parts) (s a : Option (List ℕ)) → IsSome s
    → recompose (transform_by b r s a)
    ≡ (ended (octets ":") s ++ marked (octets "//") a) ++ (remove_dots r.path ++ right_of_path r)
schemed b r none a i = absurd i
schemed b r (some s) a i = sym (append_assoc (s ++ octets ":") (marked (octets "//") a) (remove_dots r.path ++ right_of_path r))

authored : (b r : Parts) (s a : Option (List ℕ)) → s ≡ none → IsSome a
    → recompose (transform_by b r s a)
    ≡ ended (octets ":") b.scheme
    ++ ((ended (octets ":") s ++ marked (octets "//") a) ++ (remove_dots r.path ++ right_of_path r))
authored b r (some s) a e i = absurd (subst IsSome e tt)
authored b r none none e i = absurd i
authored b r none (some a) e i = refl

pub own_scheme : (b r : Parts) → IsSome r.scheme → recompose (transform b r) ≡ shape [] [] r
own_scheme b r i = schemed b r r.scheme r.authority i

pub own_authority : (b r : Parts) → r.scheme ≡ none → IsSome r.authority
    → recompose (transform b r) ≡ shape (ended (octets ":") b.scheme) [] r
own_authority b r e i = authored b r r.scheme r.authority e i

-- ---- neither

-- merging puts the root before the path
merge_root : (a : Option (List ℕ)) (p w : List ℕ) → merge a p w ≡ root a p ++ w
merge_root (some a) [] w = refl
merge_root (some a) (c ∷ p) w = refl
merge_root none p w = refl

-- what stands left and right of a place, as a result has it and as its shape has it
two_joined : (x y t : List ℕ) → x ++ (y ++ t) ≡ (x ++ y) ++ t
two_joined x y t = sym (append_assoc x y t)

three_joined : (x y z t : List ℕ) → x ++ (y ++ (z ++ t)) ≡ (x ++ y ++ z) ++ t
three_joined x y z t = two_joined x y (z ++ t) ∙ two_joined (x ++ y) z t

four_joined : (x y z u t : List ℕ) → x ++ (y ++ (z ++ (u ++ t))) ≡ (x ++ y ++ z ++ u) ++ t
four_joined x y z u t = three_joined x y z (u ++ t) ∙ two_joined (x ++ y ++ z) u t

module _ (b r : Parts) (e : r.scheme ≡ none) (f : r.authority ≡ none) where
  abbrev scheme : List ℕ
  scheme = ended (octets ":") b.scheme

  abbrev authority : List ℕ
  authority = marked (octets "//") b.authority

  pub own_query : r.path ≡ [] → IsSome r.query → recompose (transform b r) ≡ shape (left_of_path b ++ b.path) [] r
  own_query g i = go r.query i refl
    where
      go : (q : Option (List ℕ)) → IsSome q → r.query ≡ q → recompose (transform b r) ≡ shape (left_of_path b ++ b.path) [] r
      go none i h = absurd i
      go (some q) i h =
          rw (e, f, g, h) (three_joined scheme authority b.path (marked (octets "?") (some q) ++ marked (octets "#") r.fragment))

  pub no_query : r.path ≡ [] → r.query ≡ none
      → recompose (transform b r) ≡ shape (left_of_path b ++ b.path ++ marked (octets "?") b.query) [] r
  no_query g h =
      rw (e, f, g, h)
      (four_joined scheme authority b.path (marked (octets "?") b.query) (marked (octets "#") r.fragment))

  module _ (c : ℕ) (v : List ℕ) (g : r.path ≡ c ∷ v) where
    pub rooted : c ≡ 47 → recompose (transform b r) ≡ shape (left_of_path b) [] r
    rooted s = rw (e, f, g, eq-eqb c 47 s) (two_joined scheme authority (remove_dots (c ∷ v) ++ right_of_path r))

    pub merged : (c ≡ 47 → ⊥) → recompose (transform b r) ≡ shape (left_of_path b) (root b.authority b.path) r
    merged n =
        rw (e, f, g, ne_eqb c 47 n, merge_root b.authority b.path (c ∷ v))
        (two_joined scheme authority (remove_dots (root b.authority b.path ++ (c ∷ v)) ++ right_of_path r))
