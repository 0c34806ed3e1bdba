-- A reference resolved on a base (RFC 3986, sections 5.2 and 5.3, strict): components are transformed, and the result is put together of
-- them. It isn't judged again. The base's fragment is ignored.
use Rattle.std.specs.Prelude.{ℕ, cond, List, [], ◌∷◌, ◌++◌, reverse, eqb}
use Rattle.std.proofs.Math.Option.{Option, none, some}
use Rattle.octets.specs.Text.{octets}
use Rattle.references.specs.Components.{Parts, from, recompose, split}
use Rattle.resolution.specs.Dots.{remove_dots}

-- ---- section 5.2.3

-- a path up to its last slash and with it; nothing, if it has none
abbrev pub folder : List ℕ → List ℕ
folder p = reverse (from (octets "/") (reverse p))

-- the path r behind a base's authority and path
abbrev pub merge : Option (List ℕ) → List ℕ → List ℕ → List ℕ
merge (some a) [] r = octets "/" ++ r
merge (some a) (c ∷ p) r = folder (c ∷ p) ++ r
merge none p r = folder p ++ r

-- ---- section 5.2.2, for a reference without scheme and authority on the base b

-- an empty path takes the base's as it is, dots and all
abbrev pub path_on : Parts → List ℕ → List ℕ
path_on b [] = b.path
path_on b (c ∷ p) = remove_dots (cond (eqb c 47) (c ∷ p) (merge b.authority b.path (c ∷ p)))

-- the base's query stays only with its path, and only if the reference has none
abbrev pub query_on : Parts → List ℕ → Option (List ℕ) → Option (List ℕ)
query_on b [] none = b.query
query_on b [] (some q) = some q
query_on b (c ∷ p) q = q

-- ---- section 5.2.2

-- the reference r, by its scheme and its authority
abbrev pub transform_by : Parts → Parts → Option (List ℕ) → Option (List ℕ) → Parts
transform_by b r (some s) a =
    record { scheme = some s; authority = a; path = remove_dots r.path; query = r.query; fragment = r.fragment }
transform_by b r none (some a) =
    record { scheme = b.scheme; authority = some a; path = remove_dots r.path; query = r.query; fragment = r.fragment }
transform_by b r none none =
    record {
      scheme = b.scheme;
      authority = b.authority;
      path = path_on b r.path;
      query = query_on b r.path r.query;
      fragment = r.fragment;
    }

abbrev pub transform : Parts → Parts → Parts
transform b r = transform_by b r r.scheme r.authority

-- ---- the octets of the result, for a base and a reference that are right

abbrev pub resolved : List ℕ → List ℕ → List ℕ
resolved base w = recompose (transform (split base) (split w))

-- a base without its fragment
abbrev pub unfragmented : List ℕ → List ℕ
unfragmented base =
    let b = split base in
    recompose (record { scheme = b.scheme; authority = b.authority; path = b.path; query = b.query; fragment = none })
