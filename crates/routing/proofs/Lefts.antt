-- What stands in a text left and right of each place where it is cut into its components. Assumes nothing.
use Prim.Native.Nat.{ℕ, ◌≤◌}
use native.Mathlib.Omega.{arith}
use mathlib.Core.Path.{◌≡◌, refl, ◌∙◌}
use mathlib.Core.List.{List, ◌++◌}
use Rattle.octets.specs.Text.{octets}
use Rattle.references.specs.Components.{Parts, marked, ended}
use Rattle.resolution.specs.Laws.{left_of_path}
use Rattle.bare.specs.Bare.{bare_of}
use Rattle.bare.proofs.Bare.{bare_of_join}
use Rattle.components.specs.Cuts.{CutsInto}
use Rattle.components.specs.declared.Cuts.{Cuts}
use Rattle.routing.specs.Plans.{right_of_path}

-- a part in two, each known
joined : (s : List ℕ) (a m e : ℕ) {u v : List ℕ} → a ≤ m → m ≤ e → bare_of s a m ≡ u → bare_of s m e ≡ v → bare_of s a e ≡ u ++ v
joined s a m e h k p q = bare_of_join s a m e h k ∙ rw (p, q) refl

module _ {s : List ℕ} {a e : ℕ} {c : Cuts} {p : Parts} (k : CutsInto s a e c p) where
  pub to_scheme : bare_of s a c.scheme.0 ≡ ended (octets ":") p.scheme
  to_scheme = joined s a c.from.0 c.scheme.0 k.in_order k.scheme_after k.nothing k.scheme

  pub to_path : bare_of s a c.path.0 ≡ left_of_path p
  to_path =
      joined s a c.scheme.0 c.path.0 (omega (arith, k.in_order, k.scheme_after)) k.path_after to_scheme k.authority

  pub to_query : bare_of s a c.query.0 ≡ left_of_path p ++ p.path
  to_query =
      joined s a c.path.0 c.query.0 (omega (arith, k.in_order, k.scheme_after, k.path_after)) k.query_after to_path
      k.path

  pub to_fragment : bare_of s a c.fragment.0 ≡ left_of_path p ++ p.path ++ marked (octets "?") p.query
  to_fragment =
      joined s a c.query.0 c.fragment.0 (omega (arith, k.in_order, k.scheme_after, k.path_after, k.query_after))
      k.fragment_after to_query k.query

  pub from_query : bare_of s c.query.0 e ≡ right_of_path p
  from_query = joined s c.query.0 c.fragment.0 e k.fragment_after k.in_part k.query k.fragment
