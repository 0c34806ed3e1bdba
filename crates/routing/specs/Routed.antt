-- A result, laid out in a base and in a text with the reference.
use Rattle.std.specs.Prelude.{ℕ, ◌≡◌, List}
use Rattle.resolution.specs.Resolve.{resolved}
use Rattle.bare.specs.Bare.{bare_of}
use Rattle.routes.specs.Laid.{laid, Lies}
use Rattle.routes.specs.declared.Route.{Route}

-- the reference that stands in s from place a to place e, read without its backslashes, resolves on the base to what the route lays out
pub record Routed (base s : List ℕ) (a e : ℕ) (r : Route) : Type 0 where
  pub lies : Lies base s r
  pub result : resolved base (bare_of s a e) ≡ laid base s r
