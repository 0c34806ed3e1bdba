-- Looking for an octet, and at one.
use Rattle.std.specs.Prelude.{ℕ, ◌≤◌, ◌<◌, ◌≡◌, Bool, true, false, List, get_or}
use Rattle.octets.specs.Text.{octets}
use Rattle.octets.specs.Sets.{one_of}
use Rattle.references.specs.Components.{before, from}
use Rattle.bare.specs.Bare.{bare_of}
use Rattle.components.specs.declared.Stops.{Stops}
use Rattle.components.specs.declared.Stops.TheVariants.{Scheme, Authority, Path, Query}

-- the octets that end a component
abbrev pub stops_of : Stops → List ℕ
stops_of Scheme = octets ":/?#"
stops_of Authority = octets "/?#"
stops_of Path = octets "?#"
stops_of Query = octets "#"

-- the octet c stands at place a, before place e
pub record At (s : List ℕ) (a e c : ℕ) : Type 0 where
  pub place : a < e
  pub octet : get_or s a 0 ≡ c

-- b tells whether it does
pub record TellsAt (b : Bool) (s : List ℕ) (a e c : ℕ) : Type 0 where
  pub yes : b ≡ true → At s a e c
  pub no : b ≡ false → At s a e c → ⊥

-- at place a, if it's before e, no backslash stands
abbrev pub Plain : List ℕ → ℕ → ℕ → Type 0
Plain s a e = a < e → get_or s a 0 ≡ 92 → ⊥

-- of the octets from a to e but backslashes, the first one of cs stands at r; if there is none, r is e
pub record Found (cs s : List ℕ) (a e r : ℕ) : Type 0 where
  pub forward : a ≤ r
  pub inside : r ≤ e
  pub part : bare_of s a r ≡ before cs (bare_of s a e)
  pub rest : bare_of s r e ≡ from cs (bare_of s a e)
  pub octet : r < e → one_of cs (get_or s r 0) ≡ true
