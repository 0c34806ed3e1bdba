-- Known names and kept parameters: within one link, of names kept once only the first is kept. Later ones must still be derived.
use Rattle.std.specs.Prelude.{ℕ, suc, Bool, true, false, cond, ◌&&◌, ◌||◌, List, [], ◌∷◌, map, ◌≡◌}
use Rattle.std.proofs.Math.Seq.{slice}
use Rattle.octets.specs.Sets.{between}
use Rattle.octets.specs.Text.{octets}
use Rattle.octets.specs.Fold.{folded, same}
use Rattle.grammar.specs.Link.{Link, Param}
use Rattle.grammar.specs.Grammar.{Extra, Field}
use Rattle.grammar.specs.Targets.{References}

-- a parameter's name, folded
unfoldable pub name_of : List ℕ → Param → List ℕ
name_of s p = folded (slice p.name_from p.name_to s)

-- n is one of the names listed
abbrev pub among : List (List ℕ) → List ℕ → Bool
among [] n = false
among (m ∷ ms) n = same n m || among ms n

-- the known names, in the order of their codes
abbrev pub known_names : List (List ℕ)
known_names =
    octets "rel" ∷
    octets "anchor" ∷
    octets "media" ∷
    octets "title" ∷
    octets "title*" ∷
    octets "type" ∷
    octets "hreflang" ∷
    octets "rev" ∷
    []

-- the names listed are numbered from k on, and any other name is 0
abbrev pub code_from : List (List ℕ) → ℕ → List ℕ → ℕ
code_from [] k n = 0
code_from (m ∷ ms) k n = cond (same n m) k (code_from ms (suc k) n)

-- the code of a folded name: that of a known name, from 1 on, and 0 of any other
unfoldable pub code_of : List ℕ → ℕ
code_of n = code_from known_names 1 n

-- the codes of names kept once
abbrev pub once_code : ℕ → Bool
once_code k = between 1 6 k

unfoldable pub is_once : List ℕ → Bool
is_once n = once_code (code_of n)

abbrev pub unless : Bool → Param → List Param → List Param
unless true p ps = ps
unless false p ps = p ∷ ps

-- the kept parameters, after parameters of the names `earlier`: all but a later one of a name kept once
abbrev pub keep_after : List ℕ → List (List ℕ) → List Param → List Param
keep_after s earlier [] = []
keep_after s earlier (p ∷ ps) =
    unless (is_once (name_of s p) && among earlier (name_of s p)) p (keep_after s (name_of s p ∷ earlier) ps)

-- the link with its kept parameters
abbrev pub kept_link : List ℕ → Link → Link
kept_link s l = record { target_from = l.target_from; target_to = l.target_to; params = keep_after s [] l.params }

-- A reading of a header: the links that a derivation gives, all with references for targets, with their kept parameters. Several
-- derivations may share one.
pub record Reading (extra : Extra) (s : List ℕ) (K : List Link) : Type 0 where
  pub links : List Link
  pub derived : Field extra s links
  pub references : References s links
  pub kept : K ≡ map (kept_link s) links
