-- The line of a pack in a text.
use Rattle.std.specs.Prelude.{ℕ, suc, ◌≡◌, Bool, not, ◌&&◌, List, [], ◌∷◌, ◌++◌, eqb, drop, Option, Some, None}
use Rattle.references.specs.AppendixA.{IsAbsoluteURI}
use Rattle.references.proofs.Clear.{Free}
use Rattle.pack_index.specs.declared.PackPlaces.{PackPlaces}
use Rattle.pack_index.specs.Index.{Placed, uri_in, value_in}

-- octets other than a tab, LF and `#`
abbrev pub in_uri : ℕ → Bool
in_uri c = not (eqb c 9) && not (eqb c 10) && not (eqb c 35)

-- octets other than LF
abbrev pub in_value : ℕ → Bool
in_value c = not (eqb c 10)

-- w begins with a URI u, a tab, octets v other than LF, and LF; x is what stands behind
pub record IsLine (w u v x : List ℕ) : Type 0 where
  pub uri : IsAbsoluteURI u
  pub value : Free (10 ∷ []) v
  pub whole : w ≡ u ++ (9 ∷ (v ++ (10 ∷ x)))

-- what stands from place a on begins with a line whose pack has these places, or with none
pub data LineRead (s : List ℕ) (a : ℕ) : Option PackPlaces → Type 0 where
  line : {p : PackPlaces} → p.from.0 ≡ a → Placed s p
      → IsLine (drop a s) (uri_in s p) (value_in s p) (drop (suc p.end.0) s) → LineRead s a (Some p)
  none : ((u v x : List ℕ) → IsLine (drop a s) u v x → ⊥) → LineRead s a None
