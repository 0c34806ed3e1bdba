-- What is asked of a target beside its octets: it is a URI-reference by RFC 3986's grammar (crate `references`).
use Rattle.std.specs.Prelude.{ℕ, ◌≡◌, ◌⊎◌, List, [], ◌∷◌}
use Rattle.std.proofs.Math.Seq.{slice}
use Rattle.references.specs.AppendixA.{IsReference}
use Rattle.grammar.specs.Link.{Link}

-- the octets of s from place a up to place k are a reference
abbrev pub ReferenceAt : List ℕ → ℕ → ℕ → Type 0
ReferenceAt s a k = IsReference (slice a k s)

-- every target of the links has the property P, of its start and its end
abbrev pub EachTarget : (ℕ → ℕ → Type 0) → List Link → Type 0
EachTarget P [] = Unit
EachTarget P (l ∷ ls) = P l.target_from l.target_to × EachTarget P ls

-- every target of the links is a reference
abbrev pub References : List ℕ → List Link → Type 0
References s ls = EachTarget (ReferenceAt s) ls

-- some link has the target from a to k
abbrev pub HasTarget : List Link → ℕ → ℕ → Type 0
HasTarget [] a k = ⊥
HasTarget (l ∷ ls) a k = ((l.target_from ≡ a) × (l.target_to ≡ k)) ⊎ HasTarget ls a k
