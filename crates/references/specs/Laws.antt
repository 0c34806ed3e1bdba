-- What is proved of references.
use Rattle.std.specs.Prelude.{ℕ, ◌≡◌, List}
use Rattle.std.proofs.Math.Option.{none, IsSome}
use Rattle.rules.specs.Rule.{Derives}
use Rattle.references.specs.Octets.{has}
use Rattle.references.specs.AppendixA.{path, IsReference, IsURI, IsAbsoluteURI}
use Rattle.references.specs.Components.{Parts, Splits, recompose, split}

-- A text is a reference just if it has components, and then they are the ones that `split` finds, and no others. Their path is one of the
-- five kinds.
pub record ReferenceSplits : Type 0 where
  pub splits : (w : List ℕ) → IsReference w → Splits w (split w)
  pub only_so : (w : List ℕ) (p : Parts) → Splits w p → IsReference w
  pub one : (w : List ℕ) (p : Parts) → Splits w p → p ≡ split w
  pub path : (w : List ℕ) (p : Parts) → Splits w p → Derives has path p.path

-- A text is a URI just if it has components and a scheme is among them.
pub record URISplits : Type 0 where
  pub splits : (w : List ℕ) → IsURI w → Splits w (split w)
  pub scheme : (w : List ℕ) → IsURI w → IsSome (split w).scheme
  pub only_so : (w : List ℕ) (p : Parts) → Splits w p → IsSome p.scheme → IsURI w

-- A text is an absolute-URI just if it has components and a scheme is among them, but no fragment.
pub record AbsoluteSplits : Type 0 where
  pub splits : (w : List ℕ) → IsAbsoluteURI w → Splits w (split w)
  pub scheme : (w : List ℕ) → IsAbsoluteURI w → IsSome (split w).scheme
  pub fragment : (w : List ℕ) → IsAbsoluteURI w → (split w).fragment ≡ none
  pub only_so : (w : List ℕ) (p : Parts) → Splits w p → IsSome p.scheme → p.fragment ≡ none → IsAbsoluteURI w

-- Whatever text is split, nothing of it is lost.
abbrev pub NothingLost : Type 0
NothingLost = (w : List ℕ) → recompose (split w) ≡ w
