-- Where what a part means holds no backslash, all its backslashes come out; and no reference holds one. Assumes nothing.
use Prim.Native.Nat.{ℕ}
use mathlib.Core.Path.{◌≡◌, refl, ap}
use mathlib.Core.Bool.{Bool, true, false, cond}
use mathlib.Core.List.{List, [], ◌∷◌}
use lib.Dec.{eqb}
use Rattle.references.specs.AppendixA.{uri_reference, URI, IsReference, IsURI}
use Rattle.references.proofs.Clear.{Free, clear_free}
use Rattle.tables.specs.Meaning.{unescape_from, unescape}
use Rattle.bare.specs.Bare.{bare}
use Rattle.bare.proofs.Bare.{no_backslash, bare_free}

pub reference_free : (w : List ℕ) → IsReference w → Free (92 ∷ []) w
reference_free = clear_free (92 ∷ []) uri_reference refl

pub uri_free : (w : List ℕ) → IsURI w → Free (92 ∷ []) w
uri_free = clear_free (92 ∷ []) URI refl

-- a text in which all backslashes come out
abbrev Bared : Bool → List ℕ → Type 0
Bared behind w = Free (92 ∷ []) (unescape_from behind w) → unescape_from behind w ≡ bare w

from_bare : (behind : Bool) (w : List ℕ) → Bared behind w
from_bare behind [] f = refl
from_bare true (c ∷ w) f = rw (no_backslash c f.0) (ap {B = List ℕ} (λ t. c ∷ t) (from_bare false w f.1))
from_bare false (c ∷ w) f = go (eqb c 92) (from_bare true w) (from_bare false w) f
  where
    meant : Bool → List ℕ
    meant b = elim b [ true ↦ unescape_from true w | false ↦ c ∷ unescape_from false w ]

    go : (b : Bool) → Bared true w → Bared false w → Free (92 ∷ []) (meant b) → meant b ≡ cond b (bare w) (c ∷ bare w)
    go true p q f = p f
    go false p q f = ap {B = List ℕ} (λ t. c ∷ t) (q f.1)

pub unescape_bare : (w : List ℕ) → Free (92 ∷ []) (unescape w) → unescape w ≡ bare w
unfolding unescape
unescape_bare w = from_bare false w

-- for references
pub reference_unescaped : (w : List ℕ) → IsReference (unescape w) → unescape w ≡ bare w
reference_unescaped w r = unescape_bare w (reference_free (unescape w) r)

pub reference_bare : (w : List ℕ) → IsReference w → bare w ≡ w
reference_bare w r = bare_free w (reference_free w r)
