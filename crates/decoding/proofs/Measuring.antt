-- Octets counted and judged as they are given, and put as they are given.
use Prim.Native.Nat.{ℕ, suc, ◌+◌, ◌≤◌}
use native.Mathlib.Omega.{arith}
use mathlib.Core.Path.{◌≡◌, refl, sym, ap, ◌∙◌}
use mathlib.Core.Bool.{cond}
use mathlib.Core.List.{List, [], ◌∷◌}
use mathlib.Core.Option.{Option, none, some}
use lib.ListN.{length}
use Rattle.extended.specs.Decoded.{no_triple, add, given}
use Rattle.extended.proofs.Given.{none_some}
use Rattle.sequences.specs.Awaited.{behind, complete}
use Rattle.sequences.specs.declared.Awaited.{Awaited}
use Rattle.units.specs.declared.Reading.{Reading}
use Rattle.units.specs.Seen.{seen}
use Rattle.units.specs.Units.{GivesOctet}
use Rattle.units.proofs.Looking.{nothing_left}
use Rattle.decoding.specs.Measured.{measured, octets_given, IsGiven}

-- one octet more is counted, and judged
measured_more : (n : ℕ) (t : Awaited) (c : ℕ) (o : Option (List ℕ)) → measured n t (add c o) ≡ measured (n + 1) (behind t c) o
measured_more n t c none = refl
measured_more n t c (some v) =
    let e : n + suc (length v) ≡ n + 1 + length v = omega arith in
    ap (λ (m : ℕ). cond (complete (behind t c) v) (some m) none) e

-- nothing is given at the end
pub given_none : (b : Reading) (s : List ℕ) {e k : ℕ} → e ≤ k → given (seen b s e k) ≡ some []
given_none b s h = ap given (nothing_left b s h)

module _ {b : Reading} {s : List ℕ} {e k c m : ℕ} (w : GivesOctet no_triple b s e k c m) where
  pub count_on : (n : ℕ) (t : Awaited) → measured (n + 1) (behind t c) (given (seen b s e m)) ≡ measured n t (given (seen b s e k))
  count_on n t = sym (ap (measured n t) w.octet ∙ measured_more n t c (given (seen b s e m)))

  -- ---- octets that are known to be given

  module _ (h : IsGiven (given (seen b s e k))) where
    rest : (o : Option (List ℕ)) {u : List ℕ} → add c o ≡ some u → IsGiven o × (octets_given (add c o) ≡ c ∷ octets_given o)
    rest none e = absurd (none_some e)
    rest (some v) e = (refl, refl)

    both : IsGiven (given (seen b s e m))
        × (octets_given (add c (given (seen b s e m))) ≡ c ∷ octets_given (given (seen b s e m)))
    both = rest (given (seen b s e m)) (sym w.octet ∙ h)

    pub still_given : IsGiven (given (seen b s e m))
    still_given = both.0

    pub octet_first : octets_given (given (seen b s e k)) ≡ c ∷ octets_given (given (seen b s e m))
    octet_first = ap octets_given w.octet ∙ both.1
