-- What the fronts and the count tell of a value.
use Prim.Native.Nat.{ℕ, ◌+◌}
use native.Mathlib.Omega.{arith}
use mathlib.Core.Path.{◌≡◌, refl, sym, ap, ◌∙◌}
use mathlib.Core.Bool.{Bool, true, false, cond}
use mathlib.Core.List.{List}
use mathlib.Core.Option.{Option, none, some}
use lib.ListN.{length}
use Rattle.utf8.specs.Sequences.{WellFormed}
use Rattle.extended.specs.Value as value
use Rattle.extended.specs.Decoded.{bind, behind_folded, charset_part, behind_language, value_chars, given}
use Rattle.extended.proofs.Given.{none_some}
use Rattle.extended.proofs.Exact.{extended_of, extended_chars}
use Rattle.sequences.specs.Awaited.{nothing, complete}
use Rattle.sequences.proofs.Exact.{awaited_exact}
use Rattle.units.specs.declared.Reading.{Reading}
use Rattle.units.specs.Seen.{seen}
use Rattle.decoding.specs.Measured.{measured, octets_given, IsGiven}
use Rattle.decoding.specs.Judged.{IsRight, IsWrong}

-- octets that are counted are given, and well formed
counted : (o : Option (List ℕ)) {n : ℕ} → some n ≡ measured 0 nothing o → (v : List ℕ) × (o ≡ some v) × WellFormed v × (length v ≡ n)
counted none e = absurd (none_some (sym e))
counted (some v) {n} e = go (complete nothing v) refl e
  where
    go : (b : Bool) → complete nothing v ≡ b → some n ≡ cond b (some (0 + length v)) none
        → (u : List ℕ) × (some v ≡ some u) × WellFormed u × (length u ≡ n)
    go true q h = let c : n ≡ 0 + length v = cc in (v, refl, awaited_exact.sound v q, omega arith)
    go false q h = absurd (none_some (sym h))

uncounted : (o : Option (List ℕ)) → none ≡ measured 0 nothing o → (v : List ℕ) → o ≡ some v → WellFormed v → ⊥
uncounted o e v q f =
    none_some (e ∙ ap (measured 0 nothing) q ∙ ap (λ (b : Bool). cond b (some (0 + length v)) none) (awaited_exact.all v f))

-- what is left of w behind the language, where v tells what is left behind the charset
pub chars_there : (v : Option (List ℕ)) (w : List ℕ) {o : Option (List ℕ)} → v ≡ behind_folded charset_part w → o ≡ bind v behind_language
    → o ≡ value_chars w
chars_there v w h q = q ∙ ap (λ (z : Option (List ℕ)). bind z behind_language) h

module _ {b : Reading} {s : List ℕ} {e k : ℕ} where
  pub no_chars : none ≡ value_chars (seen b s e k) → IsWrong b s e k
  no_chars h = record { wrong = λ v x. none_some (h ∙ (extended_chars x).0) }

  -- a value is wrong already where its charset is
  pub no_charset : none ≡ behind_folded charset_part (seen b s e k) → IsWrong b s e k
  no_charset h = no_chars (chars_there none (seen b s e k) h refl)

  -- the characters begin at place p
  module _ (p : ℕ) (h : some (seen b s e p) ≡ value_chars (seen b s e k)) where
    pub unfit : none ≡ measured 0 nothing (given (seen b s e p)) → IsWrong b s e k
    unfit m = record { wrong = bad }
      where
        bad : value.Wrong (seen b s e k)
        bad v x =
            let same : some (seen b s e p) ≡ some x.chars = h ∙ (extended_chars x).0 in
            let q : seen b s e p ≡ x.chars = cc in
            uncounted (given (seen b s e p)) m v (ap given q ∙ (extended_chars x).1) x.well_formed

    pub fit : {n : ℕ} → some n ≡ measured 0 nothing (given (seen b s e p)) → IsRight b s e k p n
    fit m =
        let (v, g, f, l) = counted (given (seen b s e p)) m in
        record { octets = v; extended = extended_of (seen b s e k) (seen b s e p) v (sym h) g f; chars = g; count = l }

-- the octets of a right value are given by its characters, and counted
module _ {b : Reading} {s : List ℕ} {e k p n : ℕ} (r : IsRight b s e k p n) where
  pub right_octets : octets_given (given (seen b s e p)) ≡ r.octets
  right_octets = ap octets_given r.chars

  pub right_given : IsGiven (given (seen b s e p))
  right_given = r.chars ∙ ap {B = Option (List ℕ)} some (sym right_octets)

  pub right_counted : n ≡ length (octets_given (given (seen b s e p)))
  right_counted = sym r.count ∙ ap length (sym right_octets)
