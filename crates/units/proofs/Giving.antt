-- What the octets read give: an attribute character itself, and a `%` with two digits one octet.
use Prim.Native.Nat.{ℕ, ◌+◌, ◌≤◌, ◌<◌}
use native.Mathlib.Omega.{arith}
use mathlib.Core.Path.{◌≡◌, refl, sym, ap, ◌∙◌}
use mathlib.Core.Bool.{true, false, false≢true}
use mathlib.Core.List.{List, ◌∷◌}
use Rattle.std.specs.Prelude.{Option, Some, None}
use Rattle.kinds.specs.declared.Place.{Place}
use lib.ListN.{length, get_or}
use borrow.Author.Tests.{eq-eqb, ne_eqb}
use Rattle.octets.specs.Sets.{is_hex, is_token, is_letter, is_digit}
use Rattle.extended.specs.Value.{percent, is_attribute, tripled}
use Rattle.extended.specs.Decoded.{Open, no_triple, behind_percent, behind_digit, given_from}
use Rattle.units.specs.Seen.{seen, ReadsOctet, ReadsNone}
use Rattle.units.specs.Units.{GivesOctet, GivesNone, GivesWrong, IsTriple}
use Rattle.units.specs.declared.Reading.{Reading}
use Rattle.units.proofs.Looking.{plain, reads_octet}

-- nothing is left
module _ {b : Reading} {s : List ℕ} {e k : ℕ} (w : ReadsNone b s e k) where
  pub done : GivesNone no_triple b s e k
  done = record { none = rw w.none }

  pub no_first : GivesWrong behind_percent b s e k
  no_first = record { wrong = rw w.none }

  pub no_second : (a : ℕ) → GivesWrong (behind_digit a) b s e k
  no_second a = record { wrong = rw w.none }

-- the octet c is left, n behind it
module _ {b : Reading} {s : List ℕ} {e k c n : ℕ} (w : ReadsOctet b s e k c n) where
  -- one octet further on something else is open
  module _ (st to : Open) (q : given_from st (c ∷ seen b s e n) ≡ given_from to (seen b s e n)) where
    on_gives : {x m : ℕ} → GivesOctet to b s e n x m → GivesOctet st b s e k x m
    on_gives g = record { octet = rw w.octet (q ∙ g.octet); onward = omega (arith, w.onward, g.onward); inside = g.inside }

    on_wrong : GivesWrong to b s e n → GivesWrong st b s e k
    on_wrong g = record { wrong = rw w.octet (q ∙ g.wrong) }

  pub first_gives : c ≡ percent → {x m : ℕ} → GivesOctet behind_percent b s e n x m → GivesOctet no_triple b s e k x m
  first_gives q = on_gives no_triple behind_percent (rw (eq-eqb c percent q))

  pub first_wrong : c ≡ percent → GivesWrong behind_percent b s e n → GivesWrong no_triple b s e k
  first_wrong q = on_wrong no_triple behind_percent (rw (eq-eqb c percent q))

  pub to_second : is_hex c ≡ true → (r : Option (ℕ × Place)) → IsTriple (behind_digit c) b s e n r → IsTriple behind_percent b s e k r
  to_second h (Some x) = on_gives behind_percent (behind_digit c) (rw h)
  to_second h None = on_wrong behind_percent (behind_digit c) (rw h)

  pub attribute : (c ≡ percent → ⊥) → is_attribute c ≡ true → GivesOctet no_triple b s e k c n
  attribute q h = record { octet = rw (w.octet, ne_eqb c percent q, h); onward = w.onward; inside = w.inside }

  pub second : (a : ℕ) → is_hex c ≡ true → {x : ℕ} → x ≡ tripled a c → GivesOctet (behind_digit a) b s e k x n
  second a h q = record { octet = rw (w.octet, h, q); onward = w.onward; inside = w.inside }

  -- and is none of these
  pub other : (c ≡ percent → ⊥) → is_attribute c ≡ false → GivesWrong no_triple b s e k
  other q h = record { wrong = rw (w.octet, ne_eqb c percent q, h) }

  pub other_first : is_hex c ≡ false → GivesWrong behind_percent b s e k
  other_first h = record { wrong = rw (w.octet, h) }

  pub other_second : (a : ℕ) → is_hex c ≡ false → GivesWrong (behind_digit a) b s e k
  other_second a h = record { wrong = rw (w.octet, h) }

-- an attribute character is neither a `%` nor a backslash, so it stands for itself, however the text is read
apart : (x c : ℕ) → is_attribute x ≡ false → is_attribute c ≡ true → c ≡ x → ⊥
apart x c n h q = false≢true (sym n ∙ ap is_attribute (sym q) ∙ h)

pub attribute_here : (b : Reading) (s : List ℕ) {e k : ℕ} → k < e → e ≤ length s → is_attribute (get_or s k 0) ≡ true → {n : ℕ} → n ≡ k + 1
    → GivesOctet no_triple b s e k (get_or s k 0) n
unfolding is_attribute is_token is_letter is_digit
attribute_here b s {e} {k} h l a q =
    attribute (reads_octet (plain b s (apart 92 (get_or s k 0) refl a) h l) h q) (apart percent (get_or s k 0) refl a) a
