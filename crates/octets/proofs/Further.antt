-- Laws about the numbers of editions and their further octets. Assumes nothing.
use Prim.Native.Nat.{ℕ}
use native.Mathlib.Omega.{arith}
use mathlib.Core.Bool.{Bool, true, false, not, false≢true}
use mathlib.Core.Path.{◌≡◌, refl, sym, subst}
use Rattle.std.specs.Prelude.{Option, Some, None}
use Rattle.octets.specs.Sets.{is_token, is_letter, is_digit, is_plain, older_octets, is_older}
use Rattle.octets.specs.Editions.{number_of, further, NoEdition, IsAsked}
use Rattle.octets.specs.declared.editions.Edition.{Edition}
use Rattle.octets.specs.declared.editions.Edition.TheVariants.{Rfc8288, Rfc5988}
use Rattle.octets.proofs.Octets.{Octets, within, one_of_octets}

-- a number other than 0 and 1 is no edition's
pub no_edition : (n : ℕ) → ((Unit {0} × (n ≡ 0 → ⊥)) × (n ≡ 1 → ⊥)) → NoEdition n
no_edition n ((_, a), b) Rfc8288 q = a (sym q)
no_edition n ((_, a), b) Rfc5988 q = b (sym q)

-- one number, one edition
pub one_edition : (e d : Edition) → number_of e ≡ number_of d → e ≡ d
one_edition Rfc8288 Rfc8288 q = refl
one_edition Rfc8288 Rfc5988 q = absurd (omega (arith, q))
one_edition Rfc5988 Rfc8288 q = absurd (omega (arith, q))
one_edition Rfc5988 Rfc5988 q = refl

pub older_octet : Octets is_older
unfolding is_older
older_octet = one_of_octets older_octets refl

-- an octet of the older edition is no token's, and stands for itself in a quoted string
pub older_no_token : (c : ℕ) → is_older c ≡ true → is_token c ≡ false
unfolding is_older is_token is_letter is_digit
older_no_token c h = not_so (is_token c) (within is_older (λ k. not (is_token k)) older_octet refl c h)
  where
    not_so : (b : Bool) → not b ≡ true → b ≡ false
    not_so true e = absurd (false≢true e)
    not_so false e = refl

pub older_plain : (c : ℕ) → is_older c ≡ true → is_plain c ≡ true
unfolding is_older is_plain
older_plain = within is_older is_plain older_octet refl

-- in no edition may a backslash stand in a bare value
pub no_backslash : (e : Edition) → further e 92 ≡ false
unfolding is_older
no_backslash Rfc8288 = refl
no_backslash Rfc5988 = refl

-- what a number was told to ask for
pub asked_known : {n : ℕ} {r : Option Edition} {e : Edition} → IsAsked n r → r ≡ Some e → number_of e ≡ n
asked_known {n} a q = subst (IsAsked n) q a

pub asked_unknown : {n : ℕ} {r : Option Edition} → IsAsked n r → r ≡ None → NoEdition n
asked_unknown {n} a q = subst (IsAsked n) q a
