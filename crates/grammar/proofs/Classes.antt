-- How the sets of octets stand to one another, and to single octets.
use Prim.Native.Nat.{ℕ}
use mathlib.Core.Path.{◌≡◌, refl, sym, ◌∙◌}
use mathlib.Core.Bool.{Bool, true, false, true≢false}
use lib.Dec.{eqb}
use Rattle.octets.specs.Sets.{is_blank, is_token, is_plain}
use Rattle.octets.proofs.Laws.{not_eqb}
use Rattle.grammar.specs.Grammar.{Extra, Admissible}

-- what is in the second set is not in the first, told the other way round
pub turned : (a b : Bool) → (a ≡ true → b ≡ false) → b ≡ true → a ≡ false
turned false b h e = refl
turned true b h e = absurd (true≢false (sym e ∙ h refl))

pub not_blank : (f : ℕ → Bool) (c : ℕ) → f 32 ≡ false → f 9 ≡ false → f c ≡ true → is_blank c ≡ false
unfolding is_blank
not_blank f c sp tab has = rw (not_eqb f 32 c sp has, not_eqb f 9 c tab has) refl

pub token_not_blank : (c : ℕ) → is_token c ≡ true → is_blank c ≡ false
unfolding is_token
token_not_blank c = not_blank is_token c refl refl

pub blank_not_token : (c : ℕ) → is_blank c ≡ true → is_token c ≡ false
blank_not_token c = turned (is_token c) (is_blank c) (token_not_blank c)

pub token_not_quote : (c : ℕ) → is_token c ≡ true → eqb c 34 ≡ false
unfolding is_token
token_not_quote c = not_eqb is_token 34 c refl

pub plain_not_quote : (c : ℕ) → is_plain c ≡ true → eqb c 34 ≡ false
unfolding is_plain
plain_not_quote c = not_eqb is_plain 34 c refl

pub plain_not_backslash : (c : ℕ) → is_plain c ≡ true → eqb c 92 ≡ false
unfolding is_plain
plain_not_backslash c = not_eqb is_plain 92 c refl

module _ (extra : Extra) (apart : Admissible extra) where
  pub extra_not_blank : (c : ℕ) → extra c ≡ true → is_blank c ≡ false
  extra_not_blank c = not_blank extra c apart.space apart.tab

  pub blank_not_extra : (c : ℕ) → is_blank c ≡ true → extra c ≡ false
  blank_not_extra c = turned (extra c) (is_blank c) (extra_not_blank c)
