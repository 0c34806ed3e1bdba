-- In a good table every value means its part with the backslashes taken out, whatever its form: a token and a wider value hold
-- none, and no value is empty.
use Prim.Native.Nat.{ℕ}
use mathlib.Core.Path.{◌≡◌, refl, sym}
use mathlib.Core.Bool.{Bool, true, false, ◌||◌}
use mathlib.Core.List.{List, [], ◌∷◌}
use lib.Seq.{slice, slice_empty}
use Rattle.octets.specs.Editions.{further}
use Rattle.octets.specs.declared.editions.Edition.TheVariants.{Rfc5988}
use Rattle.octets.specs.Sets.{all, is_token, is_plain, is_older}
use Rattle.octets.proofs.Octets.{both}
use Rattle.octets.proofs.Laws.{token_plain}
use Rattle.octets.proofs.Further.{older_plain}
use Rattle.grammar.specs.Link.{Param}
use Rattle.grammar.specs.Grammar.{run_more, is_bare}
use Rattle.grammar.proofs.Classes.{plain_not_backslash}
use Rattle.tables.specs.Good.{GoodValue, no_value, token_value, quoted_value, wider_value, GoodParam}
use Rattle.tables.specs.Meaning.{unescape_from, unescape, value_of}
use Rattle.tables.proofs.Texts.{unescape_plain, run_text, wider_run}
use Rattle.values.specs.Rest.{rest}

-- octets of a set that stand for themselves in a quoted string
unescape_bare : {f : ℕ → Bool} → ((c : ℕ) → f c ≡ true → is_plain c ≡ true) → (v : List ℕ) → all f v ≡ true
    → unescape_from false v ≡ v
unescape_bare plain [] h = refl
unescape_bare {f} plain (c ∷ v) h =
    let b = both (f c) (all f v) h in
    rw (unescape_plain c v (plain_not_backslash c (plain c b.0)), unescape_bare plain v b.1)

bare_plain : (c : ℕ) → is_bare (further Rfc5988) c ≡ true → is_plain c ≡ true
bare_plain c = go (is_token c) refl
  where
    go : (b : Bool) → is_token c ≡ b → (b || is_older c) ≡ true → is_plain c ≡ true
    go true e h = token_plain c e
    go false e h = older_plain c h

pub value_meant : {s : List ℕ} {p : Param} → GoodParam (further Rfc5988) s p → value_of s p ≡ rest s p.value_to p.value_from
unfolding value_of unescape
value_meant {s} {p} g = go g.value
  where
    go : GoodValue (further Rfc5988) s p → value_of s p ≡ rest s p.value_to p.value_from
    go (no_value f a b) = rw (f, a, b, slice_empty p.name_to s)
    go (token_value f t) =
        let tokens = run_text s g.value_span.inside (run_more t.first t.rest) in
        rw f (sym (unescape_bare token_plain (slice p.value_from p.value_to s) tokens))
    go (quoted_value f q) = rw f
    go (wider_value f w) =
        let octets = run_text s g.value_span.inside (wider_run s w) in
        rw f (sym (unescape_bare bare_plain (slice p.value_from p.value_to s) octets))
