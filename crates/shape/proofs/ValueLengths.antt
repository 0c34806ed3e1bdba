-- How many octets a value takes, by its length with backslashes and by whether its octets are all token octets; and the value of a
-- good parameter.
use Prim.Native.Nat.{ℕ, ◌+◌, ◌-◌, ◌≤◌, ◌<◌}
use native.Mathlib.Omega.{arith}
use mathlib.Core.Path.{◌≡◌, refl, sym, ap, ◌∙◌}
use mathlib.Core.Bool.{Bool, true, false}
use mathlib.Core.List.{List, [], ◌∷◌}
use lib.ListN.{length, length-append, get_or}
use lib.Seq.{slice, length-slice, slice_empty, slice-cons}
use borrow.Author.Tests.{lt-ltb}
use Rattle.octets.specs.Editions.{further}
use Rattle.octets.specs.declared.editions.Edition.TheVariants.{Rfc5988}
use Rattle.octets.specs.Sets.{all, is_token, is_older}
use Rattle.octets.proofs.Further.{older_no_token}
use Rattle.grammar.specs.Link.{Param}
use Rattle.grammar.specs.Grammar.{Run, run_end, run_more, Inside, is_bare, Wider, from_token}
use Rattle.tables.specs.Good.{GoodValue, no_value, token_value, quoted_value, wider_value, GoodParam}
use Rattle.tables.specs.Meaning.{value_of}
use Rattle.tables.specs.Written.{is_token_text, escape, written_value}
use Rattle.tables.proofs.Texts.{run_le, run_text, wider_run}
use Rattle.values.specs.Rest.{rest}
use Rattle.values.proofs.Values.{value_meant}
use Rattle.shape.specs.Shape.{len_for}
use Rattle.shape.proofs.EscapedLengths.{escaped_length, escaped_bounds, escape_clear}
use Rattle.shape.proofs.SpanLengths.{inside_bound}

quoted_length : (v : List ℕ) → is_token_text v ≡ false → length (escape v) + 2 ≡ length (written_value v)
unfolding written_value
quoted_length v h = rw (h, length-append (escape v) (34 ∷ [])) (omega arith)

token_all : (v : List ℕ) → is_token_text v ≡ true → all is_token v ≡ true
token_all [] h = refl
token_all (c ∷ v) h = h

bare_length : (v : List ℕ) → is_token_text v ≡ true → length (escape v) ≡ length (written_value v)
unfolding written_value is_token
bare_length v h = rw (h, escape_clear is_token refl refl v (token_all v h))

not_token : (v : List ℕ) → all is_token v ≡ false → is_token_text v ≡ false
not_token [] h = refl
not_token (c ∷ v) h = h

written_bound : (v : List ℕ) → length (written_value v) ≤ length (escape v) + 2
written_bound v = go (is_token_text v) refl
  where
    go : (b : Bool) → is_token_text v ≡ b → length (written_value v) ≤ length (escape v) + 2
    go true e = omega (arith, bare_length v e)
    go false e = omega (arith, quoted_length v e)

pub length_for : (v : List ℕ) → len_for (length (escape v)) (all is_token v) ≡ length (written_value v)
length_for [] = quoted_length [] refl
length_for (c ∷ v) = go (all is_token (c ∷ v)) refl
  where
    some_octets : 0 < length (escape (c ∷ v))
    some_octets = omega (arith, escaped_length c (escape v), escaped_bounds c)

    go : (b : Bool) → all is_token (c ∷ v) ≡ b → len_for (length (escape (c ∷ v))) (all is_token (c ∷ v)) ≡ length (written_value (c ∷ v))
    go true e = rw (lt-ltb 0 (length (escape (c ∷ v))) some_octets, e) (bare_length (c ∷ v) e)
    go false e = rw (lt-ltb 0 (length (escape (c ∷ v))) some_octets, e) (quoted_length (c ∷ v) e)

-- ---- the value of a good parameter

-- of form 1: a token, which stands bare
token_bare : (v : List ℕ) → 0 < length v → all is_token v ≡ true → is_token_text v ≡ true
token_bare [] l h = absurd (omega arith)
token_bare (c ∷ v) l h = h

bare_len : (v : List ℕ) → 0 < length v → all is_token v ≡ true → length v ≡ length (written_value v)
unfolding written_value
bare_len v l h = rw (token_bare v l h)

-- the value stands bare, and takes the octets of its span
pub record StandsBare (s : List ℕ) (p : Param) : Type 0 where
  pub bare : true ≡ is_token_text (value_of s p)
  pub len : p.value_to - p.value_from ≡ length (written_value (value_of s p))

-- of form 3: bare octets, not all of a token, which stand as they are in quotes
wider_no_token : (s : List ℕ) {i j : ℕ} → j ≤ length s → Wider (further Rfc5988) s i j → all is_token (slice i j s) ≡ false
wider_no_token s {j = j} l (from_token {k = k} t x r) = go t
  where
    go : {a : ℕ} → Run s is_token a k → all is_token (slice a j s) ≡ false
    go {a} run_end = rw (slice-cons a j s 0 (run_le s r) l, older_no_token (get_or s a 0) x.is)
    go {a} (run_more c t) = rw (slice-cons a j s 0 (omega (arith, run_le s t, run_le s r)) l, c.is) (go t)

wider_len : (v : List ℕ) → all (is_bare (further Rfc5988)) v ≡ true → all is_token v ≡ false → length v + 2 ≡ length (written_value v)
unfolding is_token is_older
wider_len v b t =
    let same = ap length (escape_clear (is_bare (further Rfc5988)) refl refl v b) in
    omega (arith, same, quoted_length v (not_token v t))

module _ {s : List ℕ} {p : Param} (g : GoodParam (further Rfc5988) s p) where
  pub token_stands_bare : p.form ≡ 1 → StandsBare s p
  unfolding value_of
  token_stands_bare f = go g.value
    where
      go : GoodValue (further Rfc5988) s p → StandsBare s p
      go (no_value f' a b) = absurd (omega (arith, f, f'))
      go (quoted_value f' q) = absurd (omega (arith, f, f'))
      go (wider_value f' w) = absurd (omega (arith, f, f'))
      go (token_value f' t) =
          let v = slice p.value_from p.value_to s in
          let n = length-slice p.value_from p.value_to s g.value_span.inside in
          let some : 0 < length v = omega (arith, n, run_le s t.rest) in
          let tokens = run_text s g.value_span.inside (run_more t.first t.rest) in
          let is : value_of s p ≡ v = rw f in
          record {
            bare = sym (ap is_token_text is ∙ token_bare v some tokens);
            len = sym n ∙ bare_len v some tokens ∙ ap (λ x. length (written_value x)) (sym is);
          }

  -- of form 0 or 3: it stands in quotes, and nothing in it gets a backslash
  pub span_in_quotes : (p.form ≡ 1 → ⊥) → (p.form ≡ 2 → ⊥) → p.value_to - p.value_from + 2 ≡ length (written_value (value_of s p))
  unfolding value_of
  span_in_quotes no_one no-two = go g.value
    where
      go : GoodValue (further Rfc5988) s p → p.value_to - p.value_from + 2 ≡ length (written_value (value_of s p))
      go (no_value f a b) = rw (f, a, b, slice_empty p.name_to s) (omega (arith, quoted_length [] refl))
      go (token_value f t) = absurd (no_one f)
      go (quoted_value f q) = absurd (no-two f)
      go (wider_value f w) =
          let v = slice p.value_from p.value_to s in
          let n = length-slice p.value_from p.value_to s g.value_span.inside in
          let bare = run_text s g.value_span.inside (wider_run s w) in
          let is : value_of s p ≡ v = rw f in
          rw is (omega (arith, n, wider_len v bare (wider_no_token s g.value_span.inside w)))

  -- of form 2
  pub quoted_inside : p.form ≡ 2 → Inside s p.value_from p.value_to
  quoted_inside f = go g.value
    where
      go : GoodValue (further Rfc5988) s p → Inside s p.value_from p.value_to
      go (no_value f' a b) = absurd (omega (arith, f, f'))
      go (token_value f' t) = absurd (omega (arith, f, f'))
      go (quoted_value f' q) = q
      go (wider_value f' w) = absurd (omega (arith, f, f'))

  quoted_bound : Inside s p.value_from p.value_to → length (written_value (value_of s p)) ≤ p.value_to - p.value_from + 2
  quoted_bound q =
      let v = rest s p.value_to p.value_from in
      rw (value_meant g) (omega (arith, written_bound v, inside_bound g.value_span.inside q))

  -- of any form
  pub span_bound : length (written_value (value_of s p)) ≤ p.value_to - p.value_from + 2
  span_bound = go g.value
    where
      go : GoodValue (further Rfc5988) s p → length (written_value (value_of s p)) ≤ p.value_to - p.value_from + 2
      go (no_value f a b) = omega (arith, span_in_quotes (λ q. omega (arith, f)) (λ q. omega (arith, f)))
      go (token_value f t) = omega (arith, (token_stands_bare f).len)
      go (quoted_value f q) = quoted_bound q
      go (wider_value f w) = omega (arith, span_in_quotes (λ q. omega (arith, f)) (λ q. omega (arith, f)))

  -- what its span means is its value
  pub meant_length : {r : ℕ} → r ≡ length (written_value (rest s p.value_to p.value_from)) → r ≡ length (written_value (value_of s p))
  meant_length h = rw (value_meant g) h
