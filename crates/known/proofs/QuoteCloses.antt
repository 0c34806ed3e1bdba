-- A quoted string that is known to be derived has its closing quote, and a loop that seeks it finds it.
use Prim.Native.Nat.{ℕ, zero, suc, ◌+◌, ◌≤◌, ◌<◌}
use native.Mathlib.Omega.{arith}
use native.Mathlib.Numerals.{add-one}
use native.Mathlib.Decide.{dec_le}
use mathlib.Core.Path.{◌≡◌, refl, sym, subst, ◌∙◌}
use mathlib.Core.Bool.{Bool, true, false, true≢false}
use mathlib.Core.List.{List}
use lib.Dec.{eqb}
use lib.ListN.{length, get_or}
use borrow.Author.Tests.{eqb-true, eq-eqb}
use Rattle.octets.specs.Sets.{is_plain, is_escapable}
use Rattle.grammar.specs.Link.{Link}
use Rattle.grammar.specs.Grammar.{Extra, At, Inside, inside_end, plain, pair, Field}
use Rattle.grammar.proofs.Classes.{plain_not_quote, plain_not_backslash}
use Rattle.grammar.specs.Machine.{quote, escape, Open}
use Rattle.tables.proofs.Texts.{inside_le}
use Rattle.cursor.specs.Passed.{Looked}
use Rattle.scan_parts.specs.Stands.{Stands}
use Rattle.known.specs.Known.{KnownQuoted}
use Rattle.scan_parts.proofs.Standing.{stands_on, dies_at, dies_end}
use Rattle.known.proofs.DerivedGoesOn.{must, not_seen}

-- the inside of a quoted string, and the quote behind it
pub record Unquoted (s : List ℕ) (i : ℕ) : Type 0 where
  pub end : ℕ
  pub inside : Inside s i end
  pub closed : At s end 34

module _ {extra : Extra} {s : List ℕ} {R : List Link} (derived : Field extra s R) where
  module _ (o : Open) (n e v : ℕ) where
    quote_on : (m i : ℕ) → length s ≤ i + suc m → Stands extra s (quote o n e v) i
        → ((j : ℕ) → length s ≤ j + m → Stands extra s (quote o n e v) j → Unquoted s j) → Unquoted s i
    quote_on m i h p further = go (dec_le (length s) i)
      where
        test : (t : Bool) → eqb (get_or s i 0) 34 ≡ t → (u : Bool) → eqb (get_or s i 0) 92 ≡ u → (z : Bool)
            → is_plain (get_or s i 0) ≡ z → i < length s → Unquoted s i
        test true f u g z k l =
            record { end = i; inside = inside_end; closed = record { inside = l; is = eqb-true _ 34 f } }
        test false f true g z k l =
            must derived is_escapable (quote o n e v) (stands_on (escape o n e v) p l (rw (f, g))) refl refl (λ c. refl)
            (λ x q.
            let r = further (suc (suc i)) (omega arith) q in
            record {
              end = r.end;
              inside = pair (record { inside = l; is = eqb-true _ 92 g }) x r.inside;
              closed = r.closed;
            })
        test false f false g true k l =
            let r = further (suc i) (omega arith) (stands_on (quote o n e v) p l (rw (f, g, k))) in
            record { end = r.end; inside = plain (record { inside = l; is = k }) r.inside; closed = r.closed }
        test false f false g false k l = absurd (dies_at p l (rw (f, g, k)) derived)

        go : Dec (length s ≤ i) → Unquoted s i
        go (yes l) = absurd (dies_end p l refl derived)
        go (no l) =
            test (eqb (get_or s i 0) 34) refl (eqb (get_or s i 0) 92) refl (is_plain (get_or s i 0)) refl (omega arith)

    quote_closes : (m i : ℕ) → length s ≤ i + m → Stands extra s (quote o n e v) i → Unquoted s i
    quote_closes zero i h p = absurd (dies_end p (omega arith) refl derived)
    quote_closes (suc m) i h p = quote_on m i h p (quote_closes m)

-- on the way to the closing quote
pub record Quoting (s : List ℕ) (a i : ℕ) : Type 0 where
  pub whole : Unquoted s a
  pub left : Inside s i whole.end

module _ {s : List ℕ} where
  pub quoting : {a : ℕ} → KnownQuoted s a → Quoting s a a
  quoting {a} k =
      let w = quote_closes k.known.derived k.link k.name k.end k.value (length s) a (omega arith) k.known.stands in
      record { whole = w; left = w.inside }

  pub quoting_inside : {a i : ℕ} → Quoting s a i → i < length s
  quoting_inside g = omega (arith, inside_le s g.left, g.whole.closed.inside)

  pub quoted_all : {a i : ℕ} → Quoting s a i → At s i 34 → Inside s a i × At s i 34
  quoted_all {a} {i} g e = go g.left g.whole.inside
    where
      go : {j : ℕ} → Inside s i j → Inside s a j → Inside s a i × At s i 34
      go inside_end t = (t, e)
      go (plain c r) t =
          absurd (true≢false (sym (eq-eqb (get_or s i 0) 34 e.is) ∙ plain_not_quote (get_or s i 0) c.is))
      go (pair b c r) t = absurd (omega (arith, b.is, e.is))

  -- a backslash, and the octet behind it
  quoted_pair : {a i : ℕ} (g : Quoting s a i) → At s i 92 → (suc i < length s) × Inside s (suc (suc i)) g.whole.end
  quoted_pair {i = i} g e = go g.left g.whole.closed
    where
      go : {j : ℕ} → Inside s i j → At s j 34 → (suc i < length s) × Inside s (suc (suc i)) j
      go inside_end q = absurd (omega (arith, q.is, e.is))
      go (plain c r) q =
          absurd (true≢false (sym (eq-eqb (get_or s i 0) 92 e.is) ∙ plain_not_backslash (get_or s i 0) c.is))
      go (pair b c r) q = (c.inside, r)

  pub pair_inside : {a i j : ℕ} → Quoting s a i → At s i 92 → j ≡ i + 1 → j < length s
  pair_inside g e k = omega (arith, (quoted_pair g e).0)

  pub quoting_pair : {a i j k : ℕ} → Quoting s a i → At s i 92 → j ≡ i + 1 → k ≡ j + 1 → Quoting s a k
  quoting_pair {i = i} {k = k} g e p q =
      let m : suc (suc i) ≡ k = omega arith in
      record { whole = g.whole; left = subst (λ (n : ℕ). Inside s n g.whole.end) m (quoted_pair g e).1 }

  -- an octet that stands for itself
  pub quoting_on : {a i j : ℕ} {b c : Bool} → Quoting s a i → Looked s i 34 b → b ≡ false → Looked s i 92 c → c ≡ false
      → j ≡ i + 1 → Quoting s a j
  quoting_on {i = i} g l f m h k =
      record { whole = g.whole; left = rw (k, add-one) (go g.left g.whole.closed) }
    where
      go : {j : ℕ} → Inside s i j → At s j 34 → Inside s (suc i) j
      go inside_end q = absurd (not_seen l f q)
      go (plain c r) q = r
      go (pair b c r) q = absurd (not_seen m h b)
