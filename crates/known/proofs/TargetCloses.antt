-- A target that is known to be derived has its `>`, and a loop that seeks it finds it.
use Prim.Native.Nat.{ℕ, zero, suc, ◌+◌, ◌≤◌, ◌<◌}
use native.Mathlib.Omega.{arith}
use native.Mathlib.Numerals.{add-one}
use native.Mathlib.Decide.{dec_le}
use mathlib.Core.Path.{◌≡◌, refl, sym, ap, ◌∙◌}
use mathlib.Core.Bool.{Bool, true, false, not, true≢false}
use mathlib.Core.List.{List}
use lib.Dec.{eqb}
use lib.ListN.{length, get_or}
use borrow.Author.Tests.{eqb-true, eq-eqb}
use Rattle.octets.specs.Sets.{is_target, is_hex}
use Rattle.octets.proofs.Laws.{not_eqb}
use Rattle.grammar.specs.Link.{Link}
use Rattle.grammar.specs.Grammar.{Extra, At, In, Run, run_end, run_more, Target, target_end, octet, triple, Field}
use Rattle.grammar.specs.Machine.{target, percent, hex}
use Rattle.tables.proofs.Texts.{run_le}
use Rattle.cursor.specs.Passed.{Looked}
use Rattle.cursor.proofs.RunSoFar.{run_snoc}
use Rattle.scan_parts.specs.Stands.{Stands}
use Rattle.known.specs.Known.{KnownTarget, is_open}
use Rattle.scan_parts.proofs.Standing.{stands_on, dies_at, dies_end}
use Rattle.known.proofs.DerivedGoesOn.{must}

-- a target, and the `>` behind it
pub record Closed (s : List ℕ) (i : ℕ) : Type 0 where
  pub end : ℕ
  pub inside : Target s i end
  pub closed : At s end 62

module _ {extra : Extra} {s : List ℕ} {R : List Link} (derived : Field extra s R) where
  module _ (ls : List Link) (b : ℕ) where
    target_on_lem : (n i : ℕ) → length s ≤ i + suc n → Stands extra s (target ls b) i
        → ((j : ℕ) → length s ≤ j + n → Stands extra s (target ls b) j → Closed s j) → Closed s i
    target_on_lem n i h p further = go (dec_le (length s) i)
      where
        digits : i < length s → eqb (get_or s i 0) 37 ≡ true → Stands extra s (percent ls b) (suc i) → Closed s i
        digits l u q =
            must derived is_hex (hex ls b) q refl refl (λ c. refl)
            (λ x q.
            must derived is_hex (target ls b) q refl refl (λ c. refl)
            (λ y q.
            let r = further (suc (suc (suc i))) (omega arith) q in
            record {
              end = r.end;
              inside = triple (record { inside = l; is = eqb-true _ 37 u }) x y r.inside;
              closed = r.closed;
            }))

        test : (t : Bool) → is_target (get_or s i 0) ≡ t → (u : Bool) → eqb (get_or s i 0) 37 ≡ u → (z : Bool)
            → eqb (get_or s i 0) 62 ≡ z → i < length s → Closed s i
        test true e u f z g l =
            let r = further (suc i) (omega arith) (stands_on (target ls b) p l (rw e)) in
            record { end = r.end; inside = octet (record { inside = l; is = e }) r.inside; closed = r.closed }
        test false e true f z g l = digits l f (stands_on (percent ls b) p l (rw (e, f)))
        test false e false f true g l =
            record { end = i; inside = target_end; closed = record { inside = l; is = eqb-true _ 62 g } }
        test false e false f false g l = absurd (dies_at p l (rw (e, f, g)) derived)

        go : Dec (length s ≤ i) → Closed s i
        go (yes l) = absurd (dies_end p l refl derived)
        go (no l) =
            test (is_target (get_or s i 0)) refl (eqb (get_or s i 0) 37) refl (eqb (get_or s i 0) 62) refl (omega arith)

    -- with n octets left at most
    target_closes : (n i : ℕ) → length s ≤ i + n → Stands extra s (target ls b) i → Closed s i
    target_closes zero i h p = absurd (dies_end p (omega arith) refl derived)
    target_closes (suc n) i h p = target_on_lem n i h p (target_closes n)

-- on the way to a target's `>`
pub record Seeking (s : List ℕ) (a i : ℕ) : Type 0 where
  pub whole : Closed s a
  pub left : Run s is_open i whole.end

module _ {s : List ℕ} where
  not_close : (f : ℕ → Bool) {i : ℕ} → f 62 ≡ false → In s f i → In s is_open i
  not_close f {i} n x = record { inside = x.inside; is = rw (not_eqb f 62 (get_or s i 0) n x.is) }

  -- no `>` stands within a target
  unclosed : {a e : ℕ} → Target s a e → Run s is_open a e
  unfolding is_target is_hex
  unclosed target_end = run_end
  unclosed (octet c t) = run_more (not_close is_target refl c) (unclosed t)
  unclosed (triple p x y t) =
      run_more (record { inside = p.inside; is = rw p.is })
      (run_more (not_close is_hex refl x) (run_more (not_close is_hex refl y) (unclosed t)))

  open_or_close : {i : ℕ} → In s is_open i → At s i 62 → ⊥
  open_or_close {i} c e = true≢false (sym c.is ∙ ap not (eq-eqb (get_or s i 0) 62 e.is))

  -- what is passed without a `>` stands before the first
  left_of_end : {i j e : ℕ} → Run s is_open i j → Run s is_open i e → At s e 62 → Run s is_open j e
  left_of_end run_end r q = r
  left_of_end (run_more c p) run_end q = absurd (open_or_close c q)
  left_of_end (run_more c p) (run_more d r) q = left_of_end p r q

  -- blocks are passed first, and then octets
  pub seek : {a b i : ℕ} → KnownTarget s a → Run s is_open a b → Run s is_open b i → Seeking s a i
  seek {a} k p q =
      let w = target_closes k.known.derived k.links k.from (length s) a (omega arith) k.known.stands in
      record { whole = w; left = left_of_end q (left_of_end p (unclosed w.inside) w.closed) w.closed }

  pub seek_inside : {a i : ℕ} → Seeking s a i → i < length s
  seek_inside g = omega (arith, run_le s g.left, g.whole.closed.inside)

  pub sought : {a i : ℕ} → Seeking s a i → At s i 62 → Target s a i × At s i 62
  sought {a} {i} g e = go g.left g.whole.inside
    where
      go : {j : ℕ} → Run s is_open i j → Target s a j → Target s a i × At s i 62
      go run_end t = (t, e)
      go (run_more c r) t = absurd (open_or_close c e)

  -- an octet more
  pub open_more : {b i j : ℕ} {r : Bool} → Run s is_open b i → i < length s → Looked s i 62 r → r ≡ false → j ≡ i + 1 → Run s is_open b j
  open_more p h l f k = rw (k, add-one) (run_snoc p (record { inside = h; is = ap not (l.not f h) }))
