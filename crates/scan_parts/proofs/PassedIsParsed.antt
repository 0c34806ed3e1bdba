-- What a scan has passed piece by piece is parsed: a value, a parameter.
use Prim.Native.Nat.{ℕ, suc, ◌+◌, ◌<◌}
use native.Mathlib.Numerals.{add-one}
use mathlib.Core.Path.{◌≡◌, refl, sym, subst, subst₃, ◌∙◌}
use native.Mathlib.Omega.{arith}
use mathlib.Core.Bool.{Bool, true, false, cond, ◌||◌}
use mathlib.Core.List.{List}
use lib.Dec.{eqb}
use lib.ListN.{length, get_or}
use borrow.Author.Tests.{eqb-true, eqb-false}
use Rattle.octets.specs.Sets.{is_blank, is_token}
use Rattle.grammar.specs.Link.{Param}
use Rattle.grammar.specs.Grammar.{Extra, is_bare, At, Inside}
use Rattle.grammar.specs.Machine.{param}
use Rattle.kinds.specs.declared.Span.{Span}
use Rattle.records.specs.declared.ParamParts.{ParamParts}
use Rattle.records.specs.Slots.{to_param}
use Rattle.cursor.specs.Passed.{Passed}
use Rattle.scan_parts.specs.Parsed.{ParsedValue, a_token, a_wider, a_quoted, Parsed, without, with}
use Rattle.scan_parts.proofs.ReadyBehindValue.{first_of, uncons, no_further}

-- a span that was made of two cursors
abbrev pub FromTo : Span → ℕ → ℕ → Type 0
FromTo a b e = (a.from.0 ≡ b) × (a.to.0 ≡ e)

-- parts of such spans
same_param : (r : ParamParts) {n e a b f : ℕ} → FromTo r.name n e → FromTo r.value a b → r.form ≡ f
    → param n e a b f ≡ to_param r
same_param r x y z = rw (x.0, x.1, y.0, y.1, z)

module _ {extra : Extra} {s : List ℕ} where
  pub quoted_parsed : {v j k d : ℕ} {a : Span} → At s v 34 → j ≡ v + 1 → Inside s j k → At s k 34 → FromTo a j k → d ≡ k + 1
      → ParsedValue extra s v a.from.0 a.to.0 2 d
  quoted_parsed {v} {j} {k} {d} {a} q e t z w n =
      let x : suc v ≡ a.from.0 = sym (w.0 ∙ e ∙ add-one v) in
      subst₃ (λ (f g h : ℕ). ParsedValue extra s v f g 2 h) x (sym w.1) (sym (n ∙ add-one k))
      (a_quoted q (subst (λ (m : ℕ). Inside s m k) (e ∙ add-one v) t) z)

  -- where the token octets end at k and the bare ones at e: further ones stand from k on
  bare_parsed_at : {v k e : ℕ} → Passed is_token s v k → Passed (is_bare extra) s k e → v < e
      → ParsedValue extra s v v e (cond (eqb k e) 1 3) e
  bare_parsed_at {v} {k} {e} t w h = go (eqb k e) refl
    where
      go : (b : Bool) → eqb k e ≡ b → ParsedValue extra s v v e (cond b 1 3) e
      go true q = a_token h (subst (Passed is_token s v) (eqb-true k e q) t) (no_further extra w)
      go false q =
          let l : k < e = omega (arith, w.forward, eqb-false k e q) in
          let (c, r) = uncons l w.run in
          a_wider t
          (record { inside = c.inside; is = subst (λ (x : Bool). (x || extra (get_or s k 0)) ≡ true) (t.stops c.inside) c.is })
          (record { forward = l; inside = w.inside; run = r; stops = w.stops })

  pub bare_parsed : {v k e f : ℕ} {a : Span} → Passed is_token s v k → Passed (is_bare extra) s k e → (e ≡ v → ⊥) → FromTo a v e
      → f ≡ cond (eqb k e) 1 3 → ParsedValue extra s v a.from.0 a.to.0 f e
  bare_parsed {v} {k} {e} t w n x f =
      subst₃ (λ (y z g : ℕ). ParsedValue extra s v y z g e) (sym x.0) (sym x.1) (sym f)
      (bare_parsed_at t w (omega (arith, t.forward, w.forward, n)))

  module _ {a e k : ℕ} {r : ParamParts} (t : Passed is_token s a e) (n : e ≡ a → ⊥) (b : Passed is_blank s e k)
      (x : FromTo r.name a e) where
    pub flag_parsed : (k < length s → eqb (get_or s k 0) 61 ≡ false) → FromTo r.value e e → r.form ≡ 0 → Parsed extra s a (to_param r) k
    flag_parsed q y z = subst (λ (p : Param). Parsed extra s a p k) (same_param r x y z) (without (first_of t n) t b q)

    pub valued_parsed : {j v f d : ℕ} {u : Span} → At s k 61 → j ≡ k + 1 → Passed is_blank s j v
        → ParsedValue extra s v u.from.0 u.to.0 f d → FromTo r.value u.from.0 u.to.0 → r.form ≡ f
        → Parsed extra s a (to_param r) d
    valued_parsed {v = v} {d = d} q m w h y z =
        subst (λ (p : Param). Parsed extra s a p d) (same_param r x y z)
        (with (first_of t n) t b q (subst (λ (g : ℕ). Passed is_blank s g v) (m ∙ add-one k) w) h)
