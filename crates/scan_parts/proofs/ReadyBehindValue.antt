-- Where the machine stands before and behind a value: what is parsed leaves its link whole, and where nothing fits the header is
-- malformed.
use Prim.Native.Nat.{ℕ, suc, ◌+◌, ◌≤◌, ◌<◌}
use native.Mathlib.Omega.{arith}
use native.Mathlib.Numerals.{add-one}
use mathlib.Core.Path.{◌≡◌, refl, sym, subst, ◌∙◌}
use native.Mathlib.Decide.{dec_le}
use mathlib.Core.Bool.{Bool, true, false, ◌||◌, true≢false}
use mathlib.Core.List.{List}
use lib.Dec.{eqb}
use lib.ListN.{length, get_or}
use Rattle.octets.specs.Sets.{is_blank, is_token}
use Rattle.octets.proofs.Laws.{not_eqb}
use Rattle.grammar.specs.Grammar.{Extra, Admissible, is_bare, At, In, Run, run_end, run_more}
use Rattle.grammar.specs.Targets.{References}
use Rattle.grammar.specs.Place.{MalformedAt}
use Rattle.grammar.specs.Machine.{equals, bare, wide, quote, after, dead, step, Open, add, param, close}
use Rattle.grammar.proofs.Classes.{token_not_blank, token_not_quote, extra_not_blank}
use Rattle.tables.proofs.Texts.{inside_le}
use Rattle.cursor.specs.Passed.{Passed}
use Rattle.scan_parts.specs.Stands.{Stands, Ready, Clear}
use Rattle.scan_parts.specs.Parsed.{ParsedValue, a_token, a_wider, a_quoted}
use Rattle.scan_parts.proofs.Standing.{stands_on, stands_run, halts}
use Rattle.scan_parts.proofs.InsideSoFar.{inside_stands}

module _ {s : List ℕ} where
  -- where an octet of a set would have to stand, none does
  pub not_there : {f : ℕ → Bool} {a e : ℕ} → Passed f s a e → e ≡ a → a < length s → f (get_or s a 0) ≡ false
  not_there {f} {a} p e h = subst (λ (n : ℕ). n < length s → f (get_or s n 0) ≡ false) e p.stops h

  pub first_of : {f : ℕ → Bool} {a e : ℕ} → Passed f s a e → (e ≡ a → ⊥) → a < e
  first_of p n = omega (arith, p.forward, n)

  pub uncons : {f : ℕ → Bool} {a e : ℕ} → a < e → Run s f a e → In s f a × Run s f (suc a) e
  uncons h run_end = absurd (omega arith)
  uncons h (run_more c r) = (c, r)

-- of a set of two, an octet that is not in it is in neither
neither : (a b : Bool) → (a || b) ≡ false → b ≡ false
neither true b e = absurd (true≢false e)
neither false b e = e

-- where the octets of a bare value end, no further one stands
pub no_further : (extra : Extra) {s : List ℕ} {k e : ℕ} → Passed (is_bare extra) s k e → e < length s → extra (get_or s e 0) ≡ false
no_further extra {s} {e = e} w h = neither (is_token (get_or s e 0)) (extra (get_or s e 0)) (w.stops h)

-- no value begins here
pub no_value_step : (extra : Extra) {s : List ℕ} {v k e : ℕ} → Clear s v → (v < length s → eqb (get_or s v 0) 34 ≡ false) → Passed is_token s v k
    → Passed (is_bare extra) s k e → e ≡ v → (o : Open) (n m : ℕ) → v < length s → step extra (equals o n m) v (get_or s v 0) ≡ dead
no_value_step extra {s} {v} {k} {e} c q t w z o n m h =
    let y : k ≡ v = omega (arith, t.forward, w.forward) in
    let none : v < length s → extra (get_or s v 0) ≡ false =
    subst (λ (i : ℕ). i < length s → extra (get_or s i 0) ≡ false) z (no_further extra w)
    in
    rw (c.clear h, q h, not_there t y h, none h)

module _ {extra : Extra} {s : List ℕ} where
  pub ready_after : {o : Open} {i : ℕ} → Stands extra s (after o) i → Ready extra s o i
  ready_after {o} p = record { state = after o; stands = p; settles = refl; steps = λ h. refl }

  pub no_value_here : {v k e : ℕ} → Clear s v → (v < length s → eqb (get_or s v 0) 34 ≡ false) → Passed is_token s v k
      → Passed (is_bare extra) s k e → e ≡ v → (o : Open) (n m : ℕ) → Stands extra s (equals o n m) v
      → References s (close o) → MalformedAt extra s v
  no_value_here {v} {k} {e} c q t w z o n m p r =
      halts p refl refl (no_value_step extra c q t w z o n m) r

  pub quote_starts : {v j : ℕ} → At s v 34 → j ≡ v + 1 → (o : Open) (n e : ℕ) → Stands extra s (equals o n e) v
      → Stands extra s (quote o n e (suc v)) j
  unfolding is_blank
  quote_starts {v} q k o n e p =
      subst (Stands extra s (quote o n e (suc v))) (sym (k ∙ add-one v))
      (stands_on (quote o n e (suc v)) p q.inside (rw q.is))

  -- a bare value's token octets
  tokens_passed : {v j : ℕ} (o : Open) (n e : ℕ) → v < j → Run s is_token v j → Stands extra s (equals o n e) v
      → Stands extra s (bare o n e v) j
  tokens_passed {v} {j} o n e h t p =
      let (c, r) = uncons h t in
      stands_run (λ i x q. rw q) r
      (stands_on (bare o n e v) p c.inside
      (rw (token_not_blank (get_or s v 0) c.is, token_not_quote (get_or s v 0) c.is, c.is)))

  -- and its first further octet
  widened : {v k : ℕ} (o : Open) (n e : ℕ) → Passed is_token s v k → In s extra k → Stands extra s (equals o n e) v
      → Stands extra s (wide o n e v) (suc k)
  widened {v} {k} o n e t x p = go (dec_le k v)
    where
      a : Admissible extra
      a = p.apart

      no_token : is_token (get_or s k 0) ≡ false
      no_token = a.token (get_or s k 0) x.is

      go : Dec (k ≤ v) → Stands extra s (wide o n e v) (suc k)
      go (no h) = stands_on (wide o n e v) (tokens_passed o n e (omega arith) t.run p) x.inside (rw (no_token, x.is))
      go (yes h) =
          let z : v ≡ k = omega (arith, t.forward) in
          stands_on (wide o n e v) (subst (Stands extra s (equals o n e)) z p) x.inside
          (rw (
            extra_not_blank extra a (get_or s k 0) x.is,
            not_eqb extra 34 (get_or s k 0) a.quote x.is,
            no_token,
            x.is,
            z,
          ))

  pub value_ready : {v a b f j : ℕ} (o : Open) (n e : ℕ) → ParsedValue extra s v a b f j → Stands extra s (equals o n e) v
      → Ready extra s (add (param n e a b f) o) j
  value_ready {v} o n e (a_token h t z) p =
      record {
        state = bare o n e v;
        stands = tokens_passed o n e h t.run p;
        settles = refl;
        steps = λ k. rw (t.stops k, z k);
      }
  value_ready {v} o n e (a_wider t x w) p =
      record {
        state = wide o n e v;
        stands = stands_run (λ i c q. rw q) w.run (widened o n e t x p);
        settles = refl;
        steps = λ k. rw (w.stops k);
      }
  value_ready {v} o n e (a_quoted {k = k} q t z) p =
      ready_after
      (stands_on (after (add (param n e (suc v) k 2) o))
      (inside_stands o n e (suc v) t (quote_starts q (sym (add-one v)) o n e p)) z.inside (rw z.is))

  -- a value has an octet at least
  pub value_forward : {v a b f j : ℕ} → ParsedValue extra s v a b f j → (v < j) × (j ≤ length s)
  value_forward (a_token h t z) = (h, t.inside)
  value_forward (a_wider t x w) = (omega (arith, t.forward, w.forward), w.inside)
  value_forward (a_quoted q t z) = (omega (arith, inside_le s t), z.inside)
