-- Where the machine stands before and behind a parameter: what is parsed leaves its link whole, and where no name stands the header
-- is malformed.
use Prim.Native.Nat.{ℕ, ◌+◌, ◌≤◌, ◌<◌}
use native.Mathlib.Omega.{arith}
use native.Mathlib.Numerals.{add-one}
use mathlib.Core.Path.{◌≡◌, refl, sym, subst, ◌∙◌}
use mathlib.Core.Bool.{false}
use mathlib.Core.List.{List}
use mathlib.Core.Option.{some}
use lib.Dec.{eqb}
use lib.ListN.{length, get_or}
use Rattle.octets.specs.Sets.{is_blank, is_token}
use Rattle.grammar.specs.Link.{Param}
use Rattle.grammar.specs.Grammar.{Extra, At, Run, run_end, run_more}
use Rattle.grammar.specs.Targets.{References}
use Rattle.grammar.specs.Place.{MalformedAt}
use Rattle.grammar.specs.Machine.{State, semi, name, named, equals, dead, step, Open, name_end, add, settle, close, flag}
use Rattle.grammar.proofs.Classes.{token_not_blank, blank_not_token}
use Rattle.tables.specs.Good.{InText}
use Rattle.cursor.specs.Passed.{Passed}
use Rattle.scan_parts.specs.Stands.{Stands, Ready, Clear}
use Rattle.scan_parts.specs.Parsed.{Parsed, without, with}
use Rattle.scan_parts.proofs.Standing.{stands_on, stands_run, halts}
use Rattle.scan_parts.proofs.ReadyBehindValue.{not_there, uncons, value_ready, value_forward}

-- no name begins here
pub no_name : (extra : Extra) {s : List ℕ} {a e : ℕ} → Clear s a → Passed is_token s a e → e ≡ a → (o : Open) → a < length s
    → step extra (semi o) a (get_or s a 0) ≡ dead
no_name extra c t e o h = rw (c.clear h, not_there t e h)

module _ {extra : Extra} {s : List ℕ} where
  pub no_param_here : {a e : ℕ} → Clear s a → Passed is_token s a e → e ≡ a → (o : Open) → Stands extra s (semi o) a
      → References s (close o) → MalformedAt extra s a
  no_param_here c t e o p r =
      halts p refl refl (no_name extra c t e o) r

  name_passed : {a e : ℕ} (o : Open) → a < e → Run s is_token a e → Stands extra s (semi o) a → Stands extra s (name o a) e
  name_passed {a} o h t p =
      let (c, r) = uncons h t in
      stands_run (λ i x q. rw q) r
      (stands_on (name o a) p c.inside (rw (token_not_blank (get_or s a 0) c.is, c.is)))

  -- behind a name, over blanks
  blanks_passed : {a e k : ℕ} (o : Open) → Run s is_blank e k → Stands extra s (name o a) e
      → (st : State) × Stands extra s st k × (settle st k ≡ some (close (add (flag a e) o)))
      × ((e < length s → is_token (get_or s e 0) ≡ false) → k < length s → step extra st k (get_or s k 0) ≡ name_end o a e (get_or s k 0))
  blanks_passed {a} {e} o run_end p = (name o a, p, refl, λ t h. rw (t h))
  blanks_passed {a} {e} o (run_more b r) p = (
    named o a e,
    stands_run (λ i x q. rw q) r
        (stands_on (named o a e) p b.inside (rw (blank_not_token (get_or s e 0) b.is, b.is))),
    refl,
    λ t h. refl,
  )

  pub equals_reached : {a e k j v : ℕ} (o : Open) → a < e → Passed is_token s a e → Passed is_blank s e k → At s k 61 → j ≡ k + 1
      → Passed is_blank s j v → Stands extra s (semi o) a → Stands extra s (equals o a e) v
  unfolding is_blank
  equals_reached {a} {e} {k} o h t b q n w p =
      let (st, here, _, on) = blanks_passed o b.run (name_passed o h t.run p) in
      stands_run (λ i x f. rw f) w.run
      (subst (Stands extra s (equals o a e)) (sym (n ∙ add-one k))
      (stands_on (equals o a e) here q.inside (on t.stops q.inside ∙ rw q.is)))

  flag_ready : {a e j : ℕ} (o : Open) → a < e → Passed is_token s a e → Passed is_blank s e j
      → (j < length s → eqb (get_or s j 0) 61 ≡ false) → Stands extra s (semi o) a → Ready extra s (add (flag a e) o) j
  flag_ready o h t b q p =
      let (st, here, settles, on) = blanks_passed o b.run (name_passed o h t.run p) in
      record {
        state = st;
        stands = here;
        settles = settles;
        steps = λ k. on t.stops k ∙ rw (b.stops k, q k);
      }

  pub parsed_ready : {a j : ℕ} {p : Param} (o : Open) → Parsed extra s a p j → Stands extra s (semi o) a → Ready extra s (add p o) j
  parsed_ready o (without h t b q) p = flag_ready o h t b q p
  parsed_ready {a} o (with {e = e} {k = k} h t b q w v) p =
      value_ready o a e v (equals_reached o h t b q (sym (add-one k)) w p)

  -- a parameter has an octet at least, and its name stands in the text
  pub parsed_forward : {a j : ℕ} {p : Param} → Parsed extra s a p j → (a < j) × (j ≤ length s)
  parsed_forward (without h t b q) = (omega (arith, b.forward), b.inside)
  parsed_forward (with h t b q w v) =
      (omega (arith, b.forward, w.forward, (value_forward v).0), (value_forward v).1)

  pub parsed_name : {a j : ℕ} {p : Param} → Parsed extra s a p j → InText s p.name_from p.name_to
  parsed_name (without h t b q) = record { ordered = t.forward; inside = t.inside }
  parsed_name (with h t b q w v) = record { ordered = t.forward; inside = t.inside }
