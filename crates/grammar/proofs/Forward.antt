-- A step of the machine keeps what the grammar still asks: forwards, from a derivation to the next state.
use Prim.Native.Nat.{ℕ, suc, ◌<◌}
use native.Mathlib.Omega.{arith}
use mathlib.Core.Path.{◌≡◌, refl}
use mathlib.Core.Bool.{true, false}
use mathlib.Core.List.{List, [], ◌∷◌, reverse_aux}
use lib.ListN.{length, get_or}
use Rattle.octets.specs.Sets.{is_blank, is_token, is_target}
use Rattle.grammar.specs.Link.{Link, Param}
use Rattle.grammar.specs.Grammar.{
  Extra,
  Admissible,
  run_end,
  run_more,
  Blanks,
  inside_end,
  plain,
  pair,
  target_end,
  octet,
  triple,
}
use Rattle.grammar.specs.Grammar.{
  token,
  quoted,
  wider,
  from_token,
  Parameter,
  valueless,
  valued,
  Parameters,
  no_more,
  and_one,
  link,
  empty,
  one,
  Items,
  last,
  comma,
}
use Rattle.grammar.proofs.Classes.{
  token_not_blank,
  blank_not_token,
  token_not_quote,
  plain_not_quote,
  plain_not_backslash,
  extra_not_blank,
  blank_not_extra,
}
use Rattle.octets.proofs.Laws.{not_eqb}
use Rattle.grammar.specs.Machine.{State, Open, next, name_end, step, param, add, flag}
use Rattle.grammar.proofs.Rest.{
  whole,
  Gap,
  Ends,
  at_its_end,
  at_comma,
  After,
  NameRest,
  no_value,
  a_value,
  all_token,
  turns_wide,
  Rest,
}
use Rattle.grammar.proofs.Rest.{
  r_gap,
  r_target,
  r_percent,
  r_hex,
  r_after,
  r_semi,
  r_name,
  r_named,
  r_equals,
  r_bare,
  r_wide,
  r_quote,
  r_escape,
}

module _ (extra : Extra) (apart : Admissible extra) (s : List ℕ) where
  -- the octet that stands where further parameters or the link's end are asked
  pub data AfterStep (i : ℕ) : List Param → List Link → Type 0 where
    s_blank : {ps : List Param} {R : List Link} → is_blank (get_or s i 0) ≡ true → After extra s (suc i) ps R → AfterStep i ps R
    s_semi : {b j : ℕ} {p : Param} {ps : List Param} {R : List Link} → get_or s i 0 ≡ 59 → Blanks s (suc i) b
        → Parameter extra s b j p → After extra s j ps R → AfterStep i (p ∷ ps) R
    s_comma : {R : List Link} → get_or s i 0 ≡ 44 → Gap extra s (suc i) R → AfterStep i [] R

  pub after_step : {i : ℕ} {ps : List Param} {R : List Link} → i < length s → After extra s i ps R → AfterStep i ps R
  after_step h a = go h a.params a.ends
    where
      go : {i j : ℕ} {ps : List Param} {R : List Link} → i < length s → Parameters extra s i j ps → Ends extra s j R
          → AfterStep i ps R
      go h no_more (at_its_end run_end e) = absurd (omega arith)
      go h no_more (at_its_end (run_more b r) e) = s_blank b.is (record { stop = _; params = no_more; ends = at_its_end r e })
      go h no_more (at_comma run_end a g) = s_comma a.is g
      go h no_more (at_comma (run_more b r) a g) = s_blank b.is (record { stop = _; params = no_more; ends = at_comma r a g })
      go h (and_one run_end a bl p ps) en = s_semi a.is bl p (record { stop = _; params = ps; ends = en })
      go h (and_one (run_more b r) a bl p ps) en =
          s_blank b.is (record { stop = _; params = and_one r a bl p ps; ends = en })

  next_fwd : (o : Open) {i : ℕ} {ps : List Param} {R : List Link} → AfterStep i ps R
      → Rest extra s (next o (get_or s i 0)) (suc i) (whole o ps R)
  unfolding is_blank
  next_fwd o (s_blank b a) = rw b (r_after a)
  next_fwd o (s_semi e bl p a) = rw e (r_semi bl p a)
  next_fwd o (s_comma e g) = rw e (r_gap g)

  -- where a value may end stands no octet of a bare value
  ends_bare : {i : ℕ} {ps : List Param} {R : List Link} → AfterStep i ps R
      → (is_token (get_or s i 0) ≡ false) × (extra (get_or s i 0) ≡ false)
  unfolding is_token
  ends_bare (s_blank b a) = (blank_not_token _ b, blank_not_extra extra apart _ b)
  ends_bare (s_semi e bl p a) = rw e (refl, apart.semicolon)
  ends_bare (s_comma e g) = rw e (refl, apart.comma)

  name_fwd : (o : Open) {n e i j : ℕ} {p : Param} {ps : List Param} {R : List Link} → i < length s
      → NameRest extra s n e i j p → After extra s j ps R
      → Rest extra s (name_end o n e (get_or s i 0)) (suc i) (whole o (p ∷ ps) R)
  unfolding is_blank
  name_fwd o {n} {e} h (no_value run_end) a = go (after_step h a)
    where
      go : {i : ℕ} {ps : List Param} {R : List Link} → AfterStep i ps R
          → Rest extra s (name_end o n e (get_or s i 0)) (suc i) (whole o (flag n e ∷ ps) R)
      go (s_blank b a) = rw b (r_named (no_value run_end) a)
      go (s_semi q bl p a) = rw q (r_semi bl p a)
      go (s_comma q g) = rw q (r_gap g)
  name_fwd o h (no_value (run_more b r)) a = rw b.is (r_named (no_value r) a)
  name_fwd o h (a_value run_end q bl v) a = rw q.is (r_equals bl v a)
  name_fwd o h (a_value (run_more b r) q bl v) a = rw b.is (r_named (a_value r q bl v) a)

  -- where a name may end stands no token octet
  ends_name : {n e i j : ℕ} {p : Param} {ps : List Param} {R : List Link} → i < length s
      → NameRest extra s n e i j p → After extra s j ps R → is_token (get_or s i 0) ≡ false
  unfolding is_token
  ends_name h (no_value run_end) a = (ends_bare (after_step h a)).0
  ends_name h (no_value (run_more b r)) a = blank_not_token _ b.is
  ends_name h (a_value run_end q bl v) a = rw q.is refl
  ends_name h (a_value (run_more b r) q bl v) a = blank_not_token _ b.is

  gap_fwd : (ls : List Link) {i : ℕ} {R : List Link} → i < length s → Gap extra s i R
      → Rest extra s (step extra (State.gap ls) i (get_or s i 0)) (suc i) (reverse_aux ls R)
  unfolding is_blank
  gap_fwd ls h g = go ls h g.before g.items g.after g.complete
    where
      go : (ls : List Link) {i a b e : ℕ} {R : List Link} → i < length s → Blanks s i a → Items extra s a b R → Blanks s b e
          → e ≡ length s → Rest extra s (step extra (State.gap ls) i (get_or s i 0)) (suc i) (reverse_aux ls R)
      go ls h (run_more b r) it af w = rw b.is (r_gap (record { start = _; stop = _; end = _; before = r; items = it; after = af; complete = w }))
      go ls h run_end (last empty) run_end w = absurd (omega arith)
      go ls h run_end (last empty) (run_more b r) w =
          rw b.is (r_gap (record { start = _; stop = _; end = _; before = run_end; items = last empty; after = r; complete = w }))
      go ls h run_end (last (one (link q t k ps))) af w =
          rw q.is (r_target t k (record { stop = _; params = ps; ends = at_its_end af w }))
      go ls h run_end (comma empty run_end q bl it) af w =
          rw q.is (r_gap (record { start = _; stop = _; end = _; before = bl; items = it; after = af; complete = w }))
      go ls h run_end (comma empty (run_more b r) q bl it) af w =
          rw b.is (r_gap (record { start = _; stop = _; end = _; before = run_end; items = comma empty r q bl it; after = af; complete = w }))
      go ls h run_end (comma (one (link q t k ps)) r c bl it) af w =
          rw q.is
          (r_target t k
          (record {
            stop = _;
            params = ps;
            ends = at_comma r c (record { start = _; stop = _; end = _; before = bl; items = it; after = af; complete = w });
          }))

  pub forward : {st : State} {i : ℕ} {R : List Link} → i < length s → Rest extra s st i R
      → Rest extra s (step extra st i (get_or s i 0)) (suc i) R
  unfolding is_blank is_token is_target
  forward h (r_gap {ls = ls} g) = gap_fwd ls h g
  forward h (r_target target_end k a) = rw k.is (r_after a)
  forward h (r_target (octet c t) k a) = rw c.is (r_target t k a)
  forward h (r_target (triple p x y t) k a) = rw p.is (r_percent x y t k a)
  forward h (r_percent x y t k a) = rw x.is (r_hex y t k a)
  forward h (r_hex y t k a) = rw y.is (r_target t k a)
  forward h (r_after {o = o} a) = next_fwd o (after_step h a)
  forward h (r_semi (run_more b r) p a) = rw b.is (r_semi r p a)
  forward h (r_semi run_end (valueless n bl) a) =
      rw (token_not_blank _ n.first.is, n.first.is) (r_name n.rest (no_value bl) a)
  forward h (r_semi run_end (valued n bl q cl v) a) =
      rw (token_not_blank _ n.first.is, n.first.is) (r_name n.rest (a_value bl q cl v) a)
  forward h (r_name (run_more c r) nr a) = rw c.is (r_name r nr a)
  forward h (r_name {o = o} run_end nr a) = rw (ends_name h nr a) (name_fwd o h nr a)
  forward h (r_named {o = o} nr a) = name_fwd o h nr a
  forward h (r_equals (run_more b r) v a) = rw b.is (r_equals r v a)
  forward h (r_equals run_end (token t) a) =
      rw (token_not_blank _ t.first.is, token_not_quote _ t.first.is, t.first.is) (r_bare (all_token t.rest) a)
  forward h (r_equals run_end (quoted q t k) a) = rw q.is (r_quote t k a)
  forward h (r_equals run_end (wider (from_token run_end x r)) a) =
      rw (extra_not_blank extra apart _ x.is, not_eqb extra 34 _ apart.quote x.is, apart.token _ x.is, x.is) (r_wide r a)
  forward h (r_equals run_end (wider (from_token (run_more c t) x r)) a) =
      rw (token_not_blank _ c.is, token_not_quote _ c.is, c.is) (r_bare (turns_wide t x r) a)
  forward h (r_bare (all_token (run_more c r)) a) = rw c.is (r_bare (all_token r) a)
  forward h (r_bare {o = o} {n = n} {e = e} {v = v} {j = j} (all_token run_end) a) =
      let x = after_step h a in
      rw ((ends_bare x).0, (ends_bare x).1) (next_fwd (add (param n e v j 1) o) x)
  forward h (r_bare (turns_wide (run_more c t) x r) a) = rw c.is (r_bare (turns_wide t x r) a)
  forward h (r_bare (turns_wide run_end x r) a) = rw (apart.token _ x.is, x.is) (r_wide r a)
  forward h (r_wide (run_more c r) a) = rw c.is (r_wide r a)
  forward h (r_wide {o = o} {n = n} {e = e} {v = v} {j = j} run_end a) =
      let x = after_step h a in
      rw ((ends_bare x).0, (ends_bare x).1) (next_fwd (add (param n e v j 3) o) x)
  forward h (r_quote inside_end k a) = rw k.is (r_after a)
  forward h (r_quote (plain c t) k a) =
      rw (plain_not_quote _ c.is, plain_not_backslash _ c.is, c.is) (r_quote t k a)
  forward h (r_quote (pair b x t) k a) = rw b.is (r_escape x t k a)
  forward h (r_escape x t k a) = rw x.is (r_quote t k a)
