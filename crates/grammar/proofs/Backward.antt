-- A step of the machine keeps what the grammar still asks: backwards, from the next state to a derivation.
use Prim.Native.Nat.{ℕ, suc, ◌<◌}
use mathlib.Core.Path.{◌≡◌, refl}
use mathlib.Core.Bool.{Bool, true, false, cond}
use mathlib.Core.List.{List, [], ◌∷◌}
use lib.Dec.{eqb}
use lib.ListN.{length, get_or}
use borrow.Author.Tests.{eqb-true}
use Rattle.octets.specs.Sets.{is_blank, is_token, is_plain, is_target, is_hex, is_escapable}
use Rattle.grammar.specs.Link.{Link, Param}
use Rattle.grammar.specs.Grammar.{
  Extra,
  At,
  In,
  Run,
  run_end,
  run_more,
  inside_end,
  plain,
  pair,
  target_end,
  octet,
  triple,
  is_bare,
}
use Rattle.grammar.specs.Grammar.{
  Value,
  token,
  quoted,
  wider,
  from_token,
  Parameter,
  valueless,
  valued,
  Parameters,
  no_more,
  and_one,
  OneLink,
  link,
  empty,
  one,
  last,
  comma,
}
use Rattle.grammar.specs.Machine.{
  State,
  gap,
  target,
  percent,
  hex,
  after,
  semi,
  name,
  named,
  equals,
  bare,
  wide,
  quote,
  escape,
  dead,
  Open,
  next,
  name_end,
}
use Rattle.grammar.specs.Machine.{step, param, add, flag, close, opened}
use Rattle.grammar.proofs.Rest.{
  Gap,
  Ends,
  at_its_end,
  at_comma,
  After,
  NameRest,
  no_value,
  a_value,
  BareRest,
  all_token,
  turns_wide,
  Rest,
}
use Rattle.grammar.proofs.Rest.{
  r_gap,
  r_target,
  r_percent,
  r_hex,
  r_after,
  r_semi,
  r_name,
  r_named,
  r_equals,
  r_bare,
  r_wide,
  r_quote,
  r_escape,
}

module _ (extra : Extra) (s : List ℕ) where
  -- the test of an octet, read off a place of the text
  found : {f : ℕ → Bool} {i : ℕ} → i < length s → f (get_or s i 0) ≡ true → In s f i
  found h e = record { inside = h; is = e }

  stands : {i : ℕ} (c : ℕ) → i < length s → eqb (get_or s i 0) c ≡ true → At s i c
  stands c h e = record { inside = h; is = eqb-true _ c e }

  blank_after : {i : ℕ} {ps : List Param} {R : List Link} → In s is_blank i → After extra s (suc i) ps R → After extra s i ps R
  blank_after b a = go b a.params a.ends
    where
      go : {i j : ℕ} {ps : List Param} {R : List Link} → In s is_blank i → Parameters extra s (suc i) j ps → Ends extra s j R
          → After extra s i ps R
      go b no_more (at_its_end r e) = record { stop = _; params = no_more; ends = at_its_end (run_more b r) e }
      go b no_more (at_comma r q g) = record { stop = _; params = no_more; ends = at_comma (run_more b r) q g }
      go b (and_one r q bl p ps) en = record { stop = _; params = and_one (run_more b r) q bl p ps; ends = en }

  blank_name : {n e i j : ℕ} {p : Param} → In s is_blank i → NameRest extra s n e (suc i) j p → NameRest extra s n e i j p
  blank_name b (no_value r) = no_value (run_more b r)
  blank_name b (a_value r q bl v) = a_value (run_more b r) q bl v

  next_bwd : (o : Open) {i : ℕ} {R : List Link} → i < length s → Rest extra s (next o (get_or s i 0)) (suc i) R
      → Rest extra s (after o) i R
  next_bwd o {i} h = go (is_blank c) refl (eqb c 59) refl (eqb c 44) refl
    where
      c : ℕ
      c = get_or s i 0

      go : {R : List Link} (x : Bool) → is_blank c ≡ x → (y : Bool) → eqb c 59 ≡ y → (z : Bool) → eqb c 44 ≡ z
          → Rest extra s (cond x (after o) (cond y (semi o) (cond z (gap (close o)) dead))) (suc i) R → Rest extra s (after o) i R
      go true e y _ z _ (r_after a) = r_after (blank_after (found h e) a)
      go false _ true e z _ (r_semi bl p a) =
          r_after (record { stop = _; params = and_one run_end (stands 59 h e) bl p a.params; ends = a.ends })
      go false _ false _ true e (r_gap g) =
          r_after (record { stop = _; params = no_more; ends = at_comma run_end (stands 44 h e) g })
      go false _ false _ false e x12 = elim x12 [ ]

  name_bwd : (o : Open) (n e : ℕ) {i : ℕ} {R : List Link} → i < length s → Rest extra s (name_end o n e (get_or s i 0)) (suc i) R
      → Rest extra s (named o n e) i R
  name_bwd o n e {i} h = go (is_blank c) refl (eqb c 61) refl
    where
      c : ℕ
      c = get_or s i 0

      flagged : {R : List Link} → Rest extra s (after (add (flag n e) o)) i R → Rest extra s (named o n e) i R
      flagged (r_after a) = r_named (no_value run_end) a

      go : {R : List Link} (x : Bool) → is_blank c ≡ x → (y : Bool) → eqb c 61 ≡ y
          → Rest extra s (cond x (named o n e) (cond y (equals o n e) (next (add (flag n e) o) c))) (suc i) R
          → Rest extra s (named o n e) i R
      go true q y _ (r_named nr a) = r_named (blank_name (found h q) nr) a
      go false _ true q (r_equals bl v a) = r_named (a_value run_end (stands 61 h q) bl v) a
      go false _ false _ r = flagged (next_bwd (add (flag n e) o) h r)

  gap_bwd : (ls : List Link) {i : ℕ} {R : List Link} → i < length s
      → Rest extra s (step extra (gap ls) i (get_or s i 0)) (suc i) R → Rest extra s (gap ls) i R
  gap_bwd ls {i} h = go (is_blank c) refl (eqb c 44) refl (eqb c 60) refl
    where
      c : ℕ
      c = get_or s i 0

      ended : {l : Link} {j : ℕ} {R : List Link} → OneLink extra s i j l → Ends extra s j R → Gap extra s i (l ∷ R)
      ended l (at_its_end bl e) =
          record { start = _; stop = _; end = _; before = run_end; items = last (one l); after = bl; complete = e }
      ended l (at_comma bl q g) =
          record {
            start = _;
            stop = _;
            end = _;
            before = run_end;
            items = comma (one l) bl q g.before g.items;
            after = g.after;
            complete = g.complete;
          }

      go : {R : List Link} (x : Bool) → is_blank c ≡ x → (y : Bool) → eqb c 44 ≡ y → (z : Bool) → eqb c 60 ≡ z
          → Rest extra s (cond x (gap ls) (cond y (gap ls) (cond z (target ls (suc i)) dead))) (suc i) R
          → Rest extra s (gap ls) i R
      go true e y _ z _ (r_gap g) =
          r_gap
          (record {
            start = _;
            stop = _;
            end = _;
            before = run_more (found h e) g.before;
            items = g.items;
            after = g.after;
            complete = g.complete;
          })
      go false _ true e z _ (r_gap g) =
          r_gap
          (record {
            start = _;
            stop = _;
            end = _;
            before = run_end;
            items = comma empty run_end (stands 44 h e) g.before g.items;
            after = g.after;
            complete = g.complete;
          })
      go false _ false _ true e (r_target t k a) = r_gap (ended (link (stands 60 h e) t k a.params) a.ends)
      go false _ false _ false e x12 = elim x12 [ ]

  target_bwd : (ls : List Link) (a : ℕ) {i : ℕ} {R : List Link} → i < length s
      → Rest extra s (step extra (target ls a) i (get_or s i 0)) (suc i) R → Rest extra s (target ls a) i R
  target_bwd ls a {i} h = go (is_target c) refl (eqb c 37) refl (eqb c 62) refl
    where
      c : ℕ
      c = get_or s i 0

      go : {R : List Link} (x : Bool) → is_target c ≡ x → (y : Bool) → eqb c 37 ≡ y → (z : Bool) → eqb c 62 ≡ z
          → Rest extra s (cond x (target ls a) (cond y (percent ls a) (cond z (after (opened ls a i)) dead))) (suc i) R
          → Rest extra s (target ls a) i R
      go true e y _ z _ (r_target t k r) = r_target (octet (found h e) t) k r
      go false _ true e z _ (r_percent x y t k r) = r_target (triple (stands 37 h e) x y t) k r
      go false _ false _ true e (r_after r) = r_target target_end (stands 62 h e) r
      go false _ false _ false e x12 = elim x12 [ ]

  semi_bwd : (o : Open) {i : ℕ} {R : List Link} → i < length s
      → Rest extra s (step extra (semi o) i (get_or s i 0)) (suc i) R → Rest extra s (semi o) i R
  semi_bwd o {i} h = go (is_blank c) refl (is_token c) refl
    where
      c : ℕ
      c = get_or s i 0

      begun : {e j : ℕ} {p : Param} → In s is_token i → Run s is_token (suc i) e → NameRest extra s i e e j p
          → Parameter extra s i j p
      begun t r (no_value bl) = valueless (record { first = t; rest = r }) bl
      begun t r (a_value bl q cl v) = valued (record { first = t; rest = r }) bl q cl v

      go : {R : List Link} (x : Bool) → is_blank c ≡ x → (y : Bool) → is_token c ≡ y
          → Rest extra s (cond x (semi o) (cond y (name o i) dead)) (suc i) R → Rest extra s (semi o) i R
      go true e y _ (r_semi bl p a) = r_semi (run_more (found h e) bl) p a
      go false _ true e (r_name r nr a) = r_semi run_end (begun (found h e) r nr) a
      go false _ false e x7 = elim x7 [ ]

  equals_bwd : (o : Open) (n e : ℕ) {i : ℕ} {R : List Link} → i < length s
      → Rest extra s (step extra (equals o n e) i (get_or s i 0)) (suc i) R → Rest extra s (equals o n e) i R
  equals_bwd o n e {i} h = go (is_blank c) refl (eqb c 34) refl (is_token c) refl (extra c) refl
    where
      c : ℕ
      c = get_or s i 0

      begun : {j f : ℕ} → In s is_token i → BareRest extra s (suc i) j f → Value extra s i j i j f
      begun t (all_token r) = token (record { first = t; rest = r })
      begun t (turns_wide r x w) = wider (from_token (run_more t r) x w)

      go : {R : List Link} (x : Bool) → is_blank c ≡ x → (y : Bool) → eqb c 34 ≡ y → (z : Bool) → is_token c ≡ z
          → (w : Bool) → extra c ≡ w
          → Rest extra s
          (cond x (equals o n e) (cond y (quote o n e (suc i)) (cond z (bare o n e i) (cond w (wide o n e i) dead))))
          (suc i) R
          → Rest extra s (equals o n e) i R
      go true q y _ z _ w _ (r_equals bl v a) = r_equals (run_more (found h q) bl) v a
      go false _ true q z _ w _ (r_quote t k a) = r_equals run_end (quoted (stands 34 h q) t k) a
      go false _ false _ true q w _ (r_bare t a) = r_equals run_end (begun (found h q) t) a
      go false _ false _ false _ true q (r_wide t a) = r_equals run_end (wider (from_token run_end (found h q) t)) a
      go false _ false _ false _ false q x18 = elim x18 [ ]

  bare_bwd : (o : Open) (n e v : ℕ) {i : ℕ} {R : List Link} → i < length s
      → Rest extra s (step extra (bare o n e v) i (get_or s i 0)) (suc i) R → Rest extra s (bare o n e v) i R
  bare_bwd o n e v {i} h = go (is_token c) refl (extra c) refl
    where
      c : ℕ
      c = get_or s i 0

      longer : {j f : ℕ} → In s is_token i → BareRest extra s (suc i) j f → BareRest extra s i j f
      longer t (all_token r) = all_token (run_more t r)
      longer t (turns_wide r x w) = turns_wide (run_more t r) x w

      ended : {R : List Link} → Rest extra s (after (add (param n e v i 1) o)) i R → Rest extra s (bare o n e v) i R
      ended (r_after a) = r_bare (all_token run_end) a

      go : {R : List Link} (x : Bool) → is_token c ≡ x → (y : Bool) → extra c ≡ y
          → Rest extra s (cond x (bare o n e v) (cond y (wide o n e v) (next (add (param n e v i 1) o) c))) (suc i) R
          → Rest extra s (bare o n e v) i R
      go true q y _ (r_bare t a) = r_bare (longer (found h q) t) a
      go false _ true q (r_wide t a) = r_bare (turns_wide run_end (found h q) t) a
      go false _ false _ r = ended (next_bwd (add (param n e v i 1) o) h r)

  wide_bwd : (o : Open) (n e v : ℕ) {i : ℕ} {R : List Link} → i < length s
      → Rest extra s (step extra (wide o n e v) i (get_or s i 0)) (suc i) R → Rest extra s (wide o n e v) i R
  wide_bwd o n e v {i} h = go (is_bare extra c) refl
    where
      c : ℕ
      c = get_or s i 0

      ended : {R : List Link} → Rest extra s (after (add (param n e v i 3) o)) i R → Rest extra s (wide o n e v) i R
      ended (r_after a) = r_wide run_end a

      go : {R : List Link} (x : Bool) → is_bare extra c ≡ x
          → Rest extra s (cond x (wide o n e v) (next (add (param n e v i 3) o) c)) (suc i) R
          → Rest extra s (wide o n e v) i R
      go true q (r_wide t a) = r_wide (run_more (found h q) t) a
      go false _ r = ended (next_bwd (add (param n e v i 3) o) h r)

  quote_bwd : (o : Open) (n e v : ℕ) {i : ℕ} {R : List Link} → i < length s
      → Rest extra s (step extra (quote o n e v) i (get_or s i 0)) (suc i) R → Rest extra s (quote o n e v) i R
  quote_bwd o n e v {i} h = go (eqb c 34) refl (eqb c 92) refl (is_plain c) refl
    where
      c : ℕ
      c = get_or s i 0

      go : {R : List Link} (x : Bool) → eqb c 34 ≡ x → (y : Bool) → eqb c 92 ≡ y → (z : Bool) → is_plain c ≡ z
          → Rest extra s
          (cond x (after (add (param n e v i 2) o)) (cond y (escape o n e v) (cond z (quote o n e v) dead))) (suc i) R
          → Rest extra s (quote o n e v) i R
      go true q y _ z _ (r_after a) = r_quote inside_end (stands 34 h q) a
      go false _ true q z _ (r_escape x t k a) = r_quote (pair (stands 92 h q) x t) k a
      go false _ false _ true q (r_quote t k a) = r_quote (plain (found h q) t) k a
      go false _ false _ false q x12 = elim x12 [ ]

  percent_bwd : (ls : List Link) (a : ℕ) {i : ℕ} {R : List Link} (x : Bool) → i < length s → is_hex (get_or s i 0) ≡ x
      → Rest extra s (cond x (hex ls a) dead) (suc i) R → Rest extra s (percent ls a) i R
  percent_bwd ls a true h q (r_hex y t k r) = r_percent (found h q) y t k r
  percent_bwd ls a {i = i} {R = R} false h q x4 = elim x4 [ ]

  hex_bwd : (ls : List Link) (a : ℕ) {i : ℕ} {R : List Link} (x : Bool) → i < length s → is_hex (get_or s i 0) ≡ x
      → Rest extra s (cond x (target ls a) dead) (suc i) R → Rest extra s (hex ls a) i R
  hex_bwd ls a true h q (r_target t k r) = r_hex (found h q) t k r
  hex_bwd ls a {i = i} {R = R} false h q x4 = elim x4 [ ]

  name_more : (o : Open) (n : ℕ) {i : ℕ} {R : List Link} (x : Bool) → i < length s → is_token (get_or s i 0) ≡ x
      → Rest extra s (cond x (name o n) (name_end o n i (get_or s i 0))) (suc i) R → Rest extra s (name o n) i R
  name_more o n true h q (r_name r nr a) = r_name (run_more (found h q) r) nr a
  name_more o n {i} false h q r = ended (name_bwd o n i h r)
    where
      ended : {R : List Link} → Rest extra s (named o n i) i R → Rest extra s (name o n) i R
      ended (r_named nr a) = r_name run_end nr a

  escape_bwd : (o : Open) (n e v : ℕ) {i : ℕ} {R : List Link} (x : Bool) → i < length s → is_escapable (get_or s i 0) ≡ x
      → Rest extra s (cond x (quote o n e v) dead) (suc i) R → Rest extra s (escape o n e v) i R
  escape_bwd o n e v true h q (r_quote t k a) = r_escape (found h q) t k a
  escape_bwd o n e v {i = i} {R = R} false h q x4 = elim x4 [ ]

  pub backward : (st : State) {i : ℕ} {R : List Link} → i < length s
      → Rest extra s (step extra st i (get_or s i 0)) (suc i) R → Rest extra s st i R
  backward (gap ls) h r = gap_bwd ls h r
  backward (target ls a) h r = target_bwd ls a h r
  backward (percent ls a) h r = percent_bwd ls a _ h refl r
  backward (hex ls a) h r = hex_bwd ls a _ h refl r
  backward (after o) h r = next_bwd o h r
  backward (semi o) h r = semi_bwd o h r
  backward (name o n) h r = name_more o n _ h refl r
  backward (named o n e) h r = name_bwd o n e h r
  backward (equals o n e) h r = equals_bwd o n e h r
  backward (bare o n e v) h r = bare_bwd o n e v h r
  backward (wide o n e v) h r = wide_bwd o n e v h r
  backward (quote o n e v) h r = quote_bwd o n e v h r
  backward (escape o n e v) h r = escape_bwd o n e v _ h refl r
  backward dead {i = i} {R = R} h r = elim r [ ]
