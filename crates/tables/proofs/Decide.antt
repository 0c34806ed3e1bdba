-- Whether a table is good is decided, clause by clause.
use Prim.Native.Nat.{ℕ, zero, suc, ◌+◌, ◌≤◌, ◌<◌}
use native.Mathlib.Omega.{arith}
use native.Mathlib.Decide.{map_dec, dec_le, dec_lt, ℕ_discrete}
use native.Mathlib.Nat.{eq-or-lt_of_le}
use mathlib.Core.Path.{◌≡◌, refl, sym, subst}
use mathlib.Core.Bool.{Bool, true, Bool-discrete}
use mathlib.Core.Logic.Dec
use mathlib.Core.Logic.{◌⊎◌, inl, inr, ⊎_elim}
use mathlib.Core.List.{List, [], ◌∷◌}
use lib.ListN.{length, get_or}
use Rattle.octets.specs.Sets.{is_token, is_plain, is_escapable, is_target, is_hex}
use Rattle.grammar.specs.Link.{Link, Param}
use Rattle.grammar.proofs.Places.{judged}
use Rattle.grammar.specs.Grammar.{At, In, Run, run_end, run_more, Token, Inside, inside_end, plain, pair}
use Rattle.grammar.specs.Grammar.{Target, target_end, octet, triple, Extra, is_bare, Wider, from_token}
use Rattle.grammar.specs.Kept.{name_of, code_of}
use Rattle.grammar.specs.Records.{link_room_of, param_room_of}
use Rattle.tables.specs.Table.{param_at, code_at, first_of, count_of, links_of}
use Rattle.tables.specs.Good.{Each, each_none, each_more, Follows, once_each, InText, GoodValue, no_value, token_value}
use Rattle.tables.specs.Good.{quoted_value, wider_value, GoodParam, GoodLink}
use Rattle.tables.specs.Laws.{GoodDecided}

either : {A B : Type 0} → Dec A → Dec B → Dec (A ⊎ B)
either (yes a) b = yes (inl a)
either (no n) (yes b) = yes (inr b)
either (no n) (no m) = no (⊎_elim n m)

module _ (s : List ℕ) where
  in? : (f : ℕ → Bool) (i : ℕ) → Dec (In s f i)
  in? f i =
      map_dec (λ p. record { inside = p.0; is = p.1 }) (λ r. (r.inside, r.is))
      (Dec.and (dec_lt i (length s)) (Bool-discrete (f (get_or s i 0)) true))

  at? : (c i : ℕ) → Dec (At s i c)
  at? c i =
      map_dec (λ p. record { inside = p.0; is = p.1 }) (λ r. (r.inside, r.is))
      (Dec.and (dec_lt i (length s)) (ℕ_discrete (get_or s i 0) c))

  span? : (a e : ℕ) → Dec (InText s a e)
  span? a e =
      map_dec (λ p. record { ordered = p.0; inside = p.1 }) (λ r. (r.ordered, r.inside))
      (Dec.and (dec_le a e) (dec_le e (length s)))

  -- how a derivation X begins: with nothing, with an octet of f, or with B, behind which it goes on at `later`
  abbrev Begun : (ℕ → Bool) → (ℕ → Type 0) → (ℕ → ℕ) → (ℕ → ℕ → Type 0) → ℕ → ℕ → Type 0
  Begun f B later X i j = (i ≡ j) ⊎ (In s f i × X (suc i) j) ⊎ (B i × X (later i) j)

  -- X is just what so begins
  record Steps (f : ℕ → Bool) (B : ℕ → Type 0) (later : ℕ → ℕ) (X : ℕ → ℕ → Type 0) : Type 0 where
    none : {i : ℕ} → X i i
    next : {i j : ℕ} → In s f i → X (suc i) j → X i j
    jump : {i j : ℕ} → B i → X (later i) j → X i j
    begun : {i j : ℕ} → X i j → Begun f B later X i j
    jumps? : (i : ℕ) → Dec (B i)
    stands : {i : ℕ} → B i → i < length s
    onward : (i : ℕ) → i < later i

  module _ {f : ℕ → Bool} {B : ℕ → Type 0} {later : ℕ → ℕ} {X : ℕ → ℕ → Type 0} (st : Steps f B later X) where
    made : {i j : ℕ} → Begun f B later X i j → X i j
    made {i} (inl e) = subst (X i) e st.none
    made (inr (inl p)) = st.next p.0 p.1
    made (inr (inr p)) = st.jump p.0 p.1

    -- by what is left of the text, at most n octets
    derives? : (n i j : ℕ) → length s ≤ i + n → Dec (X i j)
    derives? zero i j h = map_dec (λ e. made (inl e)) (λ x. ends (st.begun x)) (ℕ_discrete i j)
      where
        ends : Begun f B later X i j → i ≡ j
        ends (inl e) = e
        ends (inr (inl p)) = absurd (omega (arith, p.0.inside))
        ends (inr (inr p)) = absurd (omega (arith, st.stands p.0))
    derives? (suc n) i j h =
        map_dec made st.begun
        (either (ℕ_discrete i j)
        (either (Dec.and (in? f i) (derives? n (suc i) j (omega arith)))
        (Dec.and (st.jumps? i) (derives? n (later i) j (omega (arith, st.onward i))))))

    derived? : (i j : ℕ) → Dec (X i j)
    derived? i j = derives? (length s) i j (omega arith)

  run? : (f : ℕ → Bool) (i j : ℕ) → Dec (Run s f i j)
  run? f = derived? steps
    where
      begun : {i j : ℕ} → Run s f i j → Begun f (λ i. ⊥) suc (Run s f) i j
      begun run_end = inl refl
      begun (run_more a r) = inr (inl (a, r))

      steps : Steps f (λ i. ⊥) suc (Run s f)
      steps =
          record {
            none = run_end;
            next = run_more;
            jump = λ b r. absurd b;
            begun = begun;
            jumps? = λ i. no (λ b. b);
            stands = λ b. absurd b;
            onward = λ i. omega arith;
          }

  token? : (i j : ℕ) → Dec (Token s i j)
  token? i j =
      map_dec (λ p. record { first = p.0; rest = p.1 }) (λ r. (r.first, r.rest))
      (Dec.and (in? is_token i) (run? is_token (suc i) j))

  inside? : (i j : ℕ) → Dec (Inside s i j)
  inside? = derived? steps
    where
      Pair : ℕ → Type 0
      Pair i = At s i 92 × In s is_escapable (suc i)

      begun : {i j : ℕ} → Inside s i j → Begun is_plain Pair (λ i. suc (suc i)) (Inside s) i j
      begun inside_end = inl refl
      begun (plain a r) = inr (inl (a, r))
      begun (pair a b r) = inr (inr ((a, b), r))

      steps : Steps is_plain Pair (λ i. suc (suc i)) (Inside s)
      steps =
          record {
            none = inside_end;
            next = plain;
            jump = λ b r. pair b.0 b.1 r;
            begun = begun;
            jumps? = λ i. Dec.and (at? 92 i) (in? is_escapable (suc i));
            stands = λ b. b.0.inside;
            onward = λ i. omega arith;
          }

  target? : (i j : ℕ) → Dec (Target s i j)
  target? = derived? steps
    where
      Triple : ℕ → Type 0
      Triple i = At s i 37 × (In s is_hex (suc i) × In s is_hex (suc (suc i)))

      begun : {i j : ℕ} → Target s i j → Begun is_target Triple (λ i. suc (suc (suc i))) (Target s) i j
      begun target_end = inl refl
      begun (octet a r) = inr (inl (a, r))
      begun (triple a b c r) = inr (inr ((a, (b, c)), r))

      steps : Steps is_target Triple (λ i. suc (suc (suc i))) (Target s)
      steps =
          record {
            none = target_end;
            next = octet;
            jump = λ b r. triple b.0 b.1.0 b.1.1 r;
            begun = begun;
            jumps? = λ i. Dec.and (at? 37 i) (Dec.and (in? is_hex (suc i)) (in? is_hex (suc (suc i))));
            stands = λ b. b.0.inside;
            onward = λ i. omega arith;
          }

module _ (extra : Extra) (s : List ℕ) where
  -- by what is left of the text, at most n octets
  wider? : (n i j : ℕ) → length s ≤ i + n → Dec (Wider extra s i j)
  wider? zero i j h = no ends
    where
      ends : Wider extra s i j → ⊥
      ends (from_token run_end x r) = omega (arith, x.inside)
      ends (from_token (run_more c t) x r) = omega (arith, c.inside)
  wider? (suc n) i j h =
      map_dec made split
      (either (Dec.and (in? s extra i) (run? s (is_bare extra) (suc i) j))
      (Dec.and (in? s is_token i) (wider? n (suc i) j (omega arith))))
    where
      Cases : Type 0
      Cases = (In s extra i × Run s (is_bare extra) (suc i) j) ⊎ (In s is_token i × Wider extra s (suc i) j)

      made : Cases → Wider extra s i j
      made (inl c) = from_token run_end c.0 c.1
      made (inr (c, from_token t x r)) = from_token (run_more c t) x r

      split : Wider extra s i j → Cases
      split (from_token run_end x r) = inl (x, r)
      split (from_token (run_more c t) x r) = inr (c, from_token t x r)

  value? : (p : Param) → Dec (GoodValue extra s p)
  value? p =
      map_dec made split
      (either (Dec.and (is 0) (Dec.and (ℕ_discrete p.value_from p.name_to) (ℕ_discrete p.value_to p.name_to)))
      (either (Dec.and (is 1) (token? s p.value_from p.value_to))
      (either (Dec.and (is 2) (inside? s p.value_from p.value_to))
      (Dec.and (is 3) (wider? (length s) p.value_from p.value_to (omega arith))))))
    where
      is : (n : ℕ) → Dec (p.form ≡ n)
      is = ℕ_discrete p.form

      Cases : Type 0
      Cases =
          ((p.form ≡ 0) × ((p.value_from ≡ p.name_to) × (p.value_to ≡ p.name_to)))
          ⊎ ((p.form ≡ 1) × Token s p.value_from p.value_to) ⊎ ((p.form ≡ 2) × Inside s p.value_from p.value_to)
          ⊎ ((p.form ≡ 3) × Wider extra s p.value_from p.value_to)

      made : Cases → GoodValue extra s p
      made (inl c) = no_value c.0 c.1.0 c.1.1
      made (inr (inl c)) = token_value c.0 c.1
      made (inr (inr (inl c))) = quoted_value c.0 c.1
      made (inr (inr (inr c))) = wider_value c.0 c.1

      split : GoodValue extra s p → Cases
      split (no_value f a b) = inl (f, (a, b))
      split (token_value f v) = inr (inl (f, v))
      split (quoted_value f v) = inr (inr (inl (f, v)))
      split (wider_value f v) = inr (inr (inr (f, v)))

  param? : (p : Param) → Dec (GoodParam extra s p)
  param? p =
      map_dec (λ q. record { name_span = q.0; value_span = q.1.0; name = q.1.1.0; value = q.1.1.1 })
      (λ g. (g.name_span, (g.value_span, (g.name, g.value))))
      (Dec.and (span? s p.name_from p.name_to)
      (Dec.and (span? s p.value_from p.value_to) (Dec.and (token? s p.name_from p.name_to) (value? p))))

each? : {A : Type 0} {P : A → Type 0} → ((x : A) → Dec (P x)) → (xs : List A) → Dec (Each P xs)
each? d [] = yes each_none
each? {A} {P} d (x ∷ xs) = map_dec (λ p. each_more p.0 p.1) split (Dec.and (d x) (each? d xs))
  where
    split : Each P (x ∷ xs) → P x × Each P xs
    split (each_more p ps) = (p, ps)

link? : (extra : Extra) (s : List ℕ) (l : Link) → Dec (GoodLink extra s l)
link? extra s l =
    map_dec
    (λ q. record { target_span = q.0; target = q.1.0; reference = q.1.1.0; params = q.1.1.1.0; once = q.1.1.1.1 })
    (λ g. (g.target_span, (g.target, (g.reference, (g.params, g.once)))))
    (Dec.and (span? s l.target_from l.target_to)
    (Dec.and (target? s l.target_from l.target_to)
    (Dec.and (⊎_elim (λ y. yes y) (λ n. no n) (judged s l.target_from l.target_to))
    (Dec.and (each? (param? extra s) l.params) (Bool-discrete (once_each s [] l.params) true)))))

follows? : (L : List ℕ) (i n at m : ℕ) → Dec (Follows L i n at m)
follows? L i zero at m = ℕ_discrete at m
follows? L i (suc n) at m = Dec.and (ℕ_discrete (first_of L i) at) (follows? L (suc i) n (at + count_of L i) m)

-- what is asked below n
below? : {P : ℕ → Type 0} → ((j : ℕ) → Dec (P j)) → (n : ℕ) → Dec ((j : ℕ) → j < n → P j)
below? d zero = yes (λ j l. absurd (omega arith))
below? {P} d (suc n) = map_dec (λ p. joined p.0 p.1) (λ h. (λ j l. h j (omega arith), h n (omega arith))) (Dec.and (below? d n) (d n))
  where
    joined : ((j : ℕ) → j < n → P j) → P n → (j : ℕ) → j < suc n → P j
    joined h p j l = ⊎_elim (λ e. subst P (sym e) p) (h j) (eq-or-lt_of_le {n = j} {m = n} (omega arith))

pub good_decided : GoodDecided
good_decided extra t =
    map_dec
    (λ q. record { link_room = q.0; param_room = q.1.0; follows = q.1.1.0; links = q.1.1.1.0; codes = q.1.1.1.1 })
    (λ g. (g.link_room, (g.param_room, (g.follows, (g.links, g.codes)))))
    (Dec.and (dec_le t.link_count (link_room_of t.link_slots))
    (Dec.and (dec_le t.param_count (param_room_of t.param_slots))
    (Dec.and (follows? t.link_slots 0 t.link_count 0 t.param_count)
    (Dec.and (each? (link? extra t.text) (links_of t))
    (below? (λ j. ℕ_discrete (code_at t.param_slots (0 + j)) (code_of (name_of t.text (param_at t.param_slots (0 + j))))) t.param_count)))))
