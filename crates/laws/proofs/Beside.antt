-- A header that isn't derived, a comma and a derivable one make one that isn't. The machine that has read the first stands, if
-- it lives, in an unfinished target or quoted string. Run beside the one that reads the derivable header from its start, it is inside
-- quotes where that one is outside, and the other way round, so that it never stands where a header may end.
use Prim.Native.Nat.{ℕ, suc, ◌+◌}
use native.Mathlib.Omega.{arith}
use mathlib.Core.Path.{◌≡◌, refl, sym, ap, subst, ◌∙◌}
use mathlib.Core.Bool.{Bool, true, false, cond, ◌||◌, false≢true}
use mathlib.Core.List.{List, [], ◌∷◌, ◌++◌}
use mathlib.Core.Option.{none, some}
use lib.Dec.{eqb}
use lib.ListN.{length}
use borrow.Author.Tests.{eqb-true}
use Rattle.octets.specs.Sets.{is_blank, is_token, is_plain, is_escapable, is_target, is_hex}
use Rattle.grammar.specs.Link.{Link}
use Rattle.grammar.specs.Grammar.{Extra, Admissible, Field}
use Rattle.grammar.specs.Machine.{
  State,
  gap,
  target,
  percent,
  hex,
  after,
  semi,
  name,
  named,
  equals,
  bare,
  wide,
  quote,
  escape,
  dead,
  step,
  run,
  settle,
}
use Rattle.grammar.specs.Machine.{Open, next, name_end, add, flag, param}
use Rattle.grammar.proofs.Prefix.{run_append}
use Rattle.grammar.proofs.TargetsHeld.{never}
use Rattle.grammar.proofs.Closing.{settled}

-- outside a quoted string, or dead
abbrev is_out : State → Bool
is_out (gap ls) = true
is_out (target ls a) = true
is_out (percent ls a) = true
is_out (hex ls a) = true
is_out (after o) = true
is_out (semi o) = true
is_out (name o n) = true
is_out (named o n e) = true
is_out (equals o n e) = true
is_out (bare o n e v) = true
is_out (wide o n e v) = true
is_out (quote o n e v) = false
is_out (escape o n e v) = false
is_out dead = true

-- what holds of both is held by the choice
either : (f : State → Bool) (b : Bool) {x y : State} → f x ≡ true → f y ≡ true → f (cond b x y) ≡ true
either f true p q = p
either f false p q = q

-- inside a quoted string and not behind a backslash, or dead
data Inner : State → Type 0 where
  in_quote : {o : Open} {n e v : ℕ} → Inner (quote o n e v)
  in_dead : Inner dead

-- in a target, or dead
pub data Targeted : State → Type 0 where
  in_target_lem : {ls : List Link} {a : ℕ} → Targeted (target ls a)
  no_target : Targeted dead

out_next : (o : Open) (c : ℕ) → is_out (next o c) ≡ true
out_next o c = either is_out (is_blank c) refl (either is_out (eqb c 59) refl (either is_out (eqb c 44) refl refl))

out_name : (o : Open) (n e c : ℕ) → is_out (name_end o n e c) ≡ true
out_name o n e c = either is_out (is_blank c) refl (either is_out (eqb c 61) refl (out_next (add (flag n e) o) c))

-- The machine x reads a header from its start, and y goes on behind an underived one. While x has read no link, y waits in a target that
-- nothing closes.
pub data Waiting (x y : State) : Type 0 where
  waits : {ls : List Link} → x ≡ gap ls → Targeted y → Waiting x y
  over : y ≡ dead → Waiting x y
  lost : x ≡ dead → Waiting x y

data Beside (x y : State) : Type 0 where
  inner : is_out x ≡ true → Inner y → Beside x y
  outer : Inner x → is_out y ≡ true → Beside x y
  waiting : Waiting x y → Beside x y

-- in an edition in which no backslash stands in a bare value
module _ (extra : Extra) (apart : Admissible extra) (back : extra 92 ≡ false) where
  -- a quote leads into a string, or kills; a backslash kills; all else leads outside
  out_quote : (st : State) (i : ℕ) → is_out st ≡ true → Inner (step extra st i 34)
  unfolding is_blank is_token is_target is_hex
  out_quote (gap ls) i e = in_dead
  out_quote (target ls a) i e = in_dead
  out_quote (percent ls a) i e = in_dead
  out_quote (hex ls a) i e = in_dead
  out_quote (after o) i e = in_dead
  out_quote (semi o) i e = in_dead
  out_quote (name o n) i e = in_dead
  out_quote (named o n k) i e = in_dead
  out_quote (equals o n k) i e = in_quote
  out_quote (bare o n k v) i e = rw apart.quote in_dead
  out_quote (wide o n k v) i e = rw apart.quote in_dead
  out_quote (quote o n k v) i e = absurd (false≢true e)
  out_quote (escape o n k v) i e = absurd (false≢true e)
  out_quote dead i e = in_dead

  out_backslash : (st : State) (i : ℕ) → is_out st ≡ true → step extra st i 92 ≡ dead
  unfolding is_blank is_token is_target is_hex
  out_backslash (gap ls) i e = refl
  out_backslash (target ls a) i e = refl
  out_backslash (percent ls a) i e = refl
  out_backslash (hex ls a) i e = refl
  out_backslash (after o) i e = refl
  out_backslash (semi o) i e = refl
  out_backslash (name o n) i e = refl
  out_backslash (named o n k) i e = refl
  out_backslash (equals o n k) i e = rw back refl
  out_backslash (bare o n k v) i e = rw back refl
  out_backslash (wide o n k v) i e = rw back refl
  out_backslash (quote o n k v) i e = absurd (false≢true e)
  out_backslash (escape o n k v) i e = absurd (false≢true e)
  out_backslash dead i e = refl

  out_step : (st : State) (i c : ℕ) → eqb c 34 ≡ false → is_out st ≡ true → is_out (step extra st i c) ≡ true
  out_step (gap ls) i c h e =
      either is_out (is_blank c) refl (either is_out (eqb c 44) refl (either is_out (eqb c 60) refl refl))
  out_step (target ls a) i c h e =
      either is_out (is_target c) refl (either is_out (eqb c 37) refl (either is_out (eqb c 62) refl refl))
  out_step (percent ls a) i c h e = either is_out (is_hex c) refl refl
  out_step (hex ls a) i c h e = either is_out (is_hex c) refl refl
  out_step (after o) i c h e = out_next o c
  out_step (semi o) i c h e = either is_out (is_blank c) refl (either is_out (is_token c) refl refl)
  out_step (name o n) i c h e = either is_out (is_token c) refl (out_name o n i c)
  out_step (named o n k) i c h e = out_name o n k c
  out_step (equals o n k) i c h e =
      rw h (either is_out (is_blank c) refl (either is_out (is_token c) refl (either is_out (extra c) refl refl)))
  out_step (bare o n k v) i c h e =
      either is_out (is_token c) refl (either is_out (extra c) refl (out_next (add (param n k v i 1) o) c))
  out_step (wide o n k v) i c h e = either is_out (is_token c || extra c) refl (out_next (add (param n k v i 3) o) c)
  out_step (quote o n k v) i c h e = absurd (false≢true e)
  out_step (escape o n k v) i c h e = absurd (false≢true e)
  out_step dead i c h e = refl

  -- inside, a quote leads outside, and all else but a backslash stays inside
  in_close : {st : State} → Inner st → (i : ℕ) → is_out (step extra st i 34) ≡ true
  in_close in_quote i = refl
  in_close in_dead i = refl

  in_step : {st : State} → Inner st → (i c : ℕ) → eqb c 34 ≡ false → eqb c 92 ≡ false → Inner (step extra st i c)
  in_step (in_quote {o} {n} {e} {v}) i c q b = rw (q, b) (go (is_plain c))
    where
      go : (p : Bool) → Inner (cond p (quote o n e v) dead)
      go true = in_quote
      go false = in_dead
  in_step in_dead i c q b = in_dead

  -- before its first link a header has blanks, which stand in no target, commas, which do, and then a `<`, which doesn't
  waits_step : (ls : List Link) {y : State} → Targeted y → (i j c : ℕ) → Waiting (step extra (gap ls) i c) (step extra y j c)
  unfolding is_blank is_target
  waits_step ls no_target i j c = over refl
  waits_step ls (in_target_lem {ls = ms} {a = a}) i j c = go (eqb c 32) refl (eqb c 9) refl (eqb c 44) refl (eqb c 60) refl
    where
      B : ℕ → Type 0
      B d = Waiting (step extra (gap ls) i d) (step extra (target ms a) j d)

      go : (p : Bool) → eqb c 32 ≡ p → (q : Bool) → eqb c 9 ≡ q → (r : Bool) → eqb c 44 ≡ r → (s : Bool) → eqb c 60 ≡ s → B c
      go true e q f r g s h = subst B (sym (eqb-true c 32 e)) (over refl)
      go false e true f r g s h = subst B (sym (eqb-true c 9 f)) (over refl)
      go false e false f true g s h = subst B (sym (eqb-true c 44 g)) (waits refl in_target_lem)
      go false e false f false g true h = subst B (sym (eqb-true c 60 h)) (over refl)
      go false e false f false g false h = lost (rw (e, f, g, h) refl)

  waiting_step : {x y : State} → Waiting x y → (i j c : ℕ) → Waiting (step extra x i c) (step extra y j c)
  waiting_step {x} {y} (waits {ls} e t) i j c =
      subst (λ (z : State). Waiting (step extra z i c) (step extra y j c)) (sym e) (waits_step ls t i j c)
  waiting_step {x} {y} (over e) i j c = over (ap (λ (z : State). step extra z j c) e)
  waiting_step {x} {y} (lost e) i j c = lost (ap (λ (z : State). step extra z i c) e)

  pub waiting_run : (t : List ℕ) {x y : State} → Waiting x y → (i j : ℕ) → Waiting (run extra x i t) (run extra y j t)
  waiting_run [] b i j = b
  waiting_run (c ∷ t) b i j = waiting_run t (waiting_step b i j c) (suc i) (suc j)

  beside_step : {x y : State} → Beside x y → (i j c : ℕ) → Beside (step extra x i c) (step extra y j c)
  beside_step {x} {y} (inner p q) i j c = go (eqb c 34) refl (eqb c 92) refl
    where
      go : (a : Bool) → eqb c 34 ≡ a → (b : Bool) → eqb c 92 ≡ b → Beside (step extra x i c) (step extra y j c)
      go true e b f = rw (eqb-true c 34 e) (outer (out_quote x i p) (in_close q j))
      go false e true f = rw (eqb-true c 92 f) (waiting (lost (out_backslash x i p)))
      go false e false f = inner (out_step x i c e p) (in_step q j c e f)
  beside_step {x} {y} (outer p q) i j c = go (eqb c 34) refl (eqb c 92) refl
    where
      go : (a : Bool) → eqb c 34 ≡ a → (b : Bool) → eqb c 92 ≡ b → Beside (step extra x i c) (step extra y j c)
      go true e b f = rw (eqb-true c 34 e) (inner (in_close p i) (out_quote y j q))
      go false e true f = rw (eqb-true c 92 f) (waiting (over (out_backslash y j q)))
      go false e false f = outer (in_step p i c e f) (out_step y j c e q)
  beside_step (waiting w) i j c = waiting (waiting_step w i j c)

  beside_run : (t : List ℕ) {x y : State} → Beside x y → (i j : ℕ) → Beside (run extra x i t) (run extra y j t)
  beside_run [] b i j = b
  beside_run (c ∷ t) b i j = beside_run t (beside_step b i j c) (suc i) (suc j)

  inner_unsettled : {st : State} → Inner st → (i : ℕ) → settle st i ≡ none
  inner_unsettled in_quote i = refl
  inner_unsettled in_dead i = refl

  -- where a header may end for x, it may not for y
  beside_end : {x y : State} → Beside x y → (i j : ℕ) (ls : List Link) → settle x i ≡ some ls → settle y j ≡ none
  beside_end (inner p q) i j ls s = inner_unsettled q j
  beside_end (outer p q) i j ls s = never (sym (inner_unsettled p i) ∙ s)
  beside_end (waiting (waits e in_target_lem)) i j ls s = refl
  beside_end (waiting (waits e no_target)) i j ls s = refl
  beside_end (waiting (over e)) i j ls s = ap (λ (z : State). settle z j) e
  beside_end (waiting (lost e)) i j ls s = never (sym (ap (λ (z : State). settle z i) e) ∙ s)

  -- where a header may not end, a comma leads into a target or a string, or kills
  comma_beside : (st : State) (i : ℕ) → settle st i ≡ none → Beside (gap []) (step extra st i 44)
  unfolding is_blank is_token is_plain is_escapable is_target is_hex
  comma_beside (gap ls) i e = never (sym e)
  comma_beside (target ls a) i e = waiting (waits refl in_target_lem)
  comma_beside (percent ls a) i e = waiting (over refl)
  comma_beside (hex ls a) i e = waiting (over refl)
  comma_beside (after o) i e = never (sym e)
  comma_beside (semi o) i e = waiting (over refl)
  comma_beside (name o n) i e = never (sym e)
  comma_beside (named o n k) i e = never (sym e)
  comma_beside (equals o n k) i e = rw apart.comma (waiting (over refl))
  comma_beside (bare o n k v) i e = never (sym e)
  comma_beside (wide o n k v) i e = never (sym e)
  comma_beside (quote o n k v) i e = inner refl in_quote
  comma_beside (escape o n k v) i e = inner refl in_quote
  comma_beside dead i e = waiting (over refl)

  -- a header that isn't derived, a comma and a derived one make one that isn't
  pub underived_first : (s t : List ℕ) {R : List Link} → settle (run extra (gap []) 0 s) (length s) ≡ none → Field extra t R
      → (Q : List Link) → Field extra (s ++ 44 ∷ t) Q → ⊥
  underived_first s t e f Q g =
      let n = length s in
      let (ls, q, _) = settled extra apart t f in
      let st = run extra (gap []) 0 s in
      let u : settle st (0 + n) ≡ none = subst (λ (k : ℕ). settle st k ≡ none) (omega arith) e in
      let b = beside_run t (comma_beside st (0 + n) u) 0 (suc (0 + n)) in
      let (ms, r, _) = settled extra apart (s ++ 44 ∷ t) g in
      never
      (sym (beside_end b (length t) (length (s ++ 44 ∷ t)) ls q)
      ∙ ap (λ (x : State). settle x (length (s ++ 44 ∷ t))) (sym (run_append extra s (44 ∷ t) (gap []) 0))
      ∙ r)
