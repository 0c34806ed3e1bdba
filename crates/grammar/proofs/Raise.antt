-- Places raised, and finished links put in front: the machine goes on as it would have gone from the start.
use Prim.Native.Nat.{ℕ, zero, suc, ◌+◌}
use native.Mathlib.Omega.{arith}
use native.Mathlib.Nat.{add-suc, add-zero}
use mathlib.Core.Path.{◌≡◌, refl, sym, ap, ◌∙◌}
use mathlib.Core.Bool.{Bool, true, false, cond}
use mathlib.Core.List.{List, [], ◌∷◌, ◌++◌, map, reverse, reverse_aux}
use mathlib.Core.Option.{Option, none, some}
use lib.Dec.{eqb}
use Rattle.octets.specs.Sets.{is_blank, is_token, is_plain, is_escapable, is_target, is_hex}
use Rattle.grammar.specs.Link.{Link, Param}
use Rattle.grammar.specs.Grammar.{Extra, is_bare}
use Rattle.grammar.specs.Machine.{
  State,
  gap,
  target,
  percent,
  hex,
  after,
  semi,
  name,
  named,
  equals,
  bare,
  wide,
  quote,
  escape,
  dead,
  Open,
  next,
  name_end,
}
use Rattle.grammar.specs.Machine.{step, run, settle, param, add, flag, close, opened}

-- places raised by k
abbrev pub raise_param : ℕ → Param → Param
raise_param k p =
    record {
      name_from = k + p.name_from;
      name_to = k + p.name_to;
      value_from = k + p.value_from;
      value_to = k + p.value_to;
      form = p.form;
    }

abbrev pub raise_link : ℕ → Link → Link
raise_link k l = record { target_from = k + l.target_from; target_to = k + l.target_to; params = map (raise_param k) l.params }

pub map_reverse_aux : {A B : Type 0} (f : A → B) (xs ys : List A) → reverse_aux (map f xs) (map f ys) ≡ map f (reverse_aux xs ys)
map_reverse_aux f [] ys = refl
map_reverse_aux f (x ∷ xs) ys = map_reverse_aux f xs (x ∷ ys)

-- a choice that both sides make
pub pick : {A B : Type 0} (f : A → B) (b : Bool) {x y : A} {x' y' : B} → x' ≡ f x → y' ≡ f y → cond b x' y' ≡ f (cond b x y)
pick f true p q = p
pick f false p q = q

module _ (k : ℕ) (pre : List Link) where
  -- links read, last first, raised and behind those of `pre`
  abbrev pub behind : List Link → List Link
  behind ls = map (raise_link k) ls ++ pre

  abbrev pub lift_open : Open → Open
  lift_open o =
      record { done = behind o.done; target_from = k + o.target_from; target_to = k + o.target_to; params = map (raise_param k) o.params }

  abbrev pub lift : State → State
  lift (gap ls) = gap (behind ls)
  lift (target ls a) = target (behind ls) (k + a)
  lift (percent ls a) = percent (behind ls) (k + a)
  lift (hex ls a) = hex (behind ls) (k + a)
  lift (after o) = after (lift_open o)
  lift (semi o) = semi (lift_open o)
  lift (name o n) = name (lift_open o) (k + n)
  lift (named o n e) = named (lift_open o) (k + n) (k + e)
  lift (equals o n e) = equals (lift_open o) (k + n) (k + e)
  lift (bare o n e v) = bare (lift_open o) (k + n) (k + e) (k + v)
  lift (wide o n e v) = wide (lift_open o) (k + n) (k + e) (k + v)
  lift (quote o n e v) = quote (lift_open o) (k + n) (k + e) (k + v)
  lift (escape o n e v) = escape (lift_open o) (k + n) (k + e) (k + v)
  lift dead = dead

  pub close_lift : (o : Open) → close (lift_open o) ≡ behind (close o)
  close_lift o =
      ap
      (λ (ps : List Param). record { target_from = k + o.target_from; target_to = k + o.target_to; params = ps } ∷ behind o.done)
      (map_reverse_aux (raise_param k) o.params [])

  next_lift : (o : Open) (c : ℕ) → next (lift_open o) c ≡ lift (next o c)
  next_lift o c =
      pick lift (is_blank c) refl
      (pick lift (eqb c 59) refl (pick lift (eqb c 44) (ap gap (close_lift o)) refl))

  name_lift : (o : Open) (n e c : ℕ) → name_end (lift_open o) (k + n) (k + e) c ≡ lift (name_end o n e c)
  name_lift o n e c =
      pick lift (is_blank c) refl (pick lift (eqb c 61) refl (next_lift (add (flag n e) o) c))

  module _ (extra : Extra) where
    step_lift : (st : State) (i c : ℕ) → step extra (lift st) (k + i) c ≡ lift (step extra st i c)
    step_lift (gap ls) i c =
        pick lift (is_blank c) refl
        (pick lift (eqb c 44) refl (pick lift (eqb c 60) (ap (target (behind ls)) (sym (add-suc k i))) refl))
    step_lift (target ls a) i c =
        pick lift (is_target c) refl (pick lift (eqb c 37) refl (pick lift (eqb c 62) refl refl))
    step_lift (percent ls a) i c = pick lift (is_hex c) refl refl
    step_lift (hex ls a) i c = pick lift (is_hex c) refl refl
    step_lift (after o) i c = next_lift o c
    step_lift (semi o) i c = pick lift (is_blank c) refl (pick lift (is_token c) refl refl)
    step_lift (name o n) i c = pick lift (is_token c) refl (name_lift o n i c)
    step_lift (named o n e) i c = name_lift o n e c
    step_lift (equals o n e) i c =
        pick lift (is_blank c) refl
        (pick lift (eqb c 34) (ap (quote (lift_open o) (k + n) (k + e)) (sym (add-suc k i)))
        (pick lift (is_token c) refl (pick lift (extra c) refl refl)))
    step_lift (bare o n e v) i c =
        pick lift (is_token c) refl (pick lift (extra c) refl (next_lift (add (param n e v i 1) o) c))
    step_lift (wide o n e v) i c = pick lift (is_bare extra c) refl (next_lift (add (param n e v i 3) o) c)
    step_lift (quote o n e v) i c =
        pick lift (eqb c 34) refl (pick lift (eqb c 92) refl (pick lift (is_plain c) refl refl))
    step_lift (escape o n e v) i c = pick lift (is_escapable c) refl refl
    step_lift dead i c = refl

    pub run_lift : (t : List ℕ) (st : State) (i : ℕ) → run extra (lift st) (k + i) t ≡ lift (run extra st i t)
    run_lift [] st i = refl
    run_lift (c ∷ t) st i =
        ap (λ (x : State). run extra x (suc (k + i)) t) (step_lift st i c)
        ∙ ap (λ (n : ℕ). run extra (lift (step extra st i c)) n t) (sym (add-suc k i))
        ∙ run_lift t (step extra st i c) (suc i)

  abbrev pub behind_in : Option (List Link) → Option (List Link)
  behind_in none = none
  behind_in (some ls) = some (behind ls)

  pub settle_lift : (st : State) (i : ℕ) → settle (lift st) (k + i) ≡ behind_in (settle st i)
  settle_lift (gap ls) i = refl
  settle_lift (target ls a) i = refl
  settle_lift (percent ls a) i = refl
  settle_lift (hex ls a) i = refl
  settle_lift (after o) i = ap some (close_lift o)
  settle_lift (semi o) i = refl
  settle_lift (name o n) i = ap some (close_lift (add (flag n i) o))
  settle_lift (named o n e) i = ap some (close_lift (add (flag n e) o))
  settle_lift (equals o n e) i = refl
  settle_lift (bare o n e v) i = ap some (close_lift (add (param n e v i 1) o))
  settle_lift (wide o n e v) i = ap some (close_lift (add (param n e v i 3) o))
  settle_lift (quote o n e v) i = refl
  settle_lift (escape o n e v) i = refl
  settle_lift dead i = refl
