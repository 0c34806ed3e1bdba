-- A machine that reads a header one octet at a time, with a state for each phase of reading. The grammar says what is derived; the
-- machine says the same step by step (law `MachineExact`), for the promises of functions that stand somewhere inside a header. Of the
-- entries' promises only what a feeding's state holds speaks of it, for the number of the phase and the start of the open target; what
-- entries answer is settled by the grammar alone. Each phase holds just what it needs; finished links and parameters are held last first.
use Rattle.std.specs.Prelude.{ℕ, suc, Bool, cond, eqb}
use mathlib.Core.List.{List, [], ◌∷◌, reverse, reverse_aux}
use Rattle.std.proofs.Math.Option.{Option, none, some}
use Rattle.octets.specs.Sets.{is_blank, is_token, is_plain, is_escapable, is_target, is_hex}
use Rattle.grammar.specs.Link.{Link, Param}
use Rattle.grammar.specs.Grammar.{Extra, is_bare}

-- the link that is being read, behind finished links
pub record Open : Type 0 where
  pub done : List Link
  pub target_from : ℕ
  pub target_to : ℕ
  pub params : List Param

pub data State : Type 0 where
  gap : List Link → State
  target percent hex : List Link → ℕ → State
  after semi : Open → State
  name : Open → ℕ → State
  named equals : Open → ℕ → ℕ → State
  bare wide quote escape : Open → ℕ → ℕ → ℕ → State
  dead : State

-- the number of the phase; a bare value is one phase, whether all its octets are a token's or not
abbrev pub phase_of : State → ℕ
phase_of (gap ls) = 0
phase_of (target ls a) = 1
phase_of (percent ls a) = 2
phase_of (hex ls a) = 3
phase_of (after o) = 4
phase_of (semi o) = 5
phase_of (name o n) = 6
phase_of (named o n e) = 7
phase_of (equals o n e) = 8
phase_of (bare o n e v) = 9
phase_of (wide o n e v) = 9
phase_of (quote o n e v) = 10
phase_of (escape o n e v) = 11
phase_of dead = 12

-- the start of the target in which the machine stands, if it stands in one
abbrev pub open_at : State → Option ℕ
open_at (gap ls) = none
open_at (target ls a) = some a
open_at (percent ls a) = some a
open_at (hex ls a) = some a
open_at (after o) = none
open_at (semi o) = none
open_at (name o n) = none
open_at (named o n e) = none
open_at (equals o n e) = none
open_at (bare o n e v) = none
open_at (wide o n e v) = none
open_at (quote o n e v) = none
open_at (escape o n e v) = none
open_at dead = none

-- the link just closed by `>`
abbrev pub opened : List Link → ℕ → ℕ → Open
opened ls a k = record { done = ls; target_from = a; target_to = k; params = [] }

abbrev pub param : ℕ → ℕ → ℕ → ℕ → ℕ → Param
param n e a b f = record { name_from = n; name_to = e; value_from = a; value_to = b; form = f }

-- a parameter without a value
abbrev pub flag : ℕ → ℕ → Param
flag n e = param n e e e 0

abbrev pub add : Param → Open → Open
add p o = record { done = o.done; target_from = o.target_from; target_to = o.target_to; params = p ∷ o.params }

-- the finished links with the open one, last first
abbrev pub close : Open → List Link
close o = record { target_from = o.target_from; target_to = o.target_to; params = reverse o.params } ∷ o.done

-- what a link and its parameters may be followed by
abbrev pub next : Open → ℕ → State
next o c = cond (is_blank c) (after o) (cond (eqb c 59) (semi o) (cond (eqb c 44) (gap (close o)) dead))

-- what a name, ended at e, may be followed by
abbrev pub name_end : Open → ℕ → ℕ → ℕ → State
name_end o n e c =
    cond (is_blank c) (named o n e) (cond (eqb c 61) (equals o n e) (next (add (flag n e) o) c))

module _ (extra : Extra) where
  -- the octet c at place i
  abbrev pub step : State → ℕ → ℕ → State
  step (gap ls) i c = cond (is_blank c) (gap ls) (cond (eqb c 44) (gap ls) (cond (eqb c 60) (target ls (suc i)) dead))
  step (target ls a) i c =
      cond (is_target c) (target ls a) (cond (eqb c 37) (percent ls a) (cond (eqb c 62) (after (opened ls a i)) dead))
  step (percent ls a) i c = cond (is_hex c) (hex ls a) dead
  step (hex ls a) i c = cond (is_hex c) (target ls a) dead
  step (after o) i c = next o c
  step (semi o) i c = cond (is_blank c) (semi o) (cond (is_token c) (name o i) dead)
  step (name o n) i c = cond (is_token c) (name o n) (name_end o n i c)
  step (named o n e) i c = name_end o n e c
  step (equals o n e) i c =
      cond (is_blank c) (equals o n e)
      (cond (eqb c 34) (quote o n e (suc i)) (cond (is_token c) (bare o n e i) (cond (extra c) (wide o n e i) dead)))
  step (bare o n e v) i c =
      cond (is_token c) (bare o n e v) (cond (extra c) (wide o n e v) (next (add (param n e v i 1) o) c))
  step (wide o n e v) i c = cond (is_bare extra c) (wide o n e v) (next (add (param n e v i 3) o) c)
  step (quote o n e v) i c =
      cond (eqb c 34) (after (add (param n e v i 2) o))
      (cond (eqb c 92) (escape o n e v) (cond (is_plain c) (quote o n e v) dead))
  step (escape o n e v) i c = cond (is_escapable c) (quote o n e v) dead
  step dead i c = dead

  abbrev pub run : State → ℕ → List ℕ → State
  run st i [] = st
  run st i (c ∷ cs) = run (step st i c) (suc i) cs

-- the links read, last first, where the header may end at place i
abbrev pub settle : State → ℕ → Option (List Link)
settle (gap ls) i = some ls
settle (target ls a) i = none
settle (percent ls a) i = none
settle (hex ls a) i = none
settle (after o) i = some (close o)
settle (semi o) i = none
settle (name o n) i = some (close (add (flag n i) o))
settle (named o n e) i = some (close (add (flag n e) o))
settle (equals o n e) i = none
settle (bare o n e v) i = some (close (add (param n e v i 1) o))
settle (wide o n e v) i = some (close (add (param n e v i 3) o))
settle (quote o n e v) i = none
settle (escape o n e v) i = none
settle dead i = none

abbrev pub links_in_order : Option (List Link) → Option (List Link)
links_in_order none = none
links_in_order (some ls) = some (reverse ls)

abbrev pub finish : State → ℕ → Option (List Link)
finish st i = links_in_order (settle st i)
