-- What an octet leads to in each phase of reading, the phases by the machine's numbers (`grammar/Machine.phase_of`). It is what the
-- machine does in any state of the phase (law `FollowsMachine`), with single octets tested before sets.
use Rattle.std.specs.Prelude.{ℕ, ◌≡◌, Bool, cond, List, [], ◌∷◌, eqb, get_or}
use Rattle.grammar.specs.Grammar.{Extra, Admissible}
use Rattle.grammar.specs.Machine.{State, step, phase_of}
use Rattle.octets.specs.Sets.{is_blank, is_token, is_plain, is_escapable, is_target, is_hex}

-- behind an octet that leads nowhere
abbrev pub stuck : ℕ
stuck = 12

-- one of two octets, or one of a set, each with the phase that it leads to
unfoldable pub first_of : ℕ → ℕ → ℕ → ℕ → (ℕ → Bool) → ℕ → ℕ → ℕ
first_of a p b q f r c = cond (eqb c a) p (cond (eqb c b) q (cond (f c) r stuck))

-- a token's octet, or a blank
unfoldable pub token_or_blank : ℕ → ℕ → ℕ → ℕ
token_or_blank p b c = cond (is_token c) p (cond (is_blank c) b stuck)

-- where a link may be whole, with the phase of blanks there
unfoldable pub link_end_in : ℕ → ℕ → ℕ
link_end_in b c = first_of 59 5 44 0 is_blank b c

-- behind a name
unfoldable pub name_end_in : ℕ → ℕ
name_end_in c = cond (eqb c 61) 8 (link_end_in 7 c)

-- e where it leads on, else the phase p of an octet of the set f
unfoldable pub or_in : (ℕ → Bool) → ℕ → ℕ → ℕ → ℕ
or_in f e c p = cond (eqb e stuck) (cond (f c) p stuck) e

module _ (extra : Extra) where
  -- behind `=`
  unfoldable pub value_start_in : ℕ → ℕ
  value_start_in c = cond (eqb c 34) 10 (or_in extra (token_or_blank 9 8 c) c 9)

  -- the phase behind the octet c, for each phase in turn
  abbrev pub steps_on : ℕ → List ℕ
  steps_on c =
      first_of 60 1 44 0 is_blank 0 c
      ∷ first_of 62 4 37 2 is_target 1 c
      ∷ cond (is_hex c) 3 stuck
      ∷ cond (is_hex c) 1 stuck
      ∷ link_end_in 4 c
      ∷ token_or_blank 6 5 c
      ∷ or_in is_token (name_end_in c) c 6
      ∷ name_end_in c
      ∷ value_start_in c
      ∷ or_in extra (or_in is_token (link_end_in 4 c) c 9) c 9
      ∷ first_of 34 4 92 11 is_plain 10 c
      ∷ cond (is_escapable c) 10 stuck
      ∷ []

  -- the phase that c leads to from phase p; from a number that is no phase's nothing leads on
  unfoldable pub step_in : ℕ → ℕ → ℕ
  step_in p c = get_or (steps_on c) p stuck

-- a phase goes on as the machine does in any state of that phase
abbrev pub FollowsMachine : Type 0
FollowsMachine =
    (extra : Extra) → Admissible extra → (st : State) (i c : ℕ) → step_in extra (phase_of st) c ≡ phase_of (step extra st i c)
