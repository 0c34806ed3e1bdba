-- The steps of phases, and that a phase goes on as the machine does in any state of that phase.
use Prim.Native.Nat.{ℕ, suc, ◌≤◌}
use native.Mathlib.Omega.{arith}
use mathlib.Core.Path.{◌≡◌, refl, sym, ap, ◌∙◌}
use mathlib.Core.Bool.{Bool, true, false, cond, ◌||◌, true≢false}
use mathlib.Core.List.{[], ◌∷◌}
use lib.Dec.{eqb}
use lib.ListN.{get_or-eq_default}
use borrow.Author.Tests.{eqb-true}
use Rattle.octets.specs.Sets.{is_blank, is_token, is_hex, is_target, is_plain, is_escapable}
use Rattle.octets.proofs.Laws.{not_eqb}
use Rattle.grammar.specs.Grammar.{Extra, Admissible, is_bare}
use Rattle.grammar.specs.Machine as machine
use Rattle.grammar.specs.Machine.{State, step, phase_of, Open}
use Rattle.grammar.proofs.Classes.{token_not_blank, blank_not_token, extra_not_blank}
use Rattle.grammar.proofs.Raise.{pick}
use Rattle.phases.specs.Steps.{
  stuck,
  first_of,
  token_or_blank,
  link_end_in,
  name_end_in,
  value_start_in,
  or_in,
  steps_on,
  step_in,
  FollowsMachine,
}

-- the step of each phase
module _ (extra : Extra) (c : ℕ) where
  pub on_gap : step_in extra 0 c ≡ first_of 60 1 44 0 is_blank 0 c
  unfolding step_in
  on_gap = refl

  pub on_target : step_in extra 1 c ≡ first_of 62 4 37 2 is_target 1 c
  unfolding step_in
  on_target = refl

  pub on_percent : step_in extra 2 c ≡ cond (is_hex c) 3 stuck
  unfolding step_in
  on_percent = refl

  pub on_hex : step_in extra 3 c ≡ cond (is_hex c) 1 stuck
  unfolding step_in
  on_hex = refl

  pub on_after : step_in extra 4 c ≡ link_end_in 4 c
  unfolding step_in
  on_after = refl

  pub on_semi : step_in extra 5 c ≡ token_or_blank 6 5 c
  unfolding step_in
  on_semi = refl

  pub on_name : step_in extra 6 c ≡ or_in is_token (name_end_in c) c 6
  unfolding step_in
  on_name = refl

  pub on_named : step_in extra 7 c ≡ name_end_in c
  unfolding step_in
  on_named = refl

  pub on_equals : step_in extra 8 c ≡ value_start_in extra c
  unfolding step_in
  on_equals = refl

  pub on_bare : step_in extra 9 c ≡ or_in extra (or_in is_token (link_end_in 4 c) c 9) c 9
  unfolding step_in
  on_bare = refl

  pub on_quote : step_in extra 10 c ≡ first_of 34 4 92 11 is_plain 10 c
  unfolding step_in
  on_quote = refl

  pub on_escape : step_in extra 11 c ≡ cond (is_escapable c) 10 stuck
  unfolding step_in
  on_escape = refl

  on_dead : step_in extra stuck c ≡ stuck
  unfolding step_in
  on_dead = refl

-- one number more is passed
up : (k n : ℕ) → k ≤ n → (n ≡ k → ⊥) → suc k ≤ n
up k n h e = omega arith

-- from a number that is no phase's nothing leads on
pub on_none : (extra : Extra) (n c : ℕ)
    → ((((((((((((Unit {0} × (n ≡ 0 → ⊥)) × (n ≡ 1 → ⊥)) × (n ≡ 2 → ⊥)) × (n ≡ 3 → ⊥)) × (n ≡ 4 → ⊥)) × (n ≡ 5 → ⊥))
    × (n ≡ 6 → ⊥)) × (n ≡ 7 → ⊥)) × (n ≡ 8 → ⊥)) × (n ≡ 9 → ⊥)) × (n ≡ 10 → ⊥)) × (n ≡ 11 → ⊥)) → step_in extra n c ≡ stuck
unfolding step_in
on_none extra n x ((((((((((((_, a), b), c), d), e), f), g), h), i), j), k), l) =
    let six : 6 ≤ n = up 5 n (up 4 n (up 3 n (up 2 n (up 1 n (up 0 n (omega arith) a) b) c) d) e) f in
    get_or-eq_default (steps_on extra x) stuck (up 11 n (up 10 n (up 9 n (up 8 n (up 7 n (up 6 n six g) h) i) j) k) l)

-- ---- tests that exclude each other may change places

swapped : (a b : Bool) (x y z : ℕ) → (a ≡ true → b ≡ false) → cond a x (cond b y z) ≡ cond b y (cond a x z)
swapped true true x y z h = absurd (true≢false (h refl))
swapped true false x y z h = refl
swapped false b x y z h = refl

-- the third one first
rotated : (a b d : Bool) (x y z w : ℕ) → (d ≡ true → a ≡ false) → (d ≡ true → b ≡ false)
    → cond a x (cond b y (cond d z w)) ≡ cond d z (cond a x (cond b y w))
rotated a b true x y z w h k = rw (h refl, k refl) refl
rotated a b false x y z w h k = refl

-- the first and the third one exchanged
turned : (a b d : Bool) (x y z w : ℕ) → (a ≡ true → b ≡ false) → (d ≡ true → a ≡ false) → (d ≡ true → b ≡ false)
    → cond a x (cond b y (cond d z w)) ≡ cond d z (cond b y (cond a x w))
turned a b d x y z w g h k = rotated a b d x y z w h k ∙ ap (cond d z) (swapped a b x y w g)

-- an octet is no other one
not_both : (c k n : ℕ) → eqb k n ≡ false → eqb c k ≡ true → eqb c n ≡ false
not_both c k n e f = rw (eqb-true c k f) e

blank_not : (k c : ℕ) → is_blank k ≡ false → is_blank c ≡ true → eqb c k ≡ false
blank_not = not_eqb is_blank

target_not : (k c : ℕ) → is_target k ≡ false → is_target c ≡ true → eqb c k ≡ false
target_not = not_eqb is_target

token_not : (k c : ℕ) → is_token k ≡ false → is_token c ≡ true → eqb c k ≡ false
token_not = not_eqb is_token

-- ---- each step, in the machine's order of tests

pub gap_step : (extra : Extra) (c : ℕ) → step_in extra 0 c ≡ cond (is_blank c) 0 (cond (eqb c 44) 0 (cond (eqb c 60) 1 stuck))
unfolding step_in first_of is_blank
gap_step extra c =
    turned (eqb c 60) (eqb c 44) (is_blank c) 1 0 0 stuck (not_both c 60 44 refl) (blank_not 60 c refl) (blank_not 44 c refl)

pub target_step : (extra : Extra) (c : ℕ) → step_in extra 1 c ≡ cond (is_target c) 1 (cond (eqb c 37) 2 (cond (eqb c 62) 4 stuck))
unfolding step_in first_of is_target
target_step extra c =
    turned (eqb c 62) (eqb c 37) (is_target c) 4 2 1 stuck (not_both c 62 37 refl) (target_not 62 c refl) (target_not 37 c refl)

pub link_end_step : (b c : ℕ) → link_end_in b c ≡ cond (is_blank c) b (cond (eqb c 59) 5 (cond (eqb c 44) 0 stuck))
unfolding link_end_in first_of is_blank
link_end_step b c = rotated (eqb c 59) (eqb c 44) (is_blank c) 5 0 b stuck (blank_not 59 c refl) (blank_not 44 c refl)

pub semi_step : (extra : Extra) (c : ℕ) → step_in extra 5 c ≡ cond (is_blank c) 5 (cond (is_token c) 6 stuck)
unfolding step_in token_or_blank
semi_step extra c = swapped (is_token c) (is_blank c) 6 5 stuck (token_not_blank c)

-- a further octet leads to the phase of a bare value, where no token's octet and no blank stands
or_further : (t b x : Bool) → cond (eqb (cond t 9 (cond b 8 stuck)) stuck) (cond x 9 stuck) (cond t 9 (cond b 8 stuck)) ≡ cond t 9 (cond b 8 (cond x 9 stuck))
or_further true b x = refl
or_further false true x = refl
or_further false false x = refl

pub equals_step : (extra : Extra) (c : ℕ)
    → step_in extra 8 c ≡ cond (is_blank c) 8 (cond (eqb c 34) 10 (cond (is_token c) 9 (cond (extra c) 9 stuck)))
unfolding step_in value_start_in token_or_blank or_in is_blank
equals_step extra c =
    ap (cond (eqb c 34) 10) (or_further (is_token c) (is_blank c) (extra c))
    ∙ rotated (eqb c 34) (is_token c) (is_blank c) 10 9 8 (cond (extra c) 9 stuck) (blank_not 34 c refl) (blank_not_token c)

pub quote_step : (extra : Extra) (c : ℕ) → step_in extra 10 c ≡ cond (eqb c 34) 4 (cond (eqb c 92) 11 (cond (is_plain c) 10 stuck))
unfolding step_in first_of
quote_step extra c = refl

-- behind a name, blanks come first, and then what a whole link may be followed by
pub name_end_step : (c : ℕ) → name_end_in c ≡ cond (is_blank c) 7 (cond (eqb c 61) 8 (link_end_in 4 c))
unfolding name_end_in is_blank
name_end_step c = go (is_blank c) refl
  where
    go : (x : Bool) → is_blank c ≡ x → name_end_in c ≡ cond x 7 (cond (eqb c 61) 8 (link_end_in 4 c))
    go true e = rw (blank_not 61 c refl e, link_end_step 7 c, e) refl
    go false e = rw (link_end_step 7 c, link_end_step 4 c, e) refl

-- an octet of a token leads nowhere else
token_no_end : (b c : ℕ) → is_token c ≡ true → link_end_in b c ≡ stuck
unfolding link_end_in first_of is_token
token_no_end b c e = rw (token_not 59 c refl e, token_not 44 c refl e, token_not_blank c e) refl

token_no_name_end : (c : ℕ) → is_token c ≡ true → name_end_in c ≡ stuck
unfolding name_end_in is_token
token_no_name_end c e = rw (token_not 61 c refl e, token_no_end 7 c e) refl

or_in_step : (f : ℕ → Bool) (e c p : ℕ) → (f c ≡ true → e ≡ stuck) → or_in f e c p ≡ cond (f c) p e
unfolding or_in
or_in_step f e c p h = go (f c) refl
  where
    end : (x : Bool) → eqb e stuck ≡ x → cond x stuck e ≡ e
    end true q = sym (eqb-true e stuck q)
    end false q = refl

    go : (x : Bool) → f c ≡ x → cond (eqb e stuck) (cond x p stuck) e ≡ cond x p e
    go true q = rw (h q) refl
    go false q = end (eqb e stuck) refl

-- ---- the machine's step, as its phase

next_phase : (o : Open) (c : ℕ) → link_end_in 4 c ≡ phase_of (machine.next o c)
next_phase o c =
    link_end_step 4 c
    ∙ pick phase_of (is_blank c) refl (pick phase_of (eqb c 59) refl (pick phase_of (eqb c 44) refl refl))

name_end_phase : (o : Open) (n e c : ℕ) → name_end_in c ≡ phase_of (machine.name_end o n e c)
name_end_phase o n e c =
    name_end_step c
    ∙ pick phase_of (is_blank c) refl
    (pick phase_of (eqb c 61) refl (next_phase (machine.add (machine.flag n e) o) c))

pub name_step : (extra : Extra) (c : ℕ) → step_in extra 6 c ≡ cond (is_token c) 6 (name_end_in c)
name_step extra c = on_name extra c ∙ or_in_step is_token (name_end_in c) c 6 (token_no_name_end c)

-- either test leads to the phase of a bare value, in any order
either_bare : (t x : Bool) (e : ℕ) → cond x 9 (cond t 9 e) ≡ cond t 9 (cond x 9 e)
either_bare true true e = refl
either_bare true false e = refl
either_bare false x e = refl

-- and one test does for both
both_bare : (t x : Bool) (e : ℕ) → cond t 9 (cond x 9 e) ≡ cond (t || x) 9 e
both_bare true x e = refl
both_bare false x e = refl

module _ (extra : Extra) (apart : Admissible extra) where
  -- a further octet is no token's, and none that may end a bare value
  further_no_end : (c : ℕ) → extra c ≡ true → cond (is_token c) 9 (link_end_in 4 c) ≡ stuck
  unfolding link_end_in first_of
  further_no_end c e =
      rw (
        apart.token c e,
        not_eqb extra 59 c apart.semicolon e,
        not_eqb extra 44 c apart.comma e,
        extra_not_blank extra apart c e,
      ) refl

  pub bare_step : (c : ℕ) → step_in extra 9 c ≡ cond (is_token c) 9 (cond (extra c) 9 (link_end_in 4 c))
  bare_step c =
      on_bare extra c
      ∙ ap (λ (e : ℕ). or_in extra e c 9) (or_in_step is_token (link_end_in 4 c) c 9 (token_no_end 4 c))
      ∙ or_in_step extra (cond (is_token c) 9 (link_end_in 4 c)) c 9 (further_no_end c)
      ∙ either_bare (is_token c) (extra c) (link_end_in 4 c)

  phase_in : (st : State) (i c : ℕ) → step_in extra (phase_of st) c ≡ phase_of (step extra st i c)
  phase_in (machine.gap ls) i c =
      gap_step extra c ∙ pick phase_of (is_blank c) refl (pick phase_of (eqb c 44) refl (pick phase_of (eqb c 60) refl refl))
  phase_in (machine.target ls a) i c =
      target_step extra c ∙ pick phase_of (is_target c) refl (pick phase_of (eqb c 37) refl (pick phase_of (eqb c 62) refl refl))
  phase_in (machine.percent ls a) i c = on_percent extra c ∙ pick phase_of (is_hex c) refl refl
  phase_in (machine.hex ls a) i c = on_hex extra c ∙ pick phase_of (is_hex c) refl refl
  phase_in (machine.after o) i c = on_after extra c ∙ next_phase o c
  phase_in (machine.semi o) i c = semi_step extra c ∙ pick phase_of (is_blank c) refl (pick phase_of (is_token c) refl refl)
  phase_in (machine.name o n) i c = name_step extra c ∙ pick phase_of (is_token c) refl (name_end_phase o n i c)
  phase_in (machine.named o n e) i c = on_named extra c ∙ name_end_phase o n e c
  phase_in (machine.equals o n e) i c =
      equals_step extra c
      ∙ pick phase_of (is_blank c) refl
      (pick phase_of (eqb c 34) refl (pick phase_of (is_token c) refl (pick phase_of (extra c) refl refl)))
  phase_in (machine.bare o n e v) i c =
      bare_step c
      ∙ pick phase_of (is_token c) refl
      (pick phase_of (extra c) refl (next_phase (machine.add (machine.param n e v i 1) o) c))
  phase_in (machine.wide o n e v) i c =
      bare_step c ∙ both_bare (is_token c) (extra c) (link_end_in 4 c)
      ∙ pick phase_of (is_bare extra c) refl (next_phase (machine.add (machine.param n e v i 3) o) c)
  phase_in (machine.quote o n e v) i c =
      quote_step extra c ∙ pick phase_of (eqb c 34) refl (pick phase_of (eqb c 92) refl (pick phase_of (is_plain c) refl refl))
  phase_in (machine.escape o n e v) i c = on_escape extra c ∙ pick phase_of (is_escapable c) refl refl
  phase_in machine.dead i c = on_dead extra c

pub phase_step : FollowsMachine
phase_step = phase_in
