-- Where a reading stands between two octets, and what an octet leads to there. In a target its judging as a reference goes along, by the
-- machine of references; the `>` of one that is no reference leads to a phase of its own, from which nothing goes on.
use Rattle.std.specs.Prelude.{ℕ, suc, ◌+◌, ◌<◌, ◌≡◌, Bool, false, cond, ◌&&◌, List, eqb, leb, length, get_or}
use Rattle.reference_steps.specs.Machine as judge
use Rattle.grammar.specs.Grammar.{Extra}
use Rattle.phases.specs.declared.spot.Spot.{Spot}
use Rattle.phases.specs.Steps.{stuck, step_in}

-- the phase behind the `>` of a target that is no reference
abbrev pub unfit : ℕ
unfit = 13

abbrev pub spot : ℕ → ℕ → ℕ → Spot
spot p a q = record { phase = p; target = record { 0 = a }; judged = q }

-- outside targets
abbrev pub flat : ℕ → Spot
flat p = spot p 0 0

-- in a target, behind its `%`, or behind the first hex digit
abbrev pub is_open : ℕ → Bool
is_open p = leb 1 p && leb p 3

-- as it is handed out: outside targets the numbers of a target are 0
abbrev pub normal : Spot → Spot
normal x = cond (is_open x.phase) x (flat x.phase)

abbrev pub Normal : Spot → Type 0
Normal x = is_open x.phase ≡ false → x ≡ flat x.phase

-- in a target, whose octet c leads to the phase p
unfoldable pub behind_target : Spot → ℕ → ℕ → Spot
behind_target x p c =
    cond (eqb p 4) (cond (judge.accepts x.judged) (flat 4) (spot unfit x.target.0 0)) (spot p x.target.0 (judge.step x.judged c))

module _ (extra : Extra) where
  -- the spot behind the octet c, behind which place a of the header is
  unfoldable pub onward : Spot → ℕ → ℕ → Spot
  onward x a c =
      cond (is_open x.phase) (behind_target x (step_in extra x.phase c) c)
      (cond (eqb (step_in extra x.phase c) 1) (spot 1 a 0) (flat (step_in extra x.phase c)))

-- a reading may go on here
pub record Live (x : Spot) : Type 0 where
  pub not_stuck : x.phase ≡ stuck → ⊥
  pub not_unfit : x.phase ≡ unfit → ⊥

-- the octets of s from place a on, with `base` octets of the header before s, lead from the spot x to another one at place i
pub data Leads (extra : Extra) (s : List ℕ) (base : ℕ) (x : Spot) (a : ℕ) : Spot → ℕ → Type 0 where
  here : Leads extra s base x a x a
  further : {y z : Spot} {i : ℕ} → Leads extra s base x a y i → i < length s → onward extra y (base + suc i) (get_or s i 0) ≡ z → Live z
      → Leads extra s base x a z (suc i)
