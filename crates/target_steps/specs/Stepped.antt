-- A step's answer, as the step that it tells.
use Rattle.std.specs.Prelude.{ℕ, ◌*◌, ◌≤◌, ◌≡◌, cond, ◌&&◌, List, leb, length, Result, Ok, Err}
use Rattle.std.proofs.Math.Option.{Option, none, some}
use Rattle.std.proofs.Math.Seq.{slice}
use Rattle.resolution.specs.Resolve.{resolved}
use Rattle.outcomes.specs.Number.{limit}
use Rattle.catalogues.specs.Packs.{Pack}
use Rattle.catalogues.specs.Steps as step
use Rattle.catalogues.specs.Steps.{Step, to_target}
use Rattle.catalogue_check.specs.Checked.{Indexed}
use Rattle.answers.specs.declared.walk_answer.End.{End}
use Rattle.answers.specs.declared.walk_answer.End.TheVariants.{Arrived, NoLink, NoTarget, NoPack}
use Rattle.kinds.specs.declared.PackNumber.{PackNumber}

-- the end that a case stands for
abbrev pub the_end : End → step.End
the_end Arrived = step.arrived
the_end NoLink = step.no_link
the_end NoTarget = step.no_target
the_end NoPack = step.no_pack

-- the step that an answer tells
abbrev pub step_out : Result PackNumber End → Step
step_out (Ok k) = step.to k.0
step_out (Err e) = step.stop (the_end e)

-- the index X has room and the places of n packs, which are ps
pub record Listed (s X : List ℕ) (n : ℕ) (ps : List Pack) : Type 0 where
  pub room : 3 * n ≤ length X
  pub count : length ps ≡ n
  pub indexed : Indexed s X ps

-- there are such packs
abbrev pub Stands : List ℕ → List ℕ → ℕ → Type 0
Stands s X n = (ps : List Pack) × Listed s X n ps

-- on the URI u, what the octets w give, if neither is over the limit
abbrev pub within : List ℕ → List ℕ → Option (List ℕ)
within u w = cond (leb (length u) limit && leb (length w) limit) (some w) none

-- the part from a to e of the Link value v, resolved on the URI u, leads to what the answer tells
abbrev pub LeadsTo : List ℕ → List ℕ → ℕ → List ℕ → List ℕ → ℕ → ℕ → Result PackNumber End → Type 0
LeadsTo s X n u v a e r =
    (ps : List Pack) → Listed s X n ps → to_target ps (within u (resolved u (slice a e v))) ≡ step_out r
