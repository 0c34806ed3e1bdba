-- A step from a pack: the first link that has a relation and no `anchor`, resolved on the pack's URI, and the pack of exactly those octets.
use Rattle.std.specs.Prelude.{ℕ, zero, suc, Bool, true, false, cond, ◌&&◌, List, [], ◌∷◌, leb, length}
use Rattle.std.proofs.Math.Option.{Option, none, some}
use Rattle.std.proofs.Math.Seq.{slice}
use Rattle.octets.specs.Text.{octets}
use Rattle.octets.specs.Fold.{same}
use Rattle.grammar.specs.Link.{Link}
use Rattle.tables.specs.Relation.{named, has_relation}
use Rattle.resolution.specs.Resolve.{resolved}
use Rattle.outcomes.specs.Number.{limit}
use Rattle.catalogues.specs.Packs.{Pack}

-- how a walk ends: it arrives, or stops for want of a link, of a target that can be resolved, or of a pack
pub data End : Type 0 where
  arrived no_link no_target no_pack : End

-- a step leads to the pack of this number, or the walk stops for want of something
pub data Step : Type 0 where
  to : ℕ → Step
  stop : End → Step

abbrev pub absent : {A : Type 0} → Option A → Bool
absent none = true
absent (some x) = false

-- the link, in the Link value s, has the relation q and no `anchor`, not even an empty one
abbrev pub follows : List ℕ → List ℕ → Link → Bool
follows s q l = absent (named s (octets "anchor") l.params) && has_relation s q l

-- the first such link
abbrev pub first_link : List ℕ → List ℕ → List Link → Option Link
first_link s q [] = none
first_link s q (l ∷ ls) = cond (follows s q l) (some l) (first_link s q ls)

-- the link's target resolved on the pack's URI, if neither that nor the result is over the limit
abbrev pub target_on : Pack → Link → Option (List ℕ)
target_on p l =
    let w = resolved p.uri (slice l.target_from l.target_to p.value) in
    cond (leb (length p.uri) limit && leb (length w) limit) (some w) none

abbrev pub next : Option ℕ → Option ℕ
next none = none
next (some k) = some (suc k)

-- the number of the pack that has exactly the octets w for its URI
abbrev pub number_of : List ℕ → List Pack → Option ℕ
number_of w [] = none
number_of w (p ∷ ps) = cond (same p.uri w) (some 0) (next (number_of w ps))

abbrev pub to_pack : Option ℕ → Step
to_pack none = stop no_pack
to_pack (some k) = to k

abbrev pub to_target : List Pack → Option (List ℕ) → Step
to_target ps none = stop no_target
to_target ps (some w) = to_pack (number_of w ps)

abbrev pub along : List Pack → Pack → Option Link → Step
along ps p none = stop no_link
along ps p (some l) = to_target ps (target_on p l)

-- a step from the pack p, in a catalogue of the packs ps, by the relation q
abbrev pub step_of : List Pack → List ℕ → Pack → Step
step_of ps q p = along ps p (first_link p.value q p.links)

-- pack number i
abbrev pub pack_at : List Pack → ℕ → Option Pack
pack_at [] i = none
pack_at (p ∷ ps) zero = some p
pack_at (p ∷ ps) (suc i) = pack_at ps i

-- a step from it; there is none from a number that is no pack's
abbrev pub step_by : List Pack → List ℕ → Option Pack → Step
step_by ps q none = stop no_pack
step_by ps q (some p) = step_of ps q p

abbrev pub step_from : List Pack → List ℕ → ℕ → Step
step_from ps q i = step_by ps q (pack_at ps i)
