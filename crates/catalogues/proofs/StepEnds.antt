-- A step leads to the number of a pack, or the walk stops for want of something. Assumes nothing.
use Prim.Native.Nat.{ℕ, ◌<◌}
use native.Mathlib.Omega.{arith}
use mathlib.Core.Bool.{Bool, true, false, cond}
use mathlib.Core.List.{List, [], ◌∷◌}
use mathlib.Core.Option.{Option, none, some}
use lib.ListN.{length}
use Rattle.octets.specs.Fold.{same}
use Rattle.grammar.specs.Link.{Link}
use Rattle.catalogues.specs.Packs.{Pack}
use Rattle.catalogues.specs.Steps.{
  End,
  arrived,
  no_link,
  no_target,
  no_pack,
  Step,
  to,
  stop,
  first_link,
  target_on,
  next,
  number_of,
  to_pack,
  to_target,
  along,
  pack_at,
  step_by,
  step_from,
}

-- the number is a pack's
abbrev Below : List Pack → Option ℕ → Type 0
Below ps none = Unit
Below ps (some k) = k < length ps

below_next : (p : Pack) (ps : List Pack) (o : Option ℕ) → Below ps o → Below (p ∷ ps) (next o)
below_next p ps none b = tt
below_next p ps (some k) b = omega arith

number_below : (w : List ℕ) (ps : List Pack) → Below ps (number_of w ps)
number_below w [] = tt
number_below w (p ∷ ps) = go (same p.uri w) (number_below w ps)
  where
    go : (b : Bool) → Below ps (number_of w ps) → Below (p ∷ ps) (cond b (some 0) (next (number_of w ps)))
    go true k = omega arith
    go false k = below_next p ps (number_of w ps) k

-- the end is no arrival
abbrev pub Short : End → Type 0
Short arrived = ⊥
Short no_link = Unit
Short no_target = Unit
Short no_pack = Unit

-- it leads to a pack, or it ends the walk short
pub data Taken (ps : List Pack) : Step → Type 0 where
  taken : {j : ℕ} → j < length ps → Taken ps (to j)
  stopped : {e : End} → Short e → Taken ps (stop e)

module _ (ps : List Pack) where
  pack_taken : (o : Option ℕ) → Below ps o → Taken ps (to_pack o)
  pack_taken none b = stopped tt
  pack_taken (some k) b = taken b

  target_taken : (o : Option (List ℕ)) → Taken ps (to_target ps o)
  target_taken none = stopped tt
  target_taken (some w) = pack_taken (number_of w ps) (number_below w ps)

  along_taken : (p : Pack) (o : Option Link) → Taken ps (along ps p o)
  along_taken p none = stopped tt
  along_taken p (some l) = target_taken (target_on p l)

  by_taken : (q : List ℕ) (o : Option Pack) → Taken ps (step_by ps q o)
  by_taken q none = stopped tt
  by_taken q (some p) = along_taken p (first_link p.value q p.links)

  pub step_taken : (q : List ℕ) (i : ℕ) → Taken ps (step_from ps q i)
  step_taken q i = by_taken q (pack_at ps i)
