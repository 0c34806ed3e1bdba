-- The parts of a result, put one behind another. Assumes nothing.
use Prim.Native.Nat.{ℕ, ◌+◌, ◌-◌, ◌≤◌}
use native.Mathlib.Omega.{arith}
use mathlib.Core.Path.{◌≡◌, subst}
use mathlib.Core.List.{List, ◌++◌}
use lib.ListN.{length, length-append}
use lib.Seq.{slice}
use Rattle.kinds.specs.Put.{Put}
use Rattle.kinds.proofs.Putting as p
use Rattle.routes.specs.Laid.{part, path_laid, laid, Lies, Measured}
use Rattle.routes.specs.declared.Route.{Route}
use Rattle.routes.specs.declared.Lengths.{Lengths}
use Rattle.routes.proofs.Laying.{laid_length}

module _ (base s old : List ℕ) (r : Route) (n : Lengths) (l : Lies base s r) (m : Measured base s r n) (h : n.whole ≤ length old) where
  -- what is left to put at place k, in a buffer that holds `new`
  abbrev pub Left : List ℕ → ℕ → List ℕ → Type 0
  Left new k left = p.Putting old 0 (laid base s r) new k left

  pub all_left : Left old 0 (laid base s r)
  all_left = p.begin old 0 (laid base s r) (omega (arith, m.whole, h))

  pub head_room : 0 + length (slice 0 r.head.0 base) ≤ length old
  head_room = p.room (slice 0 r.head.0 base) (part s r.front ++ (path_laid base s r ++ part s r.tail)) all_left

  pub head_put : {new : List ℕ} {k : ℕ} → Put old new 0 k (slice 0 r.head.0 base)
      → Left new k (part s r.front ++ (path_laid base s r ++ part s r.tail))
  head_put q = p.several {left = part s r.front ++ (path_laid base s r ++ part s r.tail)} all_left q

  pub front_room : {new : List ℕ} {k : ℕ} → Left new k (part s r.front ++ (path_laid base s r ++ part s r.tail))
      → k + length (part s r.front) ≤ length new
  front_room w = p.room (part s r.front) (path_laid base s r ++ part s r.tail) w

  pub front_put : {new new' : List ℕ} {k k' : ℕ} → Left new k (part s r.front ++ (path_laid base s r ++ part s r.tail))
      → Put new new' k k' (part s r.front) → Left new' k' (path_laid base s r ++ part s r.tail)
  front_put w q = p.several {left = path_laid base s r ++ part s r.tail} w q

  -- the path is to begin here
  path_place : {new : List ℕ} {k : ℕ} → Left new k (path_laid base s r ++ part s r.tail) → n.path - length (path_laid base s r) ≡ k
  path_place w =
      omega (arith, w.place, length-append (path_laid base s r) (part s r.tail), m.path, laid_length base s r l)

  pub path_room : {new : List ℕ} {k : ℕ} → Left new k (path_laid base s r ++ part s r.tail)
      → (length (path_laid base s r) ≤ n.path) × (n.path ≤ length new)
  path_room w = (omega (arith, m.path), omega (arith, m.path, m.whole, laid_length base s r l, w.lengths, h))

  pub path_put : {new new' : List ℕ} {k : ℕ} → Left new k (path_laid base s r ++ part s r.tail)
      → Put new new' (n.path - length (path_laid base s r)) n.path (path_laid base s r) → Left new' n.path (part s r.tail)
  path_put {new} {new'} w q =
      p.several {left = part s r.tail} w
      (subst (λ (k : ℕ). Put new new' k n.path (path_laid base s r)) (path_place w) q)

  pub tail_room : {new : List ℕ} → Left new n.path (part s r.tail) → n.path + length (part s r.tail) ≤ length new
  tail_room w = p.last_room w

  pub tail_put : {new new' : List ℕ} {k : ℕ} → Left new n.path (part s r.tail) → Put new new' n.path k (part s r.tail)
      → Put old new' 0 n.whole (laid base s r)
  tail_put {new} {new'} w q =
      let z = p.last w q in
      record { buffer = z.buffer; place = omega (arith, m.whole) }
