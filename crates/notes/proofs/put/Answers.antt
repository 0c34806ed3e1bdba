-- One number at each turn.
use Prim.Native.Nat.{ℕ, ◌-◌}
use native.Mathlib.Omega.{arith}
use mathlib.Core.Path.{ap, ◌∙◌}
use mathlib.Core.List.{List, map}
use lib.Seq.{sets, take-length}
use Rattle.notes.specs.Noted.{low}
use Rattle.notes.proofs.Mapped.{none_put, all_put, slot, one_put}
use Rattle.notes.proofs.put.Goals as goal

pub loop-k-init : goal.loop-k-init
loop-k-init c = none_put (omega arith) c.requires

pub bounds-notes-at : goal.bounds-notes-at
bounds-notes-at c = slot c.loop-k.invariant c.loop-k-test.true

pub loop-k-preserved : goal.loop-k-preserved
loop-k-preserved c = one_put c.loop-k.invariant c.loop-k-test.true

pub shape_of-notes : goal.shape_of-notes
shape_of-notes c = c.loop-k.invariant.put.lengths

pub returns : goal.returns
returns c =
    let a = c.args in
    all_put c.loop-k.invariant c.loop-k-test.false
    ∙ ap (λ (ns : List ℕ). sets a.notes.now a.at (map low ns)) (take-length a.numbers.now)
