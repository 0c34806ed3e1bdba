use native.Mathlib.Omega.{arith}
use mathlib.Core.Path.{ap, ◌∙◌}
use Rattle.resolution.specs.Walking.{run}
use Rattle.resolution.specs.declared.Walk.{Walk}
use Rattle.routes.specs.Laid.{part}
use Rattle.routes.proofs.Laying.{whole_run, own_kept_small, own_pending_small}
use Rattle.routes.proofs.left_of_path.Goals as goal

pub walk-requires : goal.walk-requires
walk-requires c =
    let asked = c.requires in
    let given = c.args in
    let k = own_kept_small given.base.now given.s.now given.r asked.0 asked.2 in
    let q = own_pending_small given.base.now given.s.now given.r asked.0 asked.2 in
    let e = c.walk-own.ensures in
    record {
      in_text = (asked.0.folder, asked.1);
      kept_bound = (omega (arith, k, ap (λ (t : Walk). t.kept) e), omega (arith, q, ap (λ (t : Walk). t.pending) e));
    }

pub returns : goal.returns
returns c =
    let asked = c.requires in
    let given = c.args in
    c.walk.ensures ∙ ap (run (part given.base.now given.r.folder)) c.walk-own.ensures
    ∙ whole_run given.base.now given.s.now given.r asked.0
