-- The reference's own path goes before the place where it ends, and the folder before that.
use native.Mathlib.Omega.{arith}
use mathlib.Core.Path.{ap, ◌∙◌}
use Prim.Native.Nat.{◌-◌}
use lib.ListN.{length}
use lib.Seq.{length-sets}
use Rattle.resolution.specs.Walking.{at_end, text}
use Rattle.resolution.specs.declared.Walk.{Walk}
use Rattle.routes.specs.Laid.{part}
use Rattle.routes.proofs.Laying.{own_kept_small, own_pending_small, path_length, room_before, both_written}
use Rattle.routes.proofs.put_path.Goals as goal

pub write-own-requires : goal.write-own-requires
write-own-requires c =
    let given = c.args in
    let n = path_length given.base.now given.s.now given.r c.requires.lies.0 in
    record {
      in_text = (c.requires.lies.0.own, c.requires.lies.2);
      kept_bound = (omega arith, omega arith);
      begun_bound = (omega (arith, n, c.requires.r_len_bound.0), c.requires.r_len_bound.1);
    }

pub write-requires : goal.write-requires
write-requires c =
    let write' = c.write-own in
    let given = c.args in
    let base = given.base.now in
    let s = given.s.now in
    let r = given.r in
    let w = write'.ensures in
    let k = own_kept_small base s r c.requires.lies.0 c.requires.lies.2 in
    let q = own_pending_small base s r c.requires.lies.0 c.requires.lies.2 in
    let e = w.state in
    let n = ap length w.buffer ∙ length-sets given.out.now (given.end.0 - write'.result.kept) (text (part s r.own) at_end) in record {
      in_text = (c.requires.lies.0.folder, c.requires.lies.1);
      kept_bound = (omega (arith, k, ap (λ (t : Walk). t.kept) e), omega (arith, q, ap (λ (t : Walk). t.pending) e));
      begun_bound = (room_before base s r c.requires.lies.0 c.requires.r_len_bound.0 e, omega (arith, n, c.requires.r_len_bound.1));
    }

pub returns : goal.returns
returns c =
    let write2' = c.write in
    let write' = c.write-own in
    let given = c.args in
    both_written given.base.now given.s.now given.r c.requires.lies.0 c.requires.r_len_bound.0 write'.ensures write2'.ensures
