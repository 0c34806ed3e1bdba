-- The loop passes the links; every buffer keeps its length.
use Prim.Native.Nat.{◌-◌}
use native.Mathlib.Omega.{arith}
use lib.ListN.{length-take}
use Rattle.kinds.proofs.Counted.{from_first}
use Rattle.resolve_listing.proofs.put_links.Goals as goal

pub put_link-n-requires : goal.put_link-n-requires
put_link-n-requires c =
    record {
      target_held =
          rw (from_first c.first-first.ensures c.plus-link.ensures) (c.requires.targets_held c.loop-i.i c.loop-i-test.true);
      context_in_bounds = omega (arith, c.requires.context_in_bounds, c.loop-i.invariant);
    }

pub slice_bounds-write_all-end-in-loop-i : goal.slice_bounds-write_all-end-in-loop-i
slice_bounds-write_all-end-in-loop-i c =
    simp length-take (omega (arith, c.put_link-n.ensures.upper_bound))
