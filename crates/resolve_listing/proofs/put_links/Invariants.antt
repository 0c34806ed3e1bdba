-- The loop passes the links; every buffer keeps its length.
use mathlib.Core.Path.{◌≡◌}
use lib.ListN.{length}
use Rattle.resolve_listing.proofs.put_links.Given as goal

abbrev pub invariant-loop-i : goal.invariant-loop-i
invariant-loop-i l =
    (length l.target ≡ length l.initial.target) × ((length l.context ≡ length l.initial.context) × (length l.line ≡ length l.initial.line))
