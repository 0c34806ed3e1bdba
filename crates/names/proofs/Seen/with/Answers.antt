-- The mark is a bit below 2 ^ 32, so that the shift cuts nothing off.
use Prim.Native.Nat.{ℕ, ◌*◌, ◌%◌, ◌^◌, ◌<◌}
use native.Mathlib.Omega.{arith}
use mathlib.Core.Path.{◌≡◌, refl}
use lib.Dec.{eqb}
use borrow.Author.Tests.{eqb-true}
use Rattle.octets.proofs.Octets.{every_at}
use Rattle.names.specs.Remembers.{with_code}
use Rattle.names.proofs.Seen.with.Goals as goal

kept_whole : (k : ℕ) → k < 32 → 1 * 2 ^ k % 4294967296 ≡ 2 ^ k
kept_whole k h =
    eqb-true (1 * 2 ^ k % 4294967296) (2 ^ k) (every_at (λ j. eqb (1 * 2 ^ j % 4294967296) (2 ^ j)) 32 refl k h)

pub returns : goal.returns
unfolding with_code
returns c = rw (kept_whole (c.args.code % 32) (omega arith))
