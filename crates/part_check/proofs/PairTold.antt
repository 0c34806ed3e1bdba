-- Whether a pair stands at a place, told by the octet behind the backslash.
use Prim.Native.Nat.{ℕ, suc, ◌+◌, ◌≤◌}
use native.Mathlib.Omega.{arith}
use native.Mathlib.Numerals.{add-one}
use mathlib.Core.Path.{◌≡◌, sym, ◌∙◌}
use mathlib.Core.Bool.{Bool, false≢true}
use mathlib.Core.List.{List}
use lib.ListN.{length, get_or}
use Rattle.octets.specs.Sets.{is_escapable}
use Rattle.part_check.specs.Decides.{Decides}
use Rattle.part_check.specs.Pairs.{PairAt}

pub pair_told : (s : List ℕ) {i e : ℕ} {b : Bool} → e ≤ length s → get_or s i 0 ≡ 92 → suc (suc i) ≤ e →
    b ≡ is_escapable (get_or s (i + 1) 0) → Decides b (PairAt s i e)
pair_told s {i} h q l u =
    record {
      holds = λ w.
          record {
            backslash = record { inside = omega arith; is = q };
            next = record { inside = omega arith; is = rw (add-one i) at (sym u ∙ w) };
            room = l;
          };
      fails = λ w x. false≢true (sym w ∙ u ∙ rw (add-one i) x.next.is);
    }
