-- How a number up to 255 goes on is told by a small number. Assumes nothing.
use Prim.Native.Nat.{ℕ, ◌≤◌}
use native.Mathlib.Omega.{arith}
use mathlib.Core.Bool.{Bool, true, false, cond}
use lib.Dec.{eqb}
use Rattle.references.specs.Octets.{Octets, DIGIT, from_0_to_4, from_0_to_5, digit_5, from_1_to_9, digit_1, digit_2}
use Rattle.reference_steps.specs.Machine.{number}

pub at_most : (b : Bool) {x y n : ℕ} → x ≤ n → y ≤ n → cond b x y ≤ n
at_most true h k = h
at_most false h k = k

pub number_small : (is : Octets → Bool) (t : ℕ) → number is t ≤ 5
number_small is t =
    at_most (is DIGIT)
    (at_most (eqb t 0)
    (at_most (is from_1_to_9) (at_most (is digit_1) (omega arith) (at_most (is digit_2) (omega arith) (omega arith))) (omega arith))
    (at_most (eqb t 2) (omega arith)
    (at_most (eqb t 3) (at_most (is from_0_to_5) (omega arith) (omega arith))
    (at_most (eqb t 4) (omega arith)
    (at_most (eqb t 5) (at_most (is from_0_to_4) (omega arith) (at_most (is digit_5) (omega arith) (omega arith))) (omega arith))))))
    (omega arith)
