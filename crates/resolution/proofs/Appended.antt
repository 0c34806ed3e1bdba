-- A path in two parts is walked part by part. Assumes nothing.
use Prim.Native.Nat.{ℕ, ◌+◌}
use native.Mathlib.Omega.{arith}
use mathlib.Core.Path.{◌≡◌, refl, sym, ap}
use mathlib.Core.List.{List, [], ◌∷◌, ◌++◌, append_assoc}
use lib.ListN.{length, length-append}
use Rattle.resolution.specs.declared.Walk.{Walk}
use Rattle.resolution.specs.Walking.{gain, step, run, text}

pub run_append : (u v : List ℕ) (b : Walk) → run (u ++ v) b ≡ run u (run v b)
run_append [] v b = refl
run_append (c ∷ u) v b = ap (λ (x : Walk). step x c) (run_append u v b)

pub text_append : (u v : List ℕ) (b : Walk) → text (u ++ v) b ≡ text u (run v b) ++ text v b
text_append [] v b = refl
text_append (c ∷ u) v b =
    rw (run_append u v b, text_append u v b) (sym (append_assoc (gain (run u (run v b)) c) (text u (run v b)) (text v b)))

-- as many octets are kept as are added
pub kept_text : (w : List ℕ) (b : Walk) → (run w b).kept ≡ b.kept + length (text w b)
kept_text [] b = omega arith
kept_text (c ∷ w) b = rw (length-append (gain (run w b) c) (text w b)) (omega (arith, kept_text w b))
