-- The text is cut where its last octet is LF, and not otherwise.
use Prim.Native.Nat.{suc, ◌-◌}
use native.Mathlib.Omega.{arith}
use mathlib.Core.Logic.{⊎_elim}
use mathlib.Core.Path.{◌≡◌, refl}
use lib.ListN.{length, length-take}
use Rattle.lines.proofs.FinalLf.{lf_cut, no_lf, no_octets}
use Rattle.lines.proofs.without_final_lf.Goals as goal
use Rattle.lines.proofs.without_final_lf.Goals.{else-n-gt0-via-then-n-gt0+else-s-n-eq10, else-n-gt0-via-else-n-gt0}

pub slice_bounds-result-length : goal.slice_bounds-result-length
slice_bounds-result-length c = simp length-take (omega arith)

pub returns-then-s-n-eq10 : goal.returns-then-s-n-eq10
returns-then-s-n-eq10 c =
    let s = c.args.s.now in
    let some : length s ≡ suc (length s - 1) = omega arith in
    record { octets = lf_cut s (length s - 1) some c.if-s-n-eq10.true-raw; place = refl }

pub returns : goal.returns
returns c =
    let s = c.args.s.now in
    record {
      octets =
          elim c.else-n-gt0.branch [
            | else-n-gt0-via-then-n-gt0+else-s-n-eq10 w ↦
                let some : length s ≡ suc (length s - 1) = omega (arith, w.if-n-gt0.true) in
                no_lf s (length s - 1) some w.if-s-n-eq10.false-raw
            | else-n-gt0-via-else-n-gt0 w ↦ no_octets s (omega (arith, w.if-n-gt0.false))
          ];
      place = refl;
    }
