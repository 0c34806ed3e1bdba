-- What judging a span says of it as a target.
use Prim.Native.Nat.{ℕ}
use mathlib.Core.Path.{◌≡◌, sym, ◌∙◌}
use mathlib.Core.Bool.{Bool, false≢true}
use mathlib.Core.List.{List}
use lib.Seq.{slice}
use Rattle.reference_steps.specs.Machine.{run, accepts}
use Rattle.reference_steps.proofs.Exact.{steps_exact}
use Rattle.tables.specs.Good.{InText}
use Rattle.tables.proofs.ReferenceText.{reference_target}
use Rattle.part_check.specs.Decides.{Decides}
use Rattle.table_check.specs.Links.{GoodTarget}

pub judged : (s : List ℕ) {a e : ℕ} {b : Bool} → InText s a e → b ≡ accepts (run 0 (slice a e s)) → Decides b (GoodTarget s a e)
judged s {a} {e} h q =
    record {
      holds =
          λ y.
          let r = steps_exact.reference (slice a e s) (sym q ∙ y) in
          record { span = h; target = reference_target s a e h.ordered h.inside r; reference = r };
      fails = λ n g. false≢true (sym n ∙ q ∙ steps_exact.accepted (slice a e s) g.reference);
    }
