-- Reading leaves a table whose targets stand in the text.
use Prim.Native.Nat.{ℕ, ◌*◌, ◌<◌}
use native.Mathlib.Omega.{arith}
use native.Mathlib.Nat.{zero-add}
use mathlib.Core.Path.{◌≡◌, refl, subst}
use mathlib.Core.List.{List}
use lib.ListN.{length, drop}
use Rattle.std.specs.Prelude.{Result, Ok}
use Rattle.octets.specs.Editions.{further}
use Rattle.grammar.specs.Records.{link_width, param_width, count_params}
use Rattle.tables.specs.Table.{Table, link_at}
use Rattle.tables.specs.Good.{Good, GoodLink}
use Rattle.tables.proofs.FromReading.{read_good}
use Rattle.tables.proofs.InGood.{each_link}
use Rattle.grammar.specs.Grammar.{Extra}
use Rattle.outcomes.specs.InEdition.{unknown, known}
use Rattle.outcomes.specs.Read.{ReadOut, Read, too_long, not_derived, no_link_room, no_param_room, reads}
use Rattle.kinds.specs.declared.Counts.{Counts}
use Rattle.answers.specs.Read.{read_numbers, read_out}
use Rattle.answers.specs.declared.read_answer.ReadError.{ReadError}
use Rattle.link_lines.specs.Held.{TargetHeld, TargetsHeld}

good_target : {extra : Extra} {t : Table} → Good extra t → (i : ℕ) → i < t.link_count → TargetHeld t.text t.link_slots i
good_target {extra} {t} g i h =
    let l : GoodLink extra t.text (link_at t.link_slots t.param_slots i) =
    subst (λ (k : ℕ). GoodLink extra t.text (link_at t.link_slots t.param_slots k)) (zero-add i)
    (each_link t.link_slots t.param_slots 0 t.link_count i g.links h) in
    record { room = omega (arith, g.link_room, h); span = l.target_span }

read_targets : {n : ℕ} {h L P : List ℕ} {o : ReadOut} → Read n h L P o → o.number ≡ 0 → TargetsHeld h o.link_slots o.links
read_targets (unknown z) e = absurd (omega (arith, e))
read_targets (known q (too_long a)) e = absurd (omega (arith, e))
read_targets (known q (not_derived a b)) e = absurd (omega (arith, e))
read_targets (known q (no_link_room a b c)) e = absurd (omega (arith, e))
read_targets (known q (no_param_room a b c d)) e = absurd (omega (arith, e))
read_targets {h = h} {L} {P} (known {e = k} q (reads {K = K} a b c d)) e =
    good_target (read_good (further k) h K (drop (link_width * length K) L) (drop (param_width * count_params K) P) b).good

-- reading's answer, known to be its table's counts
pub done_targets : {m : ℕ} {h L P L' P' : List ℕ} {r : Result Counts ReadError} {n : Counts} → Read m h L P (read_out (read_numbers r) L' P')
    → r ≡ Ok n → TargetsHeld h L' n.links
done_targets {m} {h} {L} {P} {L'} {P'} d e =
    read_targets (subst (λ (y : Result Counts ReadError). Read m h L P (read_out (read_numbers y) L' P')) e d) refl
