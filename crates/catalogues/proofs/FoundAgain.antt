-- Every pack of a catalogue is found by its own URI. Assumes nothing.
use Prim.Native.Nat.{ℕ, zero, suc}
use native.Mathlib.Omega.{arith}
use mathlib.Core.Path.{◌≡◌, refl, sym, ap, ◌∙◌}
use mathlib.Core.List.{List, [], ◌∷◌}
use mathlib.Core.Option.{some}
use Rattle.octets.proofs.Laws.{same_refl, same_false}
use Rattle.catalogues.specs.Packs.{Pack, Distinct, one_more}
use Rattle.catalogues.specs.Steps.{next, number_of, pack_at}
use Rattle.catalogues.specs.Laws.{FoundAgain}
use Rattle.catalogues.proofs.Packing.{each_at}

found : (ps : List Pack) → Distinct ps → (i : ℕ) (p : Pack) → pack_at ps i ≡ some p → number_of p.uri ps ≡ some i
found [] d i p e = let z : ◌≡◌ {A = ℕ} 0 1 = cc in absurd (omega arith)
found (q ∷ ps) d zero p e =
    let same_pack : q ≡ p = cc in
    rw (ap (λ (x : Pack). x.uri) (sym same_pack), same_refl q.uri) refl
found (q ∷ ps) (one_more a d) (suc i) p e =
    rw (same_false q.uri p.uri (λ u. each_at ps i a e (sym u))) (ap next (found ps d i p e))

pub found_again : FoundAgain
found_again room text ps c = found ps c.distinct
