-- An entry that answers that it wrote left octets in its buffer, and one that refuses left the buffer as it was. Assumes nothing.
use Prim.Native.Nat.{ℕ}
use native.Mathlib.Omega.{arith}
use mathlib.Core.Path.{◌≡◌, refl, sym, ap, subst, ◌∙◌}
use mathlib.Core.Bool.{false≢true}
use mathlib.Core.List.{List}
use borrow.Author.Tests.{eq-eqb}
use lib.ListN.{length}
use Rattle.std.specs.Prelude.{Result, Ok, Err}
use Rattle.octets.specs.declared.editions.Edition.{Edition}
use Rattle.tables.specs.Table.{Table}
use Rattle.outcomes.specs.Number.{done}
use Rattle.outcomes.specs.InEdition.{unknown, known}
use Rattle.outcomes.specs.Usable.{long_text, not_good, refused, usable}
use Rattle.outcomes.specs.Copy.{CopyOut, untouched, holding}
use Rattle.outcomes.specs.Resolve as on_base
use Rattle.outcomes.specs.Resolve.{Fitted, Resolve}
use Rattle.outcomes.specs.ResolvedContext as on-table
use Rattle.outcomes.specs.ResolvedContext.{ContextOn, ContextIn, ResolvedContext}
use Rattle.outcomes.specs.Laws.{CopyKeeps}
use Rattle.answers.specs.Refusal.{refusal_number}
use Rattle.answers.specs.Length.{length_numbers, length_out}
use Rattle.answers.specs.declared.Refusal.{Refusal}
use Rattle.answers.proofs.Refusals.{no_refusal_is_done}
use Rattle.link_lines.specs.Link.{over}

-- with number 0, some octets are held
abbrev Held : List ℕ → CopyOut → Type 0
Held out o = o.number ≡ done → (v : List ℕ) × (o ≡ holding out v)

fitted : {out v : List ℕ} {o : CopyOut} → Fitted out v o → Held out o
fitted (on_base.too_long l) e = absurd (omega (arith, e))
fitted (on_base.no_room h l) e = absurd (omega (arith, e))
fitted {v = v} (on_base.fits h l) e = (v, refl)

pub resolve_held : (w base out : List ℕ) (o : CopyOut) → Resolve w base out o → Held out o
resolve_held w base out _ (on_base.too_long l) e = absurd (omega (arith, e))
resolve_held w base out _ (on_base.bad_base h k n) e = absurd (omega (arith, e))
resolve_held w base out _ (on_base.bad_reference h k u n) e = absurd (omega (arith, e))
resolve_held w base out _ (on_base.resolves h k u r f) e = fitted f e

context_on : {t : Table} {base : List ℕ} {i : ℕ} {out : List ℕ} {o : CopyOut} → ContextOn t base i out o → Held out o
context_on (on-table.no_such_link h) e = absurd (omega (arith, e))
context_on (on-table.bad_base h n) e = absurd (omega (arith, e))
context_on (on-table.bad_reference h u a n) e = absurd (omega (arith, e))
context_on (on-table.anchored h u a r f) e = fitted f e
context_on (on-table.unanchored h u a f) e = fitted f e

context_in : {t : Table} {base : List ℕ} {i : ℕ} {out : List ℕ} {k : Edition} {o : CopyOut} → ContextIn t base i out k o → Held out o
context_in (on-table.long_base l) e = absurd (omega (arith, e))
context_in (on-table.over_table h (refused (long_text l))) e = absurd (omega (arith, e))
context_in (on-table.over_table h (refused (not_good s n))) e = absurd (omega (arith, e))
context_in (on-table.over_table h (usable u x)) e = context_on x e

pub context_held : (n : ℕ) (t : Table) (base : List ℕ) (i : ℕ) (out : List ℕ) (o : CopyOut) → ResolvedContext n t base i out o
    → Held out o
context_held n t base i out _ (unknown z) e = absurd (omega (arith, e))
context_held n t base i out _ (known q x) e = context_in x e

-- Out is what an entry promises, into a buffer that held `out` and holds `new`
module _ {Out : CopyOut → Type 0} {out new : List ℕ} where
  -- it answers that it wrote n octets: they are v
  pub wrote : {r : Result ℕ Refusal} {n : ℕ} → ((o : CopyOut) → Out o → Held out o) → Out (length_out (length_numbers r) new) → r ≡ Ok n
      → (v : List ℕ) × Out (holding out v) × (n ≡ length v) × (new ≡ over v out)
  wrote {r} {n} held x e =
      let y = subst (λ (a : Result ℕ Refusal). Out (length_out (length_numbers a) new)) e x in
      let h = held _ y refl in
      (h.0, subst Out h.1 y, ap (λ (o : CopyOut). o.count) h.1, ap (λ (o : CopyOut). o.buffer) h.1)

  -- it refuses: the buffer is left
  pub left : {r : Result ℕ Refusal} {why : Refusal} → ((o : CopyOut) → Out o → CopyKeeps out o) → Out (length_out (length_numbers r) new)
      → r ≡ Err why → Out (untouched out (refusal_number why)) × (new ≡ out)
  left {r} {why} keeps x e =
      let y = subst (λ (a : Result ℕ Refusal). Out (length_out (length_numbers a) new)) e x in
      let same : new ≡ out =
      ((keeps _ y).refused (λ z. false≢true (sym (no_refusal_is_done why) ∙ eq-eqb (refusal_number why) done z))).1 in
      (subst (λ (b : List ℕ). Out (length_out (length_numbers (Err why)) b)) same y, same)
