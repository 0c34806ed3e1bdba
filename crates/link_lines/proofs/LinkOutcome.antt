-- What the two entries answer, taken together: how a link is resolved. Assumes nothing.
use Prim.Native.Nat.{ℕ, ◌-◌}
use mathlib.Core.Path.{◌≡◌, sym, subst}
use mathlib.Core.List.{List}
use lib.ListN.{length, take, drop}
use Rattle.std.specs.Prelude.{Result, Ok, Err}
use Rattle.octets.proofs.Laws.{slice_take_drop}
use Rattle.tables.specs.Table.{Table}
use Rattle.records.specs.declared.LinkRecord.{LinkRecord}
use Rattle.records.specs.Slots.{IsLink}
use Rattle.outcomes.specs.Copy.{CopyOut, holding}
use Rattle.outcomes.specs.Resolve.{Resolve}
use Rattle.outcomes.specs.ResolvedContext.{ResolvedContext}
use Rattle.outcomes.proofs.Refusing.{refusals}
use Rattle.answers.specs.Length.{length_numbers, length_out}
use Rattle.answers.specs.declared.Refusal.{Refusal}
use Rattle.link_lines.specs.Held.{TargetHeld}
use Rattle.link_lines.specs.Link.{target_of, over, LinkOn, target_refused, context_refused, both}
use Rattle.link_lines.proofs.Written.{wrote, left, resolve_held, context_held}

-- l is link record number i of the table t, and its target stands in the text
module _
    (n : ℕ)
    (t : Table)
    (base : List ℕ)
    (i : ℕ)
    (T C : List ℕ)
    (held : TargetHeld t.text t.link_slots i)
    {l : LinkRecord}
    (is : IsLink t.link_slots i l)
  where
    -- the octets of its part, resolved
    abbrev Target : CopyOut → Type 0
    Target = Resolve (take (l.target.to.0 - l.target.from.0) (drop l.target.from.0 t.text)) base T

    -- are the link's target
    of_link : {o : CopyOut} → Target o → Resolve (target_of t i) base T o
    of_link {o} x =
        subst (λ (w : List ℕ). Resolve w base T o) (sym (slice_take_drop _ _ t.text held.span.ordered)) (rw (is.from, is.to) at x)

    module _ {T' : List ℕ} {r : Result ℕ Refusal} (x : Target (length_out (length_numbers r) T')) where
      -- the target is refused
      pub no_target : {why : Refusal} → r ≡ Err why → LinkOn n t base i T C (Err why) T' C
      no_target e =
          let b = left (refusals.resolve (target_of t i) base T) (of_link x) e in
          rw b.1 (target_refused b.0)

      module _ {C' : List ℕ} {s : Result ℕ Refusal} {k : ℕ} (e : r ≡ Ok k)
          (y : ResolvedContext n t base i C (length_out (length_numbers s) C')) where
        -- it is written, and the context is refused
        pub no_context : {why : Refusal} → s ≡ Err why → LinkOn n t base i T C (Err why) T' C'
        no_context f =
            let v = wrote (resolve_held (target_of t i) base T) (of_link x) e in
            let b = left (refusals.resolved_context n t base i C) y f in
            rw (v.3, b.1) (context_refused v.0 v.1 b.0)

        -- both are written
        pub both_written : {m : ℕ} → s ≡ Ok m → LinkOn n t base i T C (Ok (k, m)) T' C'
        both_written {m} f =
            let v = wrote (resolve_held (target_of t i) base T) (of_link x) e in
            let w = wrote (context_held n t base i C) y f in
            holding_both v.0 w.0 v.2 v.3 w.2 w.3 v.1 w.1
          where
            holding_both : (v w : List ℕ) → k ≡ length v → T' ≡ over v T → m ≡ length w → C' ≡ over w C
                → Resolve (target_of t i) base T (holding T v) → ResolvedContext n t base i C (holding C w)
                → LinkOn n t base i T C (Ok (k, m)) T' C'
            holding_both v w a b c d p q = rw (a, b, c, d) (both v w p q)
