-- A link's context, once its parameters have been looked through, and the part that it is.
use Prim.Native.Nat.{ℕ, ◌+◌, ◌-◌, ◌≤◌, ◌<◌}
use native.Mathlib.Nat.{add-zero, add_comm}
use denote.Ref.{Bor}
use mathlib.Core.Path.{◌≡◌, sym, ap, subst, ◌∙◌}
use mathlib.Core.List.{List}
use lib.ListN.{length, take, drop}
use Rattle.std.specs.Prelude.{Option, Some, None, Result, Ok, Err}
use lib.Seq.{slice}
use Rattle.octets.specs.declared.editions.Edition.TheVariants.{Rfc5988}
use Rattle.octets.proofs.Laws.{slice_take_drop}
use Rattle.octets.specs.Text.{octets}
use Rattle.kinds.specs.declared.Span.{Span}
use Rattle.records.specs.Slots.{IsLink}
use Rattle.records.specs.declared.LinkRecord.{LinkRecord}
use Rattle.records.specs.declared.ParamParts.{ParamParts}
use Rattle.tables.specs.Table.{Table}
use Rattle.tables.specs.Relation.{named}
use Rattle.outcomes.specs.Usable.{Usable}
use Rattle.outcomes.specs.Context.{context_octets, anchor, Context, no_such_link, anchored, unanchored}
use Rattle.table_check.specs.State.{UsableIn}
use Rattle.table_check.proofs.EntryOutcomes.{state_usable}
use Rattle.answers.specs.Context.{context_out}
use Rattle.answers.specs.declared.Refusal.TheVariants.{NoSuchLink}
use Rattle.answers.specs.declared.Refusal.{Refusal}
use Rattle.answers.specs.declared.context_answer.Context as told
use Rattle.answers.specs.declared.context_answer.Context.TheVariants.{Anchored, Base}
use Rattle.named.specs.First.{Listed, FirstCoded, found}
use Rattle.tables.proofs.InGood.{good_link, named_each}
use Rattle.named.proofs.ByName.{by_anchor}
use Rattle.named.proofs.Looking.{listed, own_params}
use Rattle.context.specs.Part.{Within, IsAnchor, IsContext, begins_at, HandsBack}

-- the link's record is r, and a answers what was found among its parameters
module _ {t : Table} {i : ℕ} (u : Usable Rfc5988 t) (l : i < t.link_count) {r : LinkRecord} (is : IsLink t.link_slots i r) where
  pub listed_here : Listed t.text t.param_slots r
  listed_here = listed u.good l is

  module _ (a : Option ParamParts) (first : FirstCoded t.param_slots r 2 a) where
    pub is_found : anchor t i ≡ found a
    is_found =
        ap (named t.text (octets "anchor")) (own_params t.param_slots is)
        ∙ by_anchor t.text t.param_slots listed_here ∙ first

    pub is_anchored : {p : ParamParts} → a ≡ Some p → IsAnchor t i (Anchored p.value)
    is_anchored e =
        record {
          outcome = λ base. anchored l (is_found ∙ ap found e);
          within = (named_each t.text (octets "anchor") (good_link u.good l).params (is_found ∙ ap found e)).value_span;
        }

    pub is_base : a ≡ None → IsAnchor t i Base
    is_base e = record { outcome = λ base. unanchored l (is_found ∙ ap found e); within = tt }

-- on a table that may be used in the edition with the number n
module _ {n : ℕ} {t : Table} {i : ℕ} (u : UsableIn n t) where
  pub is_there : {a : told.Context} → IsAnchor t i a → IsContext n t i (Ok a)
  is_there h = record { outcome = λ base. state_usable u (h.outcome base); within = h.within }

  pub not_there : t.link_count ≤ i → IsContext n t i (Err NoSuchLink)
  not_there l = record { outcome = λ base. state_usable u (no_such_link l); within = tt }

-- the answer was told apart as x
module _ {n : ℕ} {t : Table} {i : ℕ} {a x : Result told.Context Refusal} (h : IsContext n t i a) (e : a ≡ x) where
  pub within : Within t.text x
  within = subst (Within t.text) e h.within

  pub told_outcome : (base : List ℕ) → Context n t base i (context_out (length base) x)
  told_outcome base = subst (λ y. Context n t base i (context_out (length base) y)) e (h.outcome base)

  pub hands : (text base : Bor (List ℕ)) {r : Bor (List ℕ)} → r.now ≡ context_octets t.text base.now (context_out (length base.now) x)
      → r.ref_ptr ≡ begins_at text base (context_out (length base.now) x) → HandsBack n t i text base r
  hands text base q p =
      record {
        out = context_out (length base.now) x;
        outcome = told_outcome base.now;
        octets = q;
        place = p;
      }

-- the part of the text, as the code takes it
pub text_part : {n : ℕ} {t : Table} {i : ℕ} {a : Result told.Context Refusal} {p : Span} → IsContext n t i a → a ≡ Ok (Anchored p)
    → take (p.to.0 - p.from.0) (drop p.from.0 t.text) ≡ slice p.from.0 p.to.0 t.text
text_part {t} {p = p} h e = sym (slice_take_drop p.from.0 p.to.0 t.text (within h e).ordered)

-- k octets behind the text's beginning
pub in_text : (text : Bor (List ℕ)) (k : ℕ) → ◌≡◌ {A = ℕ × ℕ} (text.ref_ptr.0, k + text.ref_ptr.1) (text.ref_ptr.0, text.ref_ptr.1 + k)
in_text text k = ap (λ (n : ℕ). (text.ref_ptr.0, n)) (add_comm k text.ref_ptr.1)

-- the base's beginning
pub at_base : (base : Bor (List ℕ)) → base.ref_ptr ≡ (base.ref_ptr.0, base.ref_ptr.1 + 0)
at_base base = ap (λ (k : ℕ). (base.ref_ptr.0, k)) (sym (add-zero base.ref_ptr.1))
