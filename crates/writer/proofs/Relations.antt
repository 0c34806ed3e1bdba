-- Whether a link has relations: the runs of its first `rel`; and whether the links below number i all have.
use Prim.Native.Nat.{ℕ, ◌+◌, ◌<◌}
use native.Mathlib.Nat.{eq-or-lt_of_le}
use native.Mathlib.Omega.{arith}
use mathlib.Core.Path.{◌≡◌, refl, sym, ap, ◌∙◌}
use mathlib.Core.Logic.{⊎_elim}
use mathlib.Core.Bool.{Bool, true, false, not, true≢false, false≢true}
use mathlib.Core.List.{List, [], ◌∷◌}
use borrow.Author.Tests.{not-true, not-false}
use Rattle.std.specs.Prelude.{Some, None}
use Rattle.octets.specs.Text.{octets}
use Rattle.octets.specs.Editions.{further}
use Rattle.octets.specs.declared.editions.Edition.TheVariants.{Rfc5988}
use Rattle.tables.specs.Table.{Table}
use Rattle.tables.specs.Relation.{runs, runs_of, relations}
use Rattle.outcomes.specs.Write.{relations_at}
use Rattle.records.specs.Slots.{IsLink, to_link, to_param}
use Rattle.records.specs.declared.LinkRecord.{LinkRecord}
use Rattle.records.specs.declared.ParamParts.{ParamParts}
use Rattle.values.specs.Rest.{rest}
use Rattle.values.proofs.Values.{value_meant}
use Rattle.runs.specs.Runs.{is_none}
use Rattle.named.specs.First.{Listed, FirstCoded}
use Rattle.tables.proofs.InGood.{named_each}
use Rattle.named.proofs.ByName.{by_rel}
use Rattle.tables.specs.Good.{InText, GoodParam}
use Rattle.writer.specs.Related.{TellsRelated}

-- ---- a link by its record, whose first `rel` was looked for

module _ (s P : List ℕ) (l : LinkRecord) (h : Listed s P l) where
  pub no_rel : FirstCoded P l 1 None → false ≡ not (is_none (relations s (to_link P l)))
  unfolding relations
  no_rel e = sym (ap (λ o. not (is_none (runs_of s o))) (by_rel s P h ∙ e))

  module _ {p : ParamParts} (e : FirstCoded P l 1 (Some p)) where
    rel_good : GoodParam (further Rfc5988) s (to_param p)
    rel_good = named_each s (octets "rel") h.params (by_rel s P h ∙ e)

    pub rel_span : InText s p.value.from.0 p.value.to.0
    rel_span = rel_good.value_span

    -- that its value has a run is b
    pub at_rel : {b : Bool} → b ≡ not (is_none (runs (rest s p.value.to.0 p.value.from.0)))
        → b ≡ not (is_none (relations s (to_link P l)))
    unfolding relations
    at_rel q =
        q
        ∙ sym
        (ap (λ o. not (is_none (runs_of s o))) (by_rel s P h ∙ e)
        ∙ ap (λ v. not (is_none (runs v))) (value_meant rel_good))

-- ---- over the links

is_none_lem : (ws : List (List ℕ)) → is_none ws ≡ true → ws ≡ []
is_none_lem [] e = refl
is_none_lem (w ∷ ws) e = absurd (false≢true e)

is_some : (ws : List (List ℕ)) → is_none ws ≡ false → ws ≡ [] → ⊥
is_some [] e = λ _. true≢false e
is_some (w ∷ ws) e = λ q. true≢false (sym (ap is_none q) ∙ e)

-- the links below number i have relations
abbrev pub RelatedUpTo : Table → ℕ → Type 0
RelatedUpTo t i = (j : ℕ) → j < i → is_none (relations_at t j) ≡ false

-- that link number i, of the record r, has a relation is b
module _ (t : Table) {i : ℕ} {r : LinkRecord} (is : IsLink t.link_slots i r) {b : Bool}
    (told : b ≡ not (is_none (relations t.text (to_link t.param_slots r)))) where
  here : b ≡ not (is_none (relations_at t i))
  here = rw (is.from, is.to, is.first, is.count) at told

  pub one_more : RelatedUpTo t i → not b ≡ false → RelatedUpTo t (i + 1)
  one_more w e j l =
      ⊎_elim (λ q. rw q (not-true _ (sym here ∙ not-false _ e))) (w j) (eq-or-lt_of_le {n = j} {m = i} (omega arith))

  pub one_unrelated : i < t.link_count → not b ≡ true → TellsRelated t false
  one_unrelated l e =
      record {
        related = λ q. absurd (false≢true q);
        unrelated = λ _. (i, l, is_none_lem (relations_at t i) (not-false _ (sym here ∙ not-true _ e)));
      }

pub every_related : {t : Table} → ((j : ℕ) → j < t.link_count → is_none (relations_at t j) ≡ false) → TellsRelated t true
every_related {t} h =
    record { related = λ _ j l. is_some (relations_at t j) (h j l); unrelated = λ q. absurd (true≢false q) }
