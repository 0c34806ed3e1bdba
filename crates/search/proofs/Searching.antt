-- The loops of the search: over a link's parameters for the one named `rel`, and over the runs of its value.
use Prim.Native.Nat.{ℕ, ◌+◌, ◌≤◌, ◌<◌}
use native.Mathlib.Nat.{eq-or-lt_of_le}
use native.Mathlib.Omega.{arith}
use mathlib.Core.Path.{◌≡◌, refl, sym, ap, ◌∙◌}
use mathlib.Core.Logic.{⊎_elim}
use mathlib.Core.Bool.{Bool, true, false}
use mathlib.Core.List.{List}
use mathlib.Core.Option.{Option, some}
use lib.ListN.{length}
use Rattle.octets.specs.Text.{octets}
use Rattle.octets.specs.Editions.{further}
use Rattle.octets.specs.declared.editions.Edition.TheVariants.{Rfc5988}
use Rattle.grammar.specs.Link.{Param}
use Rattle.tables.specs.Table.{Table, param_at, code_at, link_at}
use Rattle.tables.specs.Good.{GoodParam}
use Rattle.tables.specs.Relation.{named, runs, runs_of, relations, any_folded, has_relation}
use Rattle.tables.proofs.InGood.{good_param_at}
use Rattle.records.specs.Slots.{IsLink, to_param}
use Rattle.records.specs.declared.LinkRecord.{LinkRecord}
use Rattle.records.specs.declared.ParamParts.{ParamParts}
use Rattle.outcomes.specs.Usable.{Usable}
use Rattle.outcomes.specs.Search.{has}
use Rattle.values.specs.Rest.{rest}
use Rattle.values.proofs.Meant.{none_left}
use Rattle.values.proofs.Values.{value_meant}
use Rattle.runs.specs.Runs.{AtRun, NextRun, MatchRun}
use Rattle.runs.specs.declared.RunMatch.{RunMatch}
use Rattle.named.proofs.ByName.{by_rel}
use Rattle.named.proofs.Looking.{Looking, listed, own_params, begin, none_coded, leave, here, onward}

-- the value of the parameter, if there is one, has a run that compares equal to q
abbrev relates : List ℕ → List ℕ → Option Param → Bool
relates s q o = any_folded q (runs_of s o)

-- the first parameter of link number i that is named `rel`
abbrev rel_of : Table → ℕ → Option Param
rel_of t i = named t.text (octets "rel") (link_at t.link_slots t.param_slots i).params

-- a link has the relation if that parameter has it
has_rel : (t : Table) (q : List ℕ) (i : ℕ) → has t q i ≡ relates t.text q (rel_of t i)
unfolding has_relation relations
has_rel t q i = refl

-- ---- over the parameters of link number i, up to number `end`: the loop stands at number p, and looks for the code of `rel`

pub record AmongParams (t : Table) (q : List ℕ) (i end p : ℕ) : Type 0 where
  pub is_link : i < t.link_count
  pub looking : Looking (relates t.text q) t.param_slots 1 (rel_of t i) end p
  pub good : (j : ℕ) → p ≤ j → j < end → GoodParam (further Rfc5988) t.text (param_at t.param_slots j)

-- ---- over the runs of a value, up to place e: the loop stands at place k; that the value has a run equal to q is b

pub record AmongRuns (s q : List ℕ) (b : Bool) (e k : ℕ) : Type 0 where
  pub inside : k ≤ e
  pub text : e ≤ length s
  pub begins : k < e → AtRun (rest s e k)
  pub left : b ≡ any_folded q (runs (rest s e k))

module _ {s q : List ℕ} {b : Bool} {e k : ℕ} (w : AmongRuns s q b e k) where
  no_run : e ≤ k → b ≡ false
  unfolding runs
  no_run l = w.left ∙ rw (none_left s l)

  module _ {m : RunMatch} (r : MatchRun s e k q m) where
    pub matched : m.same ≡ true → b ≡ true
    matched y = w.left ∙ rw (r.first, sym r.matches ∙ y)

    pub next_one : {k' : ℕ} → m.same ≡ false → NextRun s e m.next.0 k' → AmongRuns s q b e k'
    next_one y n =
        record {
          inside = n.inside;
          text = w.text;
          begins = n.begins;
          left = w.left ∙ rw (r.first, sym r.matches ∙ y) (ap (any_folded q) n.same_runs);
        }

-- ---- both together

pub first_param : {t : Table} (q : List ℕ) {i : ℕ} {r : LinkRecord} → Usable Rfc5988 t → i < t.link_count → IsLink t.link_slots i r
    → AmongParams t q i (r.first.0 + r.count) r.first.0
first_param {t} q {r = r} u l is =
    let h = listed u.good l is in
    record {
      is_link = l;
      looking =
          rw (own_params t.param_slots is, by_rel t.text t.param_slots h)
          (begin (relates t.text q) t.param_slots 1 r.first.0 r.count h.room);
      good = λ j a b. good_param_at u.good l j (rw is.first at a) (rw (is.first, is.count) at b);
    }

module _ {t : Table} {q : List ℕ} {i end p : ℕ} (w : AmongParams t q i end p) where
  -- the parameter at p, before the end
  pub good_here : p < end → {r : ParamParts} → to_param r ≡ param_at t.param_slots p → GoodParam (further Rfc5988) t.text (to_param r)
  good_here l is = rw is (w.good p (omega arith) l)

  -- none was named `rel`
  pub none_related : end ≤ p → has t q i ≡ false
  none_related l = has_rel t q i ∙ none_coded w.looking l

  -- no run of its value was equal to q
  pub unrelated : {e k : ℕ} → AmongRuns t.text q (has t q i) e k → e ≤ k → AmongParams t q i end end
  unrelated a l =
      record {
        is_link = w.is_link;
        looking = leave w.looking (sym (has_rel t q i) ∙ no_run a l);
        good = λ j h k. absurd (omega arith);
      }

  -- the record at p, whose code is c
  module _ (l : p < end) {c : ℕ} (told : c ≡ code_at t.param_slots p) where
    pub next_param : (c ≡ 1 → ⊥) → AmongParams t q i end (p + 1)
    next_param e =
        record {
          is_link = w.is_link;
          looking = onward w.looking l told e;
          good = λ j h k. w.good j (omega arith) k;
        }

    pub first_run : {r : ParamParts} {k : ℕ} → to_param r ≡ param_at t.param_slots p → c ≡ 1 → NextRun t.text r.value.to.0 r.value.from.0 k
        → AmongRuns t.text q (has t q i) r.value.to.0 k
    first_run {r} is e n =
        let g = good_here l is in
        record {
          inside = n.inside;
          text = g.value_span.inside;
          begins = n.begins;
          left =
              has_rel t q i ∙ here w.looking l told e ∙ ap (relates t.text q) (ap some (sym is))
              ∙ ap (λ v. any_folded q (runs v)) (value_meant g)
              ∙ ap (any_folded q) n.same_runs;
        }

-- ---- over the links

-- one link more has not got it
pub one_more : {f : ℕ → Bool} {l : ℕ} → ((j : ℕ) → j < l → f j ≡ false) → f l ≡ false → (j : ℕ) → j < l + 1 → f j ≡ false
one_more {f} {l} h e j k = ⊎_elim (λ q. rw q e) (h j) (eq-or-lt_of_le {n = j} {m = l} (omega arith))
