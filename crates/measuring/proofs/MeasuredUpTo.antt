-- The loops that measure a form as far as the limit: over parameters up to number p, and over links up to number i.
use Prim.Native.Nat.{ℕ, suc, ◌+◌, ◌-◌, ◌*◌, ◌≤◌, ◌<◌}
use native.Mathlib.Omega.{arith}
use native.Mathlib.Numerals.{add-one}
use mathlib.Core.Path.{◌≡◌, ap, ◌∙◌}
use mathlib.Core.Bool.{Bool, true, false}
use mathlib.Core.List.{List, ◌++◌}
use lib.Dec.{eqb}
use lib.ListN.{length, length-append}
use Rattle.octets.specs.Editions.{further}
use Rattle.octets.specs.declared.editions.Edition.TheVariants.{Rfc5988}
use Rattle.records.specs.Slots.{IsLink, to_link, to_param}
use Rattle.records.specs.declared.LinkRecord.{LinkRecord}
use Rattle.records.specs.declared.ParamParts.{ParamParts}
use Rattle.outcomes.specs.Number.{limit}
use Rattle.outcomes.specs.Usable.{Usable}
use Rattle.outcomes.specs.Write.{written_form}
use Rattle.tables.specs.Table.{Table, param_at}
use Rattle.tables.specs.Good.{GoodParam}
use Rattle.tables.specs.Written.{written_value}
use Rattle.tables.specs.Meaning.{value_of}
use Rattle.shape.specs.Forms.{param_form, params_left, link_form, parting, links_left, GoodRun}
use Rattle.shape.proofs.LeftToWrite.{params_end, params_next, whole_run, links_end, links_next, whole_form}
use Rattle.shape.proofs.GoodRecords.{target_span}
use Rattle.measuring.specs.Measured.{Covers, Bounds}
use Rattle.measuring.proofs.FormLengths.{param_length, link_length}

-- ---- over parameters, up to number `end`: of `total` octets, n are counted at number p

pub record ParamsMeasured (b : Bool) (s P : List ℕ) (total end n p : ℕ) : Type 0 where
  pub run : GoodRun s P p end
  pub short : length s ≤ limit
  pub whole : Covers b total (n + length (params_left s P end p))

module _ {b : Bool} {s P : List ℕ} {total end n p : ℕ} (w : ParamsMeasured b s P total end n p) where
  pub all_measured : end ≤ p → Bounds b total n
  all_measured l =
      let none = ap length (params_end s P l) in
      record {
        within = λ _. record { enough = omega (arith, w.whole.enough, none); same = λ e. omega (arith, w.whole.same e, none) };
        over = λ e h. omega (arith, w.whole.same e);
      }

  pub over_limit : limit < n → Bounds b total n
  over_limit l = record { within = λ h. absurd (omega arith); over = λ e h. omega (arith, w.whole.same e) }

  -- the parameter at p, and how many octets its name and its value take
  module _ (l : p < end) {r : ParamParts} (is : to_param r ≡ param_at P p) where
    pub good_here : GoodParam (further Rfc5988) s (to_param r)
    good_here = rw is (w.run.good p (omega arith) l)

    left : length (params_left s P end p) ≡ length (param_form s (to_param r)) + length (params_left s P end (suc p))
    left = ap length (params_next s P l is) ∙ length-append (param_form s (to_param r)) (params_left s P end (suc p))

    module _ {m q : ℕ} (g : m ≡ r.name.to.0 - r.name.from.0)
        (h : Covers b (length (written_value (value_of s (to_param r)))) q × (q ≤ limit + 2)) where
      -- it adds too little to wrap
      pub added : m + q + 3 ≤ 2 * limit + 5
      added = omega (arith, good_here.name_span.inside, g, h.1, w.short)

      pub measure_more : ParamsMeasured b s P total end (n + (m + q + 3)) (p + 1)
      measure_more =
          let one = param_length good_here in
          rw (add-one p)
          (record {
            run = record { ordered = l; room = w.run.room; good = λ j i k. w.run.good j (omega arith) k };
            short = w.short;
            whole =
                record {
                  enough = omega (arith, w.whole.enough, left, one, g, h.0.enough);
                  same = λ e. omega (arith, w.whole.same e, left, one, g, h.0.same e);
                };
          })

-- ---- over links: at number i, n octets are counted, or more than the limit

abbrev left_of : Table → ℕ → List ℕ
left_of t i = links_left t.text t.link_slots t.param_slots t.link_count i

pub record LinksMeasured (b : Bool) (t : Table) (n i : ℕ) : Type 0 where
  pub inside : i ≤ t.link_count
  pub within : n ≤ limit → Covers b (length (written_form t)) (n + length (left_of t i))
  pub over : b ≡ true → limit < n → limit < length (written_form t)

parting_bound : (first : Bool) → length (parting first) ≤ 2
parting_bound true = omega arith
parting_bound false = omega arith

pub form_begin : (b : Bool) (t : Table) → LinksMeasured b t 0 0
form_begin b t =
    let whole = ap length (whole_form t) in
    record {
      inside = omega arith;
      within = λ _. record { enough = omega (arith, whole); same = λ e. omega (arith, whole) };
      over = λ e h. absurd (omega arith);
    }

module _ {b : Bool} {t : Table} {n i : ℕ} (w : LinksMeasured b t n i) where
  pub form_end : t.link_count ≤ i → Bounds b (length (written_form t)) n
  form_end l =
      let none = ap length (links_end t.text t.link_slots t.param_slots t.link_count l) in
      record {
        within = λ h. record { enough = omega (arith, (w.within h).enough, none); same = λ e. omega (arith, (w.within h).same e, none) };
        over = w.over;
      }

  pub form_over : limit < n → Bounds b (length (written_form t)) n
  form_over l = record { within = λ h. absurd (omega arith); over = w.over }

  -- the link at i, parted from the one before it by x octets, with a target of y
  module _ (u : Usable Rfc5988 t) (l : i < t.link_count) {r : LinkRecord} (is : IsLink t.link_slots i r) {x y : ℕ}
      (part : x ≡ length (parting (eqb i 0))) (target : y ≡ r.target.to.0 - r.target.from.0) where
    -- it adds too little to wrap
    pub link_added : x + (y + 2) ≤ limit + 4
    link_added = omega (arith, part, target, parting_bound (eqb i 0), u.short, (target_span u.good l is).inside)

    form_left : length (left_of t i)
        ≡ length (parting (eqb i 0)) + (length (link_form t.text (to_link t.param_slots r)) + length (left_of t (suc i)))
    form_left =
        let one = link_form t.text (to_link t.param_slots r) in
        ap length (links_next t.text t.link_slots t.param_slots t.link_count l is)
        ∙ length-append (parting (eqb i 0)) (one ++ left_of t (suc i))
        ∙ ap (λ k. length (parting (eqb i 0)) + k) (length-append one (left_of t (suc i)))

    -- with the parameters, what is left gets less by as much
    link_left : length (left_of t i)
        ≡ x + (y + 2) + length (params_left t.text t.param_slots (r.first.0 + r.count) r.first.0) + length (left_of t (suc i))
    link_left =
        let params = ap length (whole_run t.text t.param_slots r.first.0 r.count) in
        let link = link_length t.text t.param_slots r (target_span u.good l is) in
        omega (arith, form_left, link, params, part, target)

    pub form_more : n ≤ limit → {m : ℕ}
        → Bounds b (n + x + (y + 2) + length (params_left t.text t.param_slots (r.first.0 + r.count) r.first.0)) m
        → LinksMeasured b t m (i + 1)
    form_more h {m} d =
        rw (add-one i)
        (record {
          inside = l;
          within =
              λ k.
              record {
                enough = omega (arith, (w.within h).enough, link_left, (d.within k).enough);
                same = λ e. omega (arith, (w.within h).same e, link_left, (d.within k).same e);
              };
          over = λ e k. omega (arith, (w.within h).same e, link_left, d.over e k);
        })
