-- Where octets lead: one behind another, a run that leaves the phase, a pair inside quotes, and a target's octets.
use Prim.Native.Nat.{ℕ, suc, ◌+◌, ◌≤◌, ◌<◌}
use native.Mathlib.Omega.{arith}
use mathlib.Core.Path.{◌≡◌, refl, sym, subst, ◌∙◌}
use mathlib.Core.Bool.{Bool, true, false}
use mathlib.Core.List.{List, ◌∷◌}
use lib.Dec.{eqb}
use lib.ListN.{length, get_or}
use lib.Seq.{slice, slice-cons, slice_empty}
use Rattle.octets.specs.Sets.{is_blank, is_token, is_target, is_plain, is_escapable}
use Rattle.reference_steps.specs.Machine as judge
use Rattle.grammar.specs.Grammar.{Extra, Admissible, At, In, Run, run_end, run_more}
use Rattle.grammar.proofs.Classes.{plain_not_quote, plain_not_backslash}
use Rattle.phases.specs.declared.spot.Spot.{Spot}
use Rattle.phases.specs.Steps.{step_in}
use Rattle.phases.specs.Spots.{spot, flat, is_open, behind_target, onward, Live, Leads, here, further}
use Rattle.phases.proofs.Steps.{
  gap_step,
  target_step,
  link_end_step,
  semi_step,
  name_step,
  name_end_step,
  equals_step,
  bare_step,
  on_after,
  on_named,
  quote_step,
  on_escape,
}

-- a phase outside targets, in which reading may go on
pub record Outside (p : ℕ) : Type 0 where
  pub live : Live (flat p)
  pub closed : is_open p ≡ false
  pub other : eqb p 1 ≡ false

-- the octets of the set f leave such a phase
pub record Leaves (extra : Extra) (f : ℕ → Bool) (p : ℕ) : Type 0 where
  pub outside : Outside p
  pub leaves : (c : ℕ) → f c ≡ true → step_in extra p c ≡ p

-- each phase that has a run
gap_outside : Outside 0
gap_outside =
    record { live = record { not_stuck = λ e. omega arith; not_unfit = λ e. omega arith }; closed = refl; other = refl }

after_outside : Outside 4
after_outside =
    record { live = record { not_stuck = λ e. omega arith; not_unfit = λ e. omega arith }; closed = refl; other = refl }

semi_outside : Outside 5
semi_outside =
    record { live = record { not_stuck = λ e. omega arith; not_unfit = λ e. omega arith }; closed = refl; other = refl }

named_outside : Outside 7
named_outside =
    record { live = record { not_stuck = λ e. omega arith; not_unfit = λ e. omega arith }; closed = refl; other = refl }

equals_outside : Outside 8
equals_outside =
    record { live = record { not_stuck = λ e. omega arith; not_unfit = λ e. omega arith }; closed = refl; other = refl }

name_outside : Outside 6
name_outside =
    record { live = record { not_stuck = λ e. omega arith; not_unfit = λ e. omega arith }; closed = refl; other = refl }

bare_outside : Outside 9
bare_outside =
    record { live = record { not_stuck = λ e. omega arith; not_unfit = λ e. omega arith }; closed = refl; other = refl }

quote_outside : Outside 10
quote_outside =
    record { live = record { not_stuck = λ e. omega arith; not_unfit = λ e. omega arith }; closed = refl; other = refl }

escape_outside : Outside 11
escape_outside =
    record { live = record { not_stuck = λ e. omega arith; not_unfit = λ e. omega arith }; closed = refl; other = refl }

pub blank_gap : {extra : Extra} → Leaves extra is_blank 0
blank_gap = record { outside = gap_outside; leaves = λ c e. gap_step _ c ∙ (rw e refl) }

pub blank_after : {extra : Extra} → Leaves extra is_blank 4
blank_after = record { outside = after_outside; leaves = λ c e. on_after _ c ∙ link_end_step 4 c ∙ (rw e refl) }

pub blank_semi : {extra : Extra} → Leaves extra is_blank 5
blank_semi = record { outside = semi_outside; leaves = λ c e. semi_step _ c ∙ (rw e refl) }

pub blank_named : {extra : Extra} → Leaves extra is_blank 7
blank_named = record { outside = named_outside; leaves = λ c e. on_named _ c ∙ name_end_step c ∙ (rw e refl) }

pub blank_equals : {extra : Extra} → Leaves extra is_blank 8
blank_equals = record { outside = equals_outside; leaves = λ c e. equals_step _ c ∙ (rw e refl) }

pub token_name : {extra : Extra} → Leaves extra is_token 6
token_name = record { outside = name_outside; leaves = λ c e. name_step _ c ∙ (rw e refl) }

pub token_bare : {extra : Extra} → Admissible extra → Leaves extra is_token 9
token_bare a = record { outside = bare_outside; leaves = λ c e. bare_step _ a c ∙ (rw e refl) }

pub plain_quote : {extra : Extra} → Leaves extra is_plain 10
plain_quote =
    record {
      outside = quote_outside;
      leaves = λ c e. quote_step _ c ∙ (rw (plain_not_quote c e, plain_not_backslash c e, e) refl);
    }

on_backslash : (extra : Extra) → step_in extra 10 92 ≡ 11
on_backslash extra = quote_step extra 92

on_escapable : (extra : Extra) (c : ℕ) → is_escapable c ≡ true → step_in extra 11 c ≡ 10
on_escapable extra c e = on_escape extra c ∙ (rw e refl)

run_forward : {s : List ℕ} {f : ℕ → Bool} {i j : ℕ} → Run s f i j → i ≤ j
run_forward run_end = omega arith
run_forward (run_more c r) = omega (arith, run_forward r)

-- an octet that leaves such a phase leaves the spot
flat_stays : (extra : Extra) (p q a c : ℕ) → is_open p ≡ false → step_in extra p c ≡ q → eqb q 1 ≡ false
    → onward extra (flat p) a c ≡ flat q
unfolding onward
flat_stays extra p q a c o e n = rw (o, e, n)

module _ {extra : Extra} {s : List ℕ} {base : ℕ} where
  -- one way behind another
  pub leads_on : {x y : Spot} {a i : ℕ} {z : Spot} {k : ℕ} → Leads extra s base x a y i → Leads extra s base y i z k → Leads extra s base x a z k
  leads_on l here = l
  leads_on l (further m h e a) = further (leads_on l m) h e a

  -- one octet
  pub leads_one : {x y : Spot} {i : ℕ} → i < length s → onward extra x (base + suc i) (get_or s i 0) ≡ y → Live y
      → Leads extra s base x i y (suc i)
  leads_one h e a = further here h e a

  -- outside targets
  flat_one : {p q i : ℕ} → is_open p ≡ false → i < length s → step_in extra p (get_or s i 0) ≡ q → Outside q
      → Leads extra s base (flat p) i (flat q) (suc i)
  flat_one {p} {q} {i} o h e x = leads_one h (flat_stays extra p q (base + suc i) (get_or s i 0) o e x.other) x.live

  pub run_leads : {f : ℕ → Bool} {p a e : ℕ} → Leaves extra f p → Run s f a e → Leads extra s base (flat p) a (flat p) e
  run_leads x run_end = here
  run_leads x (run_more c r) =
      leads_on (flat_one x.outside.closed c.inside (x.leaves _ c.is) x.outside) (run_leads x r)

  -- a pair inside quotes
  pub pair_leads : {a : ℕ} → At s a 92 → In s is_escapable (suc a) → Leads extra s base (flat 10) a (flat 10) (suc (suc a))
  pair_leads {a} b x =
      leads_on (flat_one refl b.inside (rw b.is (on_backslash extra)) escape_outside)
      (flat_one refl x.inside (on_escapable extra _ x.is) quote_outside)

  -- a target's octets, judged
  pub target_leads : {a e : ℕ} (t q : ℕ) → e ≤ length s → Run s is_target a e
      → Leads extra s base (spot 1 t q) a (spot 1 t (judge.run q (slice a e s))) e
  unfolding onward behind_target
  target_leads {a} t q h run_end = subst (λ (u : List ℕ). Leads extra s base (spot 1 t q) a (spot 1 t (judge.run q u)) a) (sym (slice_empty a s)) here
  target_leads {a} {e} t q h (run_more c r) =
      let n : step_in extra 1 (get_or s a 0) ≡ 1 = target_step extra (get_or s a 0) ∙ (rw c.is refl) in
      let first : slice a e s ≡ get_or s a 0 ∷ slice (suc a) e s = slice-cons a e s 0 (run_forward r) h in
      subst (λ (u : List ℕ). Leads extra s base (spot 1 t q) a (spot 1 t (judge.run q u)) e) (sym first)
      (leads_on (leads_one c.inside (rw n) (record { not_stuck = λ z. omega arith; not_unfit = λ z. omega arith }))
      (target_leads t (judge.step q (get_or s a 0)) h r))
