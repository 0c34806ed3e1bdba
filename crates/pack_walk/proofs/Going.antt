-- A walk goes on by one step, or ends. Assumes nothing.
use Prim.Native.Nat.{ℕ, zero, suc, ◌+◌, ◌-◌, ◌≤◌, ◌<◌}
use native.Mathlib.Omega.{arith}
use mathlib.Core.Path.{◌≡◌, refl, sym, ap, subst, ◌∙◌}
use mathlib.Core.List.{List}
use lib.ListN.{length}
use Rattle.kinds.specs.declared.PackNumber.{PackNumber}
use Rattle.catalogues.specs.Packs.{Pack}
use Rattle.catalogues.specs.Steps.{Step, to, stop, step_from}
use Rattle.catalogues.specs.Walks.{Ended, ended_at, one_more_step, going_on, walk}
use Rattle.catalogues.specs.Outcome.{WalkOut, end_number, walked}
use Rattle.catalogues.proofs.StepEnds.{Taken, taken, step_taken}
use Rattle.answers.specs.Walk.{end_of, walk_numbers}
use Rattle.answers.specs.declared.Refusal.{Refusal}
use Rattle.answers.specs.declared.walk_answer.End.{End}
use Rattle.answers.specs.declared.walk_answer.End.TheVariants.{Arrived, NoLink, NoTarget, NoPack}
use Rattle.answers.specs.declared.walk_answer.Ended as answer
use Rattle.target_steps.specs.Stepped.{the_end, step_out}
use Rattle.stepping.specs.Known.{Known, KnownPacks, StepsFrom}
use Rattle.std.specs.Prelude.{Result, Ok, Err}
use Rattle.pack_walk.specs.Walked.{walk_out, behind, WalksOn, WalksFrom}

-- the numbers of the ends
end_same : (e : End) → end_of e ≡ end_number (the_end e)
end_same Arrived = refl
end_same NoLink = refl
end_same NoTarget = refl
end_same NoPack = refl

-- ended at a pack with no step more
ended : (e : End) (i k : ℕ) → ◌≡◌ {A = WalkOut} (record { number = 0; end = end_of e; pack = i; steps = k }) (walked (behind k (ended_at i (the_end e))))
ended e i k =
    let sum : k ≡ k + 0 = omega arith in
    ap (λ (x : ℕ). record { number = 0; end = x; pack = i; steps = k }) (end_same e)
    ∙ ap (λ (x : ℕ). record { number = 0; end = end_number (the_end e); pack = i; steps = x }) sum

-- a step leads to a pack of the catalogue
taken_below : {ps : List Pack} {j : ℕ} → Taken ps (to j) → j < length ps
taken_below (taken h) = h

module _ (s X : List ℕ) (m l p : ℕ) (q : List ℕ) (i : PackNumber) (k : ℕ) where
  pub no_steps : {n : ℕ} → n ≡ 0 → WalksOn s X m l p q n i.0 k (Ok (record { end = Arrived; pack = i; steps = k }))
  unfolding walk
  no_steps {n} z ps known =
      ended Arrived i.0 k ∙ ap (λ (j : ℕ). walked (behind k (walk ps q j i.0))) (sym z)

  -- the step that is answered
  module _ (r : Result PackNumber End) (f : StepsFrom s X m l p q i.0 r) where
    stepped : {x : Result PackNumber End} → r ≡ x → (ps : List Pack) → Known s X m l p ps → step_from ps q i.0 ≡ step_out x
    stepped e ps known = f ps known ∙ ap step_out e

    pub stops : (n : ℕ) → (n ≡ 0 → ⊥) → {e : End} → r ≡ Err e → WalksOn s X m l p q n i.0 k (Ok (record { end = e; pack = i; steps = k }))
    unfolding walk
    stops zero nz y ps known = absurd (nz refl)
    stops (suc n) nz {e} y ps known =
        ended e i.0 k
        ∙ ap (λ (x : Step). walked (behind k (going_on i.0 x (λ (j : ℕ). walk ps q n j)))) (sym (stepped y ps known))

    pub next_below : KnownPacks s X m l p → {j : PackNumber} → r ≡ Ok j → j.0 < m
    next_below (ps, known) {j} y =
        omega (arith, taken_below (subst (Taken ps) (stepped y ps known) (step_taken ps q i.0)), known.listed.count)

    pub goes : (n : ℕ) → (n ≡ 0 → ⊥) → {j : PackNumber} → r ≡ Ok j → (a : Result answer.Ended Refusal) → WalksOn s X m l p q (n - 1) j.0 (k + 1) a
        → WalksOn s X m l p q n i.0 k a
    unfolding walk
    goes zero nz y a w ps known = absurd (nz refl)
    goes (suc n) nz {j} y a w ps known =
        let less : suc n - 1 ≡ n = omega arith in
        let rest : walk_out (walk_numbers a) ≡ walked (behind (k + 1) (walk ps q n j.0)) =
        subst (λ (x : ℕ). walk_out (walk_numbers a) ≡ walked (behind (k + 1) (walk ps q x j.0))) less (w ps known) in
        let sum : k + 1 + (walk ps q n j.0).steps ≡ k + suc (walk ps q n j.0).steps = omega arith in
        rest
        ∙ ap (λ (x : ℕ). walked (record { end = (walk ps q n j.0).end; pack = (walk ps q n j.0).pack; steps = x })) sum
        ∙ ap (λ (x : Step). walked (behind k (going_on i.0 x (λ (h : ℕ). walk ps q n h)))) (sym (stepped y ps known))

-- ---- with work tables that are as long

module _ {s X : List ℕ} {m l p l' p' : ℕ} (e : l' ≡ l) (f : p' ≡ p) where
  pub known_alike : KnownPacks s X m l p → KnownPacks s X m l' p'
  known_alike k = subst (KnownPacks s X m l') (sym f) (subst (λ (j : ℕ). KnownPacks s X m j p) (sym e) k)

  pub walks_alike : (q : List ℕ) (n i k : ℕ) (a : Result answer.Ended Refusal) → WalksOn s X m l' p' q n i k a → WalksOn s X m l p q n i k a
  walks_alike q n i k a w =
      subst (λ (j : ℕ). WalksOn s X m l j q n i k a) f (subst (λ (j : ℕ). WalksOn s X m j p' q n i k a) e w)

  pub from_alike : {w : ℕ} {q : List ℕ} {n i : ℕ} {a : Result answer.Ended Refusal} → WalksFrom s X m l' p' w q n i a → WalksFrom s X m l p w q n i a
  from_alike {w} {q} {n} {i} {a} h =
      subst (λ (j : ℕ). WalksFrom s X m l j w q n i a) f (subst (λ (j : ℕ). WalksFrom s X m j p' w q n i a) e h)
