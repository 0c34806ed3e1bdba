-- The machine is exact for RFC 3986's grammar, by a search that is computed. Assumes nothing.
use Prim.Native.Nat.{ℕ}
use mathlib.Core.Path.{◌≡◌, refl, sym, ap, ◌∙◌}
use mathlib.Core.Bool.{Bool, true}
use mathlib.Core.List.{List, [], ◌∷◌, map}
use mathlib.Core.Logic.{inl, inr}
use Rattle.rules.specs.Rule.{Rule}
use Rattle.rules.specs.Left.{tried, matches}
use Rattle.rules.proofs.Lefts.{matches_sound, matches_complete}
use Rattle.rules.proofs.Search.{Pair, Among, Goes, runs, behind, search, searched}
use Rattle.references.specs.Octets.{Octets, has}
use Rattle.references.specs.AppendixA.{uri_reference, URI}
use Rattle.references.proofs.SetNumbers.{same_set, same_set_lem}
use Rattle.reference_steps.specs.Machine.{move, step, run, accepts}
use Rattle.reference_steps.specs.Laws.{StepsExact}
use Rattle.reference_steps.proofs.Alike.{samples, sample, sampled, has_alike}

-- ---- the search

-- where nothing can follow
abbrev dead : Pair Octets
dead = record { state = 54; rules = [] }

-- where a reference begins, and where a URI does
abbrev starts : List (Pair Octets)
starts = record { state = 0; rules = uri_reference ∷ [] } ∷ record { state = 55; rules = URI ∷ [] } ∷ []

found : search has same_set step accepts samples dead 100000 [] starts ≡ true
unfolding step
found = refl

step_alike : (q c : ℕ) → step q c ≡ step q (sample c)
unfolding step
step_alike q c = ap (λ (is : Octets → Bool). move is q) (λ i f. has_alike f c i)

stays_dead : (c : ℕ) → behind has step dead c ≡ dead
unfolding step
stays_dead c = refl

all_dead : (cs : List ℕ) (x : Pair Octets) → Among x (map (behind has step dead) cs) → x ≡ dead
all_dead [] x a = absurd a
all_dead (c ∷ cs) x (inl e) = e ∙ stays_dead c
all_dead (c ∷ cs) x (inr a) = all_dead cs x a

dead_goes : Goes has same_set same_set_lem step accepts samples dead [] dead
dead_goes = record { ending = refl; behind_it = λ x a. inl (all_dead samples x a) }

run_runs : (w : List ℕ) (q : ℕ) → run q w ≡ runs step q w
run_runs [] q = refl
run_runs (c ∷ w) q = run_runs w (step q c)

exact : (p : Pair Octets) → Among p starts → (r : Rule Octets) → p.rules ≡ r ∷ [] → (w : List ℕ)
    → accepts (run p.state w) ≡ matches has r w
exact p a r e w =
    ap accepts (run_runs w p.state)
    ∙ searched has same_set same_set_lem step accepts samples dead sample sampled step_alike has_alike dead_goes 100000 starts found p a w
    ∙ ap (λ rs. tried has rs w) e

pub reference_exact : (w : List ℕ) → accepts (run 0 w) ≡ matches has uri_reference w
reference_exact w = exact _ (inl refl) uri_reference refl w

pub uri_exact : (w : List ℕ) → accepts (run 55 w) ≡ matches has URI w
uri_exact w = exact _ (inr (inl refl)) URI refl w

pub steps_exact : StepsExact
steps_exact =
    record {
      reference = λ w e. matches_sound has uri_reference w (sym (reference_exact w) ∙ e);
      accepted = λ w d. reference_exact w ∙ matches_complete has uri_reference w d;
      uri = λ w e. matches_sound has URI w (sym (uri_exact w) ∙ e);
      uri_accepted = λ w d. uri_exact w ∙ matches_complete has URI w d;
    }
