-- From a path's right end on, a `..` waits only where something is kept, and behind a slash something is. Assumes nothing.
use Prim.Native.Nat.{ℕ, ◌+◌}
use native.Mathlib.Omega.{arith}
use mathlib.Core.Path.{◌≡◌, refl, sym, ◌∙◌}
use mathlib.Core.Bool.{Bool, true, false, cond, true≢false}
use mathlib.Core.List.{List, [], ◌∷◌}
use lib.Dec.{eqb}
use lib.ListN.{length}
use borrow.Author.Tests.{eqb-true, eqb-false, ne_eqb, eq-eqb}
use Rattle.resolution.specs.declared.Walk.{Walk}
use Rattle.resolution.specs.Walking.{at_end, dotted, gain, step, run}

abbrev Keeping : Walk → Type 0
Keeping b = eqb b.kept 0 ≡ true → eqb b.pending 0 ≡ true

slash_keeps : (b : Walk) → Keeping b → eqb (step b 47).kept 0 ≡ false
slash_keeps b h = go (eqb b.kept 0) refl
  where
    both : (d : Bool) → eqb (b.kept + length {A = ℕ} (cond (cond d true true) (47 ∷ []) [])) 0 ≡ false
    both true = ne_eqb (b.kept + 1) 0 (λ q. omega (arith, q))
    both false = ne_eqb (b.kept + 1) 0 (λ q. omega (arith, q))

    go : (z : Bool) → eqb b.kept 0 ≡ z → eqb (step b 47).kept 0 ≡ false
    go true e = rw (e, h e) (both (dotted b))
    go false e = ne_eqb (step b 47).kept 0 (λ q. eqb-false b.kept 0 e (omega (arith, q)))

step_keeping : (b : Walk) (c : ℕ) → Keeping b → Keeping (step b c)
step_keeping b c h = go (eqb c 47) refl
  where
    go : (z : Bool) → eqb c 47 ≡ z → Keeping (step b c)
    go true e = rw (eqb-true c 47 e) (λ q. absurd (true≢false (sym q ∙ slash_keeps b h)))
    go false e =
        λ q. let s : b.kept + length (gain b c) ≡ 0 = eqb-true (step b c).kept 0 q in rw e (h (eq-eqb b.kept 0 (omega (arith, s))))

keeping : (w : List ℕ) → Keeping (run w at_end)
keeping [] = λ e. refl
keeping (c ∷ w) = step_keeping (run w at_end) c (keeping w)

pub kept_behind_slash : (w : List ℕ) → eqb (run (47 ∷ w) at_end).kept 0 ≡ false
kept_behind_slash w = slash_keeps (run w at_end) (keeping w)
