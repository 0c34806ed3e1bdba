-- A text behind which nothing is awaited is well formed: its octets are sequences of the table. Assumes nothing.
use Prim.Native.Nat.{ℕ, zero, suc, ◌≤◌}
use native.Mathlib.Omega.{arith}
use mathlib.Core.Path.{◌≡◌, refl, ap}
use mathlib.Core.Bool.{Bool, true, false, cond}
use mathlib.Core.List.{List, [], ◌∷◌}
use mathlib.Core.Logic.{inl, inr}
use lib.Dec.{leb, eqb}
use borrow.Author.Tests.{eqb-true, eqb-false, leb-false, le-leb}
use Rattle.octets.specs.Sets.{between}
use Rattle.octets.proofs.Octets.{between_bounds}
use Rattle.rules.specs.Rule.{◌then◌, Then, no_more, and_one, Derives}
use Rattle.utf8.specs.Sequences.{in_range, range, utf8_char, WellFormed}
use Rattle.sequences.specs.declared.Awaited.{Awaited}
use Rattle.sequences.specs.Awaited.{awaits, tails, nothing, impossible, behind_first, behind, complete}
use Rattle.sequences.proofs.AsRule.{awaited, Awaits}

-- behind the first octet c comes u, if t is awaited
record Begins (c : ℕ) (u : List ℕ) (t : Awaited) : Type 0 where
  begun : Awaits t u → Derives in_range utf8_char (c ∷ u)

picked : {c : ℕ} {u : List ℕ} (b : Bool) {s t : Awaited} → (b ≡ true → Begins c u s) → (b ≡ false → Begins c u t)
    → Begins c u (cond b s t)
picked true f g = f refl
picked false f g = g refl

-- an octet of a range, and what is awaited behind it
led : (x y n a b c : ℕ) (u : List ℕ) → between x y c ≡ true → Derives in_range (awaited (suc n) a b) u
    → Derives in_range (range x y then awaited (suc n) a b) (c ∷ u)
led x y n a b c u e d =
    record { left = c ∷ []; right = u; whole = refl; first = record { octet = c; is = refl; inside = e }; second = d }

is_it : (a c : ℕ) → eqb c a ≡ true → between a a c ≡ true
is_it a c e = rw (eqb-true c a e, le-leb a a (omega arith)) refl

-- nothing is from 1 to 0
none_between : (c : ℕ) → between 1 0 c ≡ true → ⊥
none_between c e = let p = between_bounds 1 0 c e in absurd (omega (arith, p.0, p.1))

-- E1 to EF without ED is two rows
three_begin : (c : ℕ) (u : List ℕ) → between 0xE1 0xEF c ≡ true → eqb c 0xED ≡ false → Begins c u (tails 2)
three_begin c u e n = go (leb c 0xEC) refl
  where
    inside : (0xE1 ≤ c) × (c ≤ 0xEF)
    inside = between_bounds 0xE1 0xEF c e

    go : (b : Bool) → leb c 0xEC ≡ b → Begins c u (tails 2)
    go true l =
        let lower : between 0xE1 0xEC c ≡ true = rw (le-leb 0xE1 c inside.0, l) refl in
        record { begun = λ d. inr (inr (inl (inr (inl (led 0xE1 0xEC 1 0x80 0xBF c u lower d))))) }
    go false l =
        let from = leb-false c 0xEC l in
        let other = eqb-false c 0xED n in
        let upper : between 0xEE 0xEF c ≡ true = rw (le-leb 0xEE c (omega arith), le-leb c 0xEF inside.1) refl in
        record { begun = λ d. inr (inr (inl (inr (inr (inr (led 0xEE 0xEF 1 0x80 0xBF c u upper d)))))) }

char_begins : (c : ℕ) (u : List ℕ) → Begins c u (behind_first c)
unfolding behind_first
char_begins c u =
    picked (between 0x00 0x7F c)
    (λ e. record { begun = λ d. inl (record { octet = c; is = ap {B = List ℕ} (λ v. c ∷ v) d; inside = e }) })
    (λ _.
    picked (between 0xC2 0xDF c) (λ e. record { begun = λ d. inr (inl (led 0xC2 0xDF 0 0x80 0xBF c u e d)) })
    (λ _.
    picked (eqb c 0xE0) (λ e. record { begun = λ d. inr (inr (inl (inl (led 0xE0 0xE0 1 0xA0 0xBF c u (is_it 0xE0 c e) d)))) })
    (λ _.
    picked (eqb c 0xED)
    (λ e. record { begun = λ d. inr (inr (inl (inr (inr (inl (led 0xED 0xED 1 0x80 0x9F c u (is_it 0xED c e) d)))))) })
    (λ n.
    picked (between 0xE1 0xEF c) (λ e. three_begin c u e n)
    (λ _.
    picked (eqb c 0xF0) (λ e. record { begun = λ d. inr (inr (inr (inl (led 0xF0 0xF0 2 0x90 0xBF c u (is_it 0xF0 c e) d)))) })
    (λ _.
    picked (eqb c 0xF4)
    (λ e. record { begun = λ d. inr (inr (inr (inr (inr (led 0xF4 0xF4 2 0x80 0x8F c u (is_it 0xF4 c e) d))))) })
    (λ _.
    picked (between 0xF1 0xF3 c) (λ e. record { begun = λ d. inr (inr (inr (inr (inl (led 0xF1 0xF3 2 0x80 0xBF c u e d))))) })
    (λ _. record { begun = λ d. absurd (none_between d.octet d.inside) }))))))))

-- w is what t awaits, and a well-formed text behind it
abbrev Ends : ℕ → ℕ → ℕ → List ℕ → Type 0
Ends n a b w = Then (Derives in_range (awaited n a b)) WellFormed w

begins : (c : ℕ) (w : List ℕ) → Then (Awaits (behind_first c)) WellFormed w → WellFormed (c ∷ w)
begins c w t =
    and_one {u = c ∷ t.left} {v = t.right} (ap {B = List ℕ} (λ v. c ∷ v) t.whole) ((char_begins c t.left).begun t.first)
    t.second

goes_on : (n a b c : ℕ) (w : List ℕ) → between a b c ≡ true → Ends n 0x80 0xBF w → Ends (suc n) a b (c ∷ w)
goes_on zero a b c w e t =
    record {
      left = c ∷ t.left;
      right = t.right;
      whole = ap {B = List ℕ} (λ v. c ∷ v) t.whole;
      first = record { octet = c; is = ap {B = List ℕ} (λ v. c ∷ v) t.first; inside = e };
      second = t.second;
    }
goes_on (suc n) a b c w e t =
    record {
      left = c ∷ t.left;
      right = t.right;
      whole = ap {B = List ℕ} (λ v. c ∷ v) t.whole;
      first = led a b n 0x80 0xBF c t.left e t.first;
      second = t.second;
    }

complete_ends : (w : List ℕ) (n a b : ℕ) → complete (awaits n a b) w ≡ true → Ends n a b w
unfolding behind
complete_ends [] zero a b e = record { left = []; right = []; whole = refl; first = refl; second = no_more refl }
complete_ends [] (suc n) a b e = absurd (omega (arith, eqb-true (suc n) 0 e))
complete_ends (c ∷ w) zero a b e =
    record {
      left = [];
      right = c ∷ w;
      whole = refl;
      first = refl;
      second = begins c w (complete_ends w (behind_first c).count (behind_first c).low (behind_first c).high e);
    }
complete_ends (c ∷ w) (suc n) a b e = go (between a b c) refl e (complete_ends w n 0x80 0xBF) (complete_ends w 1 1 0)
  where
    go : (y : Bool) → between a b c ≡ y → complete (cond y (tails n) impossible) w ≡ true
        → (complete (tails n) w ≡ true → Ends n 0x80 0xBF w) → (complete impossible w ≡ true → Ends 1 1 0 w)
        → Ends (suc n) a b (c ∷ w)
    go true i h f g = goes_on n a b c w i (f h)
    go false i h f g = absurd (none_between (g h).first.octet (g h).first.inside)

pub complete_well_formed : (w : List ℕ) → complete nothing w ≡ true → WellFormed w
complete_well_formed w e = let t = complete_ends w 0 0x80 0xBF e in rw (t.whole, t.first) t.second
