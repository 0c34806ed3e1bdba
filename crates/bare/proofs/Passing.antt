-- Loops over a part: one step over a backslash, and one over any other octet. Assumes nothing.
use Prim.Native.Nat.{ℕ, suc, ◌+◌, ◌≤◌, ◌<◌}
use native.Mathlib.Omega.{arith}
use native.Mathlib.Numerals.{add-one}
use mathlib.Core.Path.{◌≡◌, refl, ◌∙◌}
use mathlib.Core.List.{List, [], ◌∷◌}
use lib.ListN.{length, get_or}
use Rattle.bare.specs.Bare.{bare_of, Past}
use Rattle.bare.proofs.Bare.{bare_of_empty, bare_of_join, bare_of_backslash, bare_of_octet}

-- as code has it, which moved on from k to j
module _ (s : List ℕ) {e k j : ℕ} (m : j ≡ k + 1) (h : k < e) (l : e ≤ length s) where
  pub over_backslash : get_or s k 0 ≡ 92 → bare_of s k e ≡ bare_of s j e
  over_backslash b = rw (m, add-one k) (bare_of_backslash s k e h l b)

  pub over_octet : (get_or s k 0 ≡ 92 → ⊥) → bare_of s k e ≡ get_or s k 0 ∷ bare_of s j e
  over_octet n = rw (m, add-one k) (bare_of_octet s k e h l n)

-- a backslash by itself
alone : (s : List ℕ) (k : ℕ) → k < length s → get_or s k 0 ≡ 92 → bare_of s k (k + 1) ≡ []
alone s k l b = rw (add-one k) (bare_of_backslash s k (suc k) (omega arith) (omega arith) b ∙ bare_of_empty s (suc k))

-- backslashes only from a to k
pub record Passing (s : List ℕ) (a e k : ℕ) : Type 0 where
  pub from : a ≤ k
  pub to : k ≤ e
  pub same : bare_of s a e ≡ bare_of s k e
  pub nothing : bare_of s a k ≡ []

pub none_passed : (s : List ℕ) (a e : ℕ) → a ≤ e → Passing s a e a
none_passed s a e h = record { from = omega arith; to = h; same = refl; nothing = bare_of_empty s a }

module _ {s : List ℕ} {a e k : ℕ} (p : Passing s a e k) where
  pub pass : k < e → e ≤ length s → get_or s k 0 ≡ 92 → Passing s a e (k + 1)
  pass h l b =
      record {
        from = omega (arith, p.from);
        to = omega arith;
        same = p.same ∙ over_backslash s refl h l b;
        nothing = bare_of_join s a k (k + 1) p.from (omega arith) ∙ rw p.nothing (alone s k (omega arith) b);
      }

  pub passed : (k < e → get_or s k 0 ≡ 92 → ⊥) → Past s a e k
  passed n = record { from = p.from; to = p.to; same = p.same; nothing = p.nothing; octet = n }

  -- up to the part's end
  pub all_passed : e ≤ k → Past s a e e
  all_passed h = let q : k ≡ e = omega (arith, p.to) in rw q at (passed (λ l. absurd (omega arith)))
