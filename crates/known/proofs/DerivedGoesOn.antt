-- A header that is derived does not halt: an octet that the machine asks for stands there. And a look that was answered no.
use Prim.Native.Nat.{ℕ, suc, ◌≤◌, ◌<◌}
use native.Mathlib.Omega.{arith}
use native.Mathlib.Decide.{dec_le}
use mathlib.Core.Path.{◌≡◌, refl, sym, ◌∙◌}
use mathlib.Core.Bool.{Bool, true, false, cond, not, true≢false}
use mathlib.Core.List.{List}
use mathlib.Core.Option.{none}
use lib.ListN.{length, get_or}
use borrow.Author.Tests.{eq-eqb}
use Rattle.grammar.specs.Link.{Link}
use Rattle.grammar.specs.Grammar.{Extra, At, In, Field}
use Rattle.grammar.specs.Machine.{State, dead, step, settle}
use Rattle.grammar.proofs.Prefix.{is_dead}
use Rattle.cursor.specs.Passed.{Looked}
use Rattle.scan_parts.specs.Stands.{Stands}
use Rattle.scan_parts.proofs.Standing.{stands_on, dies_at, dies_end}

module _ {extra : Extra} {s : List ℕ} {R : List Link} (f : Field extra s R) where
  -- an octet of the set g must stand here
  pub must : {A : Type 0} (g : ℕ → Bool) {st : State} (new : State) {j : ℕ} → Stands extra s st j → is_dead st ≡ false → settle st j ≡ none
      → ((c : ℕ) → step extra st j c ≡ cond (g c) new dead) → (In s g j → Stands extra s new (suc j) → A) → A
  must {A} g new {j} p alive ends on k = go (dec_le (length s) j)
    where
      test : (b : Bool) → g (get_or s j 0) ≡ b → j < length s → A
      test true e l = k (record { inside = l; is = e }) (stands_on new p l (on _ ∙ rw e))
      test false e l = absurd (dies_at p l (on _ ∙ rw e) f)

      go : Dec (length s ≤ j) → A
      go (yes l) = absurd (dies_end p l ends f)
      go (no l) = test (g (get_or s j 0)) refl (omega arith)

module _ {s : List ℕ} where
  -- a look that was answered no
  pub not_seen : {i c : ℕ} {b : Bool} → Looked s i c b → b ≡ false → At s i c → ⊥
  not_seen {i} {c} l f q = true≢false (sym (eq-eqb (get_or s i 0) c q.is) ∙ l.not f q.inside)
