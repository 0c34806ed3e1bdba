-- A part of a text walked from its right end, octet by octet. Assumes nothing.
use Prim.Native.Nat.{ℕ, suc, ◌+◌, ◌-◌, ◌*◌, ◌≤◌, ◌<◌}
use native.Mathlib.Omega.{arith}
use mathlib.Core.Path.{◌≡◌, sym, ap, ◌∙◌}
use mathlib.Core.Bool.{Bool, true, false, cond}
use mathlib.Core.List.{List, [], ◌∷◌, ◌++◌, append-nil}
use lib.Dec.{eqb}
use lib.ListN.{length, get_or}
use lib.Seq.{slice, slice-cons, length-slice}
use Rattle.resolution.specs.Walking.{held, slash_gain, gain, holds, step, run, text}
use Rattle.resolution.specs.declared.Walk.{Walk}
use Rattle.resolution.proofs.Appended.{run_append}
use Rattle.bare.specs.Bare.{bare, bare_of}
use Rattle.bare.proofs.Bare.{bare_append}
use Rattle.dot_walk.proofs.Steps.{held_two, slash_one}

-- one octet by itself
abbrev pub alone : List ℕ → ℕ → List ℕ
alone s i = bare (get_or s i 0 ∷ [])

-- the octet before place i
pub one_left : (s : List ℕ) (i e : ℕ) → 0 < i → i ≤ e → e ≤ length s → bare_of s (i - 1) e ≡ alone s (i - 1) ++ bare_of s i e
one_left s i e p h l =
    let f : suc (i - 1) ≡ i = omega arith in
    ap bare (slice-cons (i - 1) e s 0 (omega arith) l) ∙ bare_append (get_or s (i - 1) 0 ∷ []) (slice (suc (i - 1)) e s)
    ∙ ap (λ (k : ℕ). alone s (i - 1) ++ bare_of s k e) f

-- ---- bounds: an octet adds three at most, and at most one more `..` waits behind it

gain_three : (b : Walk) (c : ℕ) → length (gain b c) ≤ 3
gain_three b c = go (eqb c 47) (holds b c) (eqb b.pending 0)
  where
    go : (p q r : Bool)
        → length (cond {A = List ℕ} p (slash_gain b) (cond {A = List ℕ} q [] (cond {A = List ℕ} r (c ∷ held b.kind) []))) ≤ 3
    go true q r = omega (arith, slash_one b)
    go false true r = omega arith
    go false false true = omega (arith, held_two b.kind)
    go false false false = omega arith

pub added_three : (b : Walk) (c : ℕ) → length (text (bare (c ∷ [])) b) ≤ 3
added_three b c = go (eqb c 92)
  where
    go : (p : Bool) → length (text (cond {A = List ℕ} p [] (c ∷ [])) b) ≤ 3
    go true = omega arith
    go false = rw (append-nil (gain b c)) (gain_three b c)

pending_one : (b : Walk) (c : ℕ) → (step b c).pending ≤ b.pending + 1
pending_one b c = go (eqb c 47) (eqb b.kind 2) (eqb b.kind 1)
  where
    go : (p q r : Bool) → cond p (cond q (b.pending + 1) (cond r b.pending (b.pending - 1))) b.pending ≤ b.pending + 1
    go true true r = omega arith
    go true false true = omega arith
    go true false false = omega arith
    go false q r = omega arith

pub bounded : (w : List ℕ) (b : Walk)
    → ((run w b).kept ≤ b.kept + 3 * length w) × ((run w b).pending ≤ b.pending + length w)
bounded [] b = (omega arith, omega arith)
bounded (c ∷ w) b =
    (omega (arith, (bounded w b).0, gain_three (run w b) c), omega (arith, (bounded w b).1, pending_one (run w b) c))

bare_length : (w : List ℕ) → length (bare w) ≤ length w
bare_length [] = omega arith
bare_length (c ∷ w) = go (eqb c 92) (bare_length w)
  where
    go : (b : Bool) → length (bare w) ≤ length w → length (cond {A = List ℕ} b (bare w) (c ∷ bare w)) ≤ suc (length w)
    go true h = omega (arith, h)
    go false h = omega (arith, h)

pub part_length : (s : List ℕ) (i e : ℕ) → e ≤ length s → length (bare_of s i e) ≤ e - i
part_length s i e l = omega (arith, bare_length (slice i e s), length-slice i e s l)

-- so the next step's numbers are small
module _ (s : List ℕ) (e : ℕ) (b : Walk) (l : e ≤ length s) (m : length s ≤ 8192) (k : b.kept ≤ 24576) (p : b.pending ≤ 8192) where
  pub kept_small : (i : ℕ) → (run (bare_of s i e) b).kept ≤ 49152
  kept_small i = omega (arith, (bounded (bare_of s i e) b).0, part_length s i e l)

  pub pending_small : (i : ℕ) → (run (bare_of s i e) b).pending ≤ 16384
  pending_small i = omega (arith, (bounded (bare_of s i e) b).1, part_length s i e l)

-- one octet further left
pub run_left : (s : List ℕ) (e : ℕ) (b : Walk) {t n : Walk} (i : ℕ) → 0 < i → i ≤ e → e ≤ length s → t ≡ run (bare_of s i e) b
    → n ≡ run (alone s (i - 1)) t → n ≡ run (bare_of s (i - 1) e) b
run_left s e b i p h l f g =
    g ∙ ap (run (alone s (i - 1))) f ∙ sym (run_append (alone s (i - 1)) (bare_of s i e) b)
    ∙ ap (λ (w : List ℕ). run w b) (sym (one_left s i e p h l))
