-- A target's octets stay as they are where its header stands in a longer text.
use Prim.Native.Nat.{ℕ, ◌+◌, ◌≤◌}
use native.Mathlib.Omega.{arith}
use mathlib.Core.Path.{◌≡◌, sym, ap, subst}
use mathlib.Core.List.{List, [], ◌∷◌, ◌++◌, map}
use lib.ListN.{length, drop}
use lib.Seq.{slice, take-append-le}
use Rattle.references.specs.AppendixA.{IsReference}
use Rattle.grammar.specs.Link.{Link}
use Rattle.grammar.specs.Grammar.{Extra, Admissible, Field}
use Rattle.grammar.specs.Targets.{EachTarget, References}
use Rattle.grammar.proofs.Raise.{raise_link}
use Rattle.grammar.proofs.Spans.{slice_within}
use Rattle.grammar.proofs.Closing.{Shut, derived_shut}

module _ (P : ℕ → ℕ → Type 0) where
  pub each_append : (ls ms : List Link) → EachTarget P ls → EachTarget P ms → EachTarget P (ls ++ ms)
  each_append [] ms a b = b
  each_append (l ∷ ls) ms a b = (a.0, each_append ls ms a.1 b)

  pub each_second : (ls ms : List Link) → EachTarget P (ls ++ ms) → EachTarget P ms
  each_second [] ms a = a
  each_second (l ∷ ls) ms a = each_second ls ms a.1

pub each_map : {P Q : ℕ → ℕ → Type 0} (ls : List Link) → ((a k : ℕ) → P a k → Q a k) → EachTarget P ls → EachTarget Q ls
each_map [] f a = tt
each_map (l ∷ ls) f a = (f l.target_from l.target_to a.0, each_map ls f a.1)

-- in front of more octets
pub slice_front : (u v : List ℕ) (a k : ℕ) → k ≤ length u → slice a k (u ++ v) ≡ slice a k u
slice_front u v a k h = ap (drop a) (take-append-le k u v h)

-- the targets of a derived header end inside it
pub targets_inside : (extra : Extra) → Admissible extra → (s : List ℕ) {R : List Link} → Field extra s R
    → EachTarget (λ (a k : ℕ). k ≤ length s) R
targets_inside extra apart s {R} f =
    each_map {P = Shut extra s} R (λ a k h. omega (arith, h.inside)) (derived_shut extra apart s f)

module _ (u s v : List ℕ) where
  pub references_raised : (R : List Link) → EachTarget (λ (a k : ℕ). k ≤ length s) R → References s R
      → References (u ++ (s ++ v)) (map (raise_link (length u)) R)
  references_raised [] h r = tt
  references_raised (l ∷ R) h r = (
    subst IsReference (sym (slice_within u s v l.target_from l.target_to h.0)) r.0,
    references_raised R h.1 r.1,
  )

  pub references_lowered : (R : List Link) → EachTarget (λ (a k : ℕ). k ≤ length s) R
      → References (u ++ (s ++ v)) (map (raise_link (length u)) R) → References s R
  references_lowered [] h r = tt
  references_lowered (l ∷ R) h r = (
    subst IsReference (slice_within u s v l.target_from l.target_to h.0) r.0,
    references_lowered R h.1 r.1,
  )
