-- A target passed so far: it is derived, and where nothing fits the header is malformed.
use Prim.Native.Nat.{ℕ, suc, ◌+◌, ◌≤◌, ◌<◌}
use native.Mathlib.Omega.{arith}
use native.Mathlib.Numerals.{add-one}
use mathlib.Core.Path.{◌≡◌, refl, sym, ap, subst, ◌∙◌}
use mathlib.Core.Bool.{false}
use mathlib.Core.List.{List}
use lib.ListN.{length, get_or}
use Rattle.octets.specs.Sets.{is_target, is_hex}
use Rattle.grammar.specs.Link.{Link}
use Rattle.grammar.specs.Grammar.{Extra, At, In, Run, run_end, run_more, Target, target_end, octet, triple}
use Rattle.grammar.specs.Machine.{target, percent, hex}
use Rattle.cursor.specs.Passed.{Passed, Looked}
use Rattle.kinds.specs.declared.Place.{Place}
use Rattle.cursor.specs.declared.Cursor.{Cursor}
use Rattle.std.specs.Prelude.{Ok, Err}
use Rattle.scan_parts.specs.Stands.{Stands}
use Rattle.scan_parts.specs.Scanned.{TripleScanned, no_digit, digits, TargetScanned, no_target}
use Rattle.scan_parts.proofs.Standing.{stands_on, halts}

-- how far a target has been passed, from place a: to i, where no target octet stands
pub record TargetSoFar (s : List ℕ) (a i : ℕ) : Type 0 where
  pub derived : Target s a i
  pub forward : a ≤ i
  pub inside : i ≤ length s
  pub stops : i < length s → is_target (get_or s i 0) ≡ false

module _ {s : List ℕ} where
  pub run_target : {a e : ℕ} → Run s is_target a e → Target s a e
  run_target run_end = target_end
  run_target (run_more c r) = octet c (run_target r)

  pub target_append : {a i j : ℕ} → Target s a i → Target s i j → Target s a j
  target_append target_end u = u
  target_append (octet c t) u = octet c (target_append t u)
  target_append (triple p x y t) u = triple p x y (target_append t u)

  pub target_stands : {extra : Extra} {a e : ℕ} (ls : List Link) (b : ℕ) → Target s a e → Stands extra s (target ls b) a
      → Stands extra s (target ls b) e
  unfolding is_target
  target_stands ls b target_end p = p
  target_stands ls b (octet c t) p = target_stands ls b t (stands_on (target ls b) p c.inside (rw c.is))
  target_stands ls b (triple q x y t) p =
      target_stands ls b t
      (stands_on (target ls b)
      (stands_on (hex ls b) (stands_on (percent ls b) p q.inside (rw q.is)) x.inside (rw x.is)) y.inside
      (rw y.is))

  -- behind a first run
  pub begin : {a b : ℕ} → Passed is_target s a b → TargetSoFar s b b
  begin p = record { derived = target_end; forward = omega arith; inside = p.inside; stops = p.stops }

  pub since : {a b i : ℕ} → Passed is_target s a b → TargetSoFar s b i → TargetSoFar s a i
  since p g =
      record {
        derived = target_append (run_target p.run) g.derived;
        forward = omega (arith, p.forward, g.forward);
        inside = g.inside;
        stops = g.stops;
      }

  -- a triple, and a run behind it
  module _ {a i j : ℕ} (g : TargetSoFar s a i) (q : At s i 37) (k : j ≡ i + 1) where
    pub more : {e : ℕ} {d : Cursor} → TripleScanned s j (Ok d) → Passed is_target s d.at.0 e → TargetSoFar s a e
    more {e} (digits z x y) p =
        let n : j ≡ suc i = k ∙ add-one i in
        record {
          derived =
              target_append g.derived
              (triple q (subst (In s is_hex) n x) (subst (λ (m : ℕ). In s is_hex (suc m)) n y)
              (subst (λ (m : ℕ). Target s m e) (z ∙ ap (λ (x : ℕ). suc (suc x)) n) (run_target p.run)));
          forward = omega (arith, g.forward, p.forward, z);
          inside = p.inside;
          stops = p.stops;
        }

    pub no_triple : {p : Place} → TripleScanned s j (Err p) → TargetScanned s a (Err p)
    unfolding is_target
    no_triple (no_digit f) =
        no_target
        (λ extra ls b p r.
        f extra ls b
        (subst (Stands extra s (percent ls b)) (sym (k ∙ add-one i))
        (stands_on (percent ls b) (target_stands ls b g.derived p) q.inside (rw q.is))) r)

  pub no_octet : {a i : ℕ} → TargetSoFar s a i → Looked s i 62 false → Looked s i 37 false → TargetScanned s a (Err (record { 0 = i }))
  no_octet g l k =
      no_target
      (λ extra ls b p r.
      halts (target_stands ls b g.derived p) refl refl (λ h. rw (g.stops h, k.not refl h, l.not refl h)) r)
