-- Octets of a target, some of which were passed by blocks of a path's octets.
use Prim.Native.Nat.{ℕ, zero, suc, ◌+◌, ◌-◌, ◌≤◌, ◌<◌}
use native.Mathlib.Omega.{arith}
use mathlib.Core.Path.{◌≡◌, refl, subst}
use mathlib.Core.Bool.{true}
use mathlib.Core.List.{List}
use lib.ListN.{length, get_or}
use Rattle.octets.specs.Sets.{is_target, is_letter, is_digit}
use Rattle.octets.proofs.Octets.{within, or_octets}
use Rattle.references.specs.Octets.{unreserved, sub_delims, colon, at, slash, question}
use Rattle.references.proofs.SetOctets.{has_octets}
use Rattle.grammar.specs.Grammar.{Run, run_end, run_more}
use Rattle.cursor.specs.Passed as cursor
use Rattle.reference_sets.specs.Sets.{is_path}
use Rattle.reference_scan.specs.Passed as block

-- a path's octets are a target's
path_target : (c : ℕ) → is_path c ≡ true → is_target c ≡ true
unfolding is_target is_letter is_digit
path_target =
    within is_path is_target
    (or_octets
    (or_octets
    (or_octets (or_octets (or_octets (has_octets unreserved) (has_octets sub_delims)) (has_octets colon)) (has_octets at))
    (has_octets slash))
    (has_octets question))
    refl

module _ {s : List ℕ} where
  run_on : {a b e : ℕ} → Run s is_target a b → Run s is_target b e → Run s is_target a e
  run_on run_end r = r
  run_on (run_more c q) r = run_more c (run_on q r)

  blocks_run : (n a e : ℕ) → e ≡ a + n → e ≤ length s → ((k : ℕ) → a ≤ k → k < e → is_path (get_or s k 0) ≡ true) → Run s is_target a e
  blocks_run zero a e w h all = let same : a ≡ e = omega arith in subst (Run s is_target a) same run_end
  blocks_run (suc n) a e w h all =
      run_more {i = a} (record { inside = omega arith; is = path_target (get_or s a 0) (all a (omega arith) (omega arith)) })
      (blocks_run n (suc a) e (omega arith) h (λ k l m. all k (omega arith) m))

  -- blocks, and then octet by octet
  pub target_run : {a b e : ℕ} → block.Passed is_path s a b → cursor.Passed is_target s b e → cursor.Passed is_target s a e
  target_run {a} {b} {e} x y =
      record {
        forward = omega (arith, x.forward, y.forward);
        inside = y.inside;
        run = run_on (blocks_run (b - a) a b (omega (arith, x.forward)) x.inside x.all) y.run;
        stops = y.stops;
      }
