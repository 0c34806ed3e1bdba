-- A block behind the two slashes before an authority: a host, and behind the first slash or question mark a path. Assumes nothing.
use Prim.Native.Nat.{ℕ, suc, ◌+◌, ◌<◌}
use native.Mathlib.Omega.{arith}
use mathlib.Core.Path.{◌≡◌, refl, sym, ap, ◌∙◌}
use mathlib.Core.Bool.{Bool, true, false, cond, not, ◌&&◌}
use mathlib.Core.List.{List}
use lib.Dec.{eqb}
use lib.ListN.{length, get_or}
use lib.Seq.{slice}
use borrow.Author.Tests.{eqb-true}
use Rattle.octets.proofs.Octets.{Octets, within, or_octets, between_octets, one_octets}
use Rattle.references.specs.Octets.{ALPHA}
use Rattle.references.proofs.SetOctets.{has_octets}
use Rattle.reference_steps.specs.Machine.{step, run}
use Rattle.cursor.proofs.RunSoFar.{RunSoFar}
use Rattle.reference_scan.specs.Common.{is_hosted}
use Rattle.reference_scan.specs.Comes.{Comes}
use Rattle.reference_scan.proofs.Runs.{passed_run}
use Rattle.reference_scan.proofs.Between.{run_cons, comes_step, comes_then}

-- the state, by whether it is a host still
abbrev pub behind : Bool → ℕ
behind host = cond host 6 13

-- a host stays one
abbrev stays : Bool → ℕ → Bool
stays host c = host && not (eqb c 47) && not (eqb c 63)

hosted_octets : Octets is_hosted
hosted_octets =
    or_octets
    (or_octets
    (or_octets
    (or_octets (has_octets ALPHA) (between_octets 38 57 (omega arith)))
    (one_octets 61 (omega arith)))
    (one_octets 63 (omega arith)))
    (one_octets 95 (omega arith))

in_host_lem : (c : ℕ) → is_hosted c ≡ true → step 6 c ≡ behind (stays true c)
unfolding step
in_host_lem c h =
    eqb-true (step 6 c) (behind (stays true c)) (within is_hosted (λ k. eqb (step 6 k) (behind (stays true k))) hosted_octets refl c h)

in_path_lem : (c : ℕ) → is_hosted c ≡ true → step 13 c ≡ 13
unfolding step
in_path_lem c h = eqb-true (step 13 c) 13 (within is_hosted (λ k. eqb (step 13 k) 13) hosted_octets refl c h)

at_slashes : (c : ℕ) → is_hosted c ≡ true → step 5 c ≡ step 6 c
unfolding step
at_slashes c h = eqb-true (step 5 c) (step 6 c) (within is_hosted (λ k. eqb (step 5 k) (step 6 k)) hosted_octets refl c h)

hosted_step : (host : Bool) (c : ℕ) → is_hosted c ≡ true → behind (stays host c) ≡ step (behind host) c
hosted_step true c h = sym (in_host_lem c h)
hosted_step false c h = sym (in_path_lem c h)

alive : (host : Bool) → behind host ≡ 54 → ⊥
alive true e = omega arith
alive false e = omega arith

module _ {s : List ℕ} {a : ℕ} where
  -- one octet more
  pub hosted_more : {i : ℕ} (host : Bool) → Comes s a 6 i (behind host) → i < length s → is_hosted (get_or s i 0) ≡ true →
      Comes s a 6 (i + 1) (behind (stays host (get_or s i 0)))
  hosted_more {i} host p l h = comes_then p (comes_step l (hosted_step host (get_or s i 0) h) (alive (stays host (get_or s i 0))))

  -- from the slashes on it goes as inside a host, if there is a first octet
  pub from_slashes : {e p : ℕ} → RunSoFar is_hosted s a e → a < e → Comes s a 6 e p → Comes s a 5 e p
  from_slashes {e} {p} h l c =
      record {
        forward = c.forward;
        inside = c.inside;
        state =
            c.state ∙ run_cons s 6 a e l c.inside
            ∙ ap (λ (q : ℕ). run q (slice (suc a) e s)) (sym (at_slashes (get_or s a 0) ((passed_run h).all a (omega arith) l)))
            ∙ sym (run_cons s 5 a e l c.inside);
        lives = λ n. c.lives (λ q. omega arith);
      }
