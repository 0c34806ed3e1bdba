-- A loop that looks for the first octet of cs, from place a up to e: it stands at k, and none came before. Assumes nothing.
use Prim.Native.Nat.{ℕ, suc, ◌+◌, ◌≤◌, ◌<◌}
use native.Mathlib.Omega.{arith}
use native.Mathlib.Numerals.{add-one}
use mathlib.Core.Path.{◌≡◌, sym, ap, ◌∙◌}
use mathlib.Core.Bool.{Bool, true, false, cond}
use mathlib.Core.List.{List, [], ◌∷◌}
use lib.Dec.{eqb}
use lib.ListN.{length, get_or}
use Rattle.octets.specs.Sets.{one_of}
use Rattle.references.specs.Components.{before, from}
use Rattle.references.proofs.Clear.{Free, free_append}
use Rattle.references.proofs.Cuts.{Stops, before_free, from_free}
use Rattle.bare.specs.Bare.{bare_of}
use Rattle.bare.proofs.Bare.{bare_of_empty, bare_of_none, bare_of_join, bare_of_cons, bare_of_octet}
use Rattle.components.specs.Looks.{Found}
use Rattle.components.proofs.Ends.{end_octet}

pub record Finding (cs s : List ℕ) (a e k : ℕ) : Type 0 where
  pub forward : a ≤ k
  pub inside : k ≤ e
  pub free : Free cs (bare_of s a k)

pub none_looked : (cs s : List ℕ) (a e : ℕ) → a ≤ e → Finding cs s a e a
none_looked cs s a e h = record { forward = omega arith; inside = h; free = rw (bare_of_empty s a) tt }

-- an octet outside of cs, be it a backslash
outside : (cs s : List ℕ) (k : ℕ) → k < length s → one_of cs (get_or s k 0) ≡ false → Free cs (bare_of s k (suc k))
outside cs s k l o = rw (bare_of_cons s k (suc k) (omega arith) (omega arith), bare_of_empty s (suc k)) (go (eqb (get_or s k 0) 92))
  where
    go : (b : Bool) → Free cs (cond b [] (get_or s k 0 ∷ []))
    go true = tt
    go false = (o, tt)

module _ {cs s : List ℕ} {a e k : ℕ} (f : Finding cs s a e k) where
  pub look_on : k < e → e ≤ length s → one_of cs (get_or s k 0) ≡ false → Finding cs s a e (k + 1)
  look_on h l o =
      rw (add-one k)
      (record {
        forward = omega (arith, f.forward);
        inside = omega arith;
        free =
            rw (bare_of_join s a k (suc k) f.forward (omega arith))
            (free_append cs (bare_of s a k) (bare_of s k (suc k)) f.free (outside cs s k (omega arith) o));
      })

  found_so : Stops cs (bare_of s k e) → (k < e → one_of cs (get_or s k 0) ≡ true) → Found cs s a e k
  found_so t o =
      let join = bare_of_join s a k e f.forward f.inside in
      record {
        forward = f.forward;
        inside = f.inside;
        part = sym (ap (before cs) join ∙ before_free cs (bare_of s a k) (bare_of s k e) f.free t);
        rest = sym (ap (from cs) join ∙ from_free cs (bare_of s a k) (bare_of s k e) f.free t);
        octet = o;
      }

  pub found_end : e ≤ k → Found cs s a e e
  found_end h =
      let q : k ≡ e = omega (arith, f.inside) in
      rw q at (found_so (rw (bare_of_none s k e h) tt) (λ l. absurd (omega arith)))

  pub found : k < e → e ≤ length s → one_of cs 92 ≡ false → one_of cs (get_or s k 0) ≡ true → Found cs s a e k
  found h l n o = found_so (rw (bare_of_octet s k e h l (end_octet cs (get_or s k 0) n o)) o) (λ _. o)
