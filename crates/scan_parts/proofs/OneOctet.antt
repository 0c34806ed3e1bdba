-- One octet of a set, and two hex digits, one behind the other.
use Prim.Native.Nat.{ℕ, suc, ◌+◌}
use native.Mathlib.Numerals.{add-one}
use mathlib.Core.Path.{◌≡◌, refl, sym, subst, ◌∙◌}
use mathlib.Core.Bool.{Bool, true, false}
use mathlib.Core.List.{List}
use Rattle.octets.specs.Sets.{is_hex}
use Rattle.grammar.specs.Machine.{hex}
use Rattle.grammar.specs.Place.{MalformedAt}
use Rattle.kinds.specs.declared.Place.{Place}
use Rattle.cursor.specs.Passed.{LookedIn}
use Rattle.cursor.specs.declared.Cursor.{Cursor}
use Rattle.std.specs.Prelude.{Result, Ok, Err}
use Rattle.scan_parts.specs.Scanned.{OneScanned, none_there, one_there, TripleScanned, no_digit, digits}
use Rattle.scan_parts.proofs.Standing.{stands_on, halts}

module _ {f : ℕ → Bool} {s : List ℕ} {a : ℕ} where
  -- the look for an octet, as the code makes it
  pub is_there : {c : Cursor} → LookedIn f s a true → c.at.0 ≡ a + 1 → OneScanned f s a (Ok c)
  is_there l n = one_there (n ∙ add-one a) (l.yes refl)

  pub is_another : LookedIn f s a false → OneScanned f s a (Err (record { 0 = a }))
  is_another l = none_there refl (l.not refl)

module _ {s : List ℕ} {a : ℕ} where
  pub first_stuck : {p : Place} → OneScanned is_hex s a (Err p) → TripleScanned s a (Err p)
  first_stuck (none_there z w) =
      no_digit (λ extra ls b p r. subst (MalformedAt extra s) (sym z) (halts p refl refl (λ h. rw (w h)) r))

  pub second_scanned : {d : Cursor} {v : Result Cursor Place} → OneScanned is_hex s a (Ok d) → OneScanned is_hex s d.at.0 v
      → TripleScanned s a v
  second_scanned {v = v} (one_there e x) w = go (subst (λ (i : ℕ). OneScanned is_hex s i v) e w)
    where
      go : {v : Result Cursor Place} → OneScanned is_hex s (suc a) v → TripleScanned s a v
      go (none_there z y) =
          no_digit
          (λ extra ls b p r.
          subst (MalformedAt extra s) (sym z)
          (halts (stands_on (hex ls b) p x.inside (rw x.is)) refl refl (λ h. rw (y h)) r))
      go (one_there z y) = digits z x y
