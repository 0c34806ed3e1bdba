-- The octets that end a component are no backslashes, so one of them stands for itself in a text. Assumes nothing.
use Prim.Native.Nat.{ℕ}
use mathlib.Core.Path.{◌≡◌, refl, sym, ap, ◌∙◌}
use mathlib.Core.Bool.{Bool, true, false, ◌||◌, false≢true}
use mathlib.Core.List.{List}
use Rattle.octets.specs.Sets.{one_of}
use Rattle.components.specs.declared.Stops.{Stops}
use Rattle.components.specs.declared.Stops.TheVariants.{Scheme, Authority, Path, Query}
use Rattle.components.specs.Looks.{stops_of}

pub ends_bare : (x : Stops) → one_of (stops_of x) 92 ≡ false
ends_bare Scheme = refl
ends_bare Authority = refl
ends_bare Path = refl
ends_bare Query = refl

pub end_octet : (cs : List ℕ) (c : ℕ) → one_of cs 92 ≡ false → one_of cs c ≡ true → c ≡ 92 → ⊥
end_octet cs c n h e = false≢true (sym n ∙ ap (one_of cs) (sym e) ∙ h)

-- tests joined from the left, as code has them, are the test of a set; with `false` in front they serve smaller sets
pub joined : (p q r t : Bool) → (((p || q) || r) || t) ≡ (p || (q || (r || (t || false))))
joined true q r t = refl
joined false true r t = refl
joined false false true t = refl
joined false false false true = refl
joined false false false false = refl
