-- How long the inside of a quoted string is once its meaning is escaped again, by its span: no longer, since every `"` and every backslash
-- meant stands behind a backslash there.
use Prim.Native.Nat.{ℕ, suc, ◌+◌, ◌-◌, ◌≤◌, ◌<◌}
use native.Mathlib.Omega.{arith}
use native.Mathlib.Numerals.{add-one}
use mathlib.Core.Path.{◌≡◌, ap, ◌∙◌}
use mathlib.Core.Bool.{true}
use mathlib.Core.List.{List}
use lib.ListN.{length, get_or}
use borrow.Author.Tests.{eqb-false}
use Rattle.octets.specs.Sets.{is_plain}
use Rattle.grammar.specs.Grammar.{Inside, inside_end, plain, pair}
use Rattle.grammar.proofs.Classes.{plain_not_quote, plain_not_backslash}
use Rattle.tables.specs.Written.{escape}
use Rattle.tables.proofs.Texts.{inside_le}
use Rattle.values.specs.Rest.{rest, Meant}
use Rattle.values.proofs.Meant.{none_left, at_plain, at_backslash}
use Rattle.shape.specs.Shape.{escaped_len}
use Rattle.shape.proofs.EscapedLengths.{escaped_length, escaped_bounds}

-- an octet that stands for itself gets no backslash
pub plain_len : (c : ℕ) → is_plain c ≡ true → escaped_len c ≡ 1
plain_len c h = rw (plain_not_quote c h, plain_not_backslash c h)

-- of the octet meant at a place, and of what is left behind it
pub meant_escaped : {s : List ℕ} {e k p : ℕ} → Meant s e k p → p < e
    → length (escape (rest s e k)) ≡ escaped_len (get_or s p 0) + length (escape (rest s e (suc p)))
meant_escaped {s} {e} {k} {p} m l =
    ap (λ v. length (escape v)) (m.octet l) ∙ escaped_length (get_or s p 0) (escape (rest s e (suc p)))

pub inside_bound : {s : List ℕ} {k e : ℕ} → e ≤ length s → Inside s k e → length (escape (rest s e k)) ≤ e - k
inside_bound {s} {k} l inside_end = omega (arith, ap (λ v. length (escape v)) (none_left s {e = k} {k = k} (omega arith)))
inside_bound {s} {k} {e} l (plain c r) =
    let some : suc k ≤ e = inside_le s r in
    let m : Meant s e k k = at_plain some l (eqb-false (get_or s k 0) 92 (plain_not_backslash _ c.is)) in
    omega (arith, some, inside_bound l r, meant_escaped m some, plain_len (get_or s k 0) c.is)
inside_bound {s} {k} {e} l (pair b c r) =
    let some : suc (suc k) ≤ e = inside_le s r in
    let m : Meant s e k (suc k) = rw (add-one k) at (at_backslash {s = s} {e = e} {k = k} (omega arith) l b.is) in
    omega (arith, some, inside_bound l r, meant_escaped m some, escaped_bounds (get_or s (suc k) 0))
