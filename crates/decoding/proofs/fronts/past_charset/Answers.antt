-- One octet behind another, up to the quote.
use mathlib.Core.Path.{refl}
use Rattle.decoding.proofs.BehindFront.{charset_behind}
use Rattle.decoding.proofs.fronts.past_charset.Goals as goal

pub returns-in_err-u : goal.returns-in_err-u
returns-in_err-u c =
    rw c.from_residual.ensures (charset_behind _ _ _ _ _ _ _ c.in_err-u.ensures refl refl refl refl refl)

pub returns-in_err-t : goal.returns-in_err-t
returns-in_err-t c =
    rw c.from_residual-in_err-t.ensures (charset_behind _ _ _ _ _ _ _ c.in_ok-u.ensures c.in_err-t.ensures refl refl refl refl)

pub returns-in_err-f : goal.returns-in_err-f
returns-in_err-f c =
    rw c.from_residual-in_err-f.ensures (charset_behind _ _ _ _ _ _ _ c.in_ok-u.ensures c.in_ok-t.ensures c.in_err-f.ensures refl refl refl)

pub returns-in_err-hyphen : goal.returns-in_err-hyphen
returns-in_err-hyphen c =
    rw c.from_residual-in_err-hyphen.ensures (charset_behind _ _ _ _ _ _ _ c.in_ok-u.ensures c.in_ok-t.ensures c.in_ok-f.ensures c.in_err-hyphen.ensures refl refl)

pub returns-in_err-eight : goal.returns-in_err-eight
returns-in_err-eight c =
    rw c.from_residual-in_err-eight.ensures (charset_behind _ _ _ _ _ _ _ c.in_ok-u.ensures c.in_ok-t.ensures c.in_ok-f.ensures c.in_ok-hyphen.ensures c.in_err-eight.ensures refl)

pub returns : goal.returns
returns c =
    charset_behind _ _ _ _ _ _ _ c.in_ok-u.ensures c.in_ok-t.ensures c.in_ok-f.ensures c.in_ok-hyphen.ensures c.in_ok-eight.ensures c.past_octet-6.ensures
