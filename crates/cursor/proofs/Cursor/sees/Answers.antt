-- Inside the text the octet is compared, and past its end nothing stands.
use borrow.Author.Tests.{eqb-true}
use native.Mathlib.Omega.{arith}
use mathlib.Core.Bool.{false≢true}
use Rattle.cursor.proofs.Cursor.sees.Goals as goal

pub returns-then-i-s : goal.returns-then-i-s
returns-then-i-s c =
    record { yes = λ e. record { inside = c.if-i-s.true; is = eqb-true _ _ e }; not = λ e h. e }

pub returns : goal.returns
returns c =
    record { yes = λ e. absurd (false≢true e); not = λ e h. absurd (omega (arith, c.if-i-s.false)) }
