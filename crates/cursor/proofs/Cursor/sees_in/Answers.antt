-- Inside the text the octet is asked, and past its end nothing stands.
use native.Mathlib.Omega.{arith}
use mathlib.Core.Path.{sym, ◌∙◌}
use mathlib.Core.Bool.{false≢true}
use Rattle.cursor.proofs.Cursor.sees_in.Goals as goal

pub returns-then-i-s : goal.returns-then-i-s
returns-then-i-s c =
    record {
      yes = λ e. record { inside = c.if-i-s.true; is = sym c.is_in.ensures ∙ e };
      not = λ e h. sym c.is_in.ensures ∙ e;
    }

pub returns : goal.returns
returns c =
    record { yes = λ e. absurd (false≢true e); not = λ e h. absurd (omega (arith, c.if-i-s.false)) }
