-- RFC 8288's edition has no such value, and in the older one form 3 alone is asked.
use borrow.Author.Tests.{ne_eqb}
use Rattle.param_check.proofs.Values.{no_wider, of_form_three, other_form}
use Rattle.param_check.proofs.is_wider_value.Goals as goal

pub returns-in-Rfc8288 : goal.returns-in-Rfc8288
returns-in-Rfc8288 c = rw c.in-Rfc8288.is no_wider

pub returns-then-p-eq3 : goal.returns-then-p-eq3
returns-then-p-eq3 c = of_form_three c.if-p-eq3.true c.is_wider_part.ensures

pub returns-else-p-eq3 : goal.returns-else-p-eq3
returns-else-p-eq3 c =
    let form = c.args.p.form in
    rw (ne_eqb form 3 c.if-p-eq3.false) (other_form c.if-p-eq3.false)
