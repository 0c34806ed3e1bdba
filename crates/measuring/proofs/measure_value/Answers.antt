-- The exact length, or the span's with quotes, which bounds it.
use native.Mathlib.Omega.{arith}
use mathlib.Core.Path.{sym, ◌∙◌}
use mathlib.Core.Bool.{false≢true}
use Rattle.shape.proofs.ValueLengths.{span_bound}
use Rattle.measuring.proofs.measure_value.Goals as goal

pub returns-then-this-ne0 : goal.returns-then-this-ne0
returns-then-this-ne0 g c =
    let is = c.value_len.ensures in
    let few = span_bound c.requires.good_param in (
      record { enough = omega (arith, is); same = λ _. sym is },
      omega (arith, is, few, c.requires.good_param.value_span.inside, c.requires.text_len_bound),
    )

pub returns-else-this-ne0 : goal.returns-else-this-ne0
returns-else-this-ne0 g c =
    let is = c.len.ensures in (
      record {
        enough = omega (arith, is, span_bound c.requires.good_param);
        same = λ e. absurd (false≢true (rw c.if-this-ne0.false at e));
      },
      omega (arith, is, c.requires.good_param.value_span.inside, c.requires.text_len_bound),
    )
