-- Each test decides a clause, and the name is asked once the others hold.
use mathlib.Core.Logic.{⊎_elim}
use borrow.Author.Rules.{rules}
use Rattle.grammar.specs.Kept.{name_of}
use Rattle.part_check.proofs.Deciding.{also, not_so}
use Rattle.param_check.proofs.is_good_param.Goals as goal

pub is_good_value-requires : goal.is_good_value-requires
is_good_value-requires c = (c.is_span-then-is_span.ensures.holds c.if-is_span-2.true)

pub is_good_name-requires : goal.is_good_name-requires
is_good_name-requires c = (c.is_span.ensures.holds c.if-is_span.true)

pub returns-then-is_good_value : goal.returns-then-is_good_value
unfolding name_of
returns-then-is_good_value c =
    also
    (λ g.
    record {
      good =
          record {
            name_span = c.is_span.ensures.holds c.if-is_span.true;
            value_span = c.is_span-then-is_span.ensures.holds c.if-is_span-2.true;
            name = g.token;
            value = c.is_good_value.ensures.holds c.if-is_good_value.true;
          };
      code = g.code;
    })
    (λ g. record { token = g.good.name; code = g.code }) c.is_good_name.ensures
