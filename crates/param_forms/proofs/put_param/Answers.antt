-- `;` and a space, the folded name, `=`, the value.
use mathlib.Core.List.{[], ◌∷◌, ◌++◌}
use Rattle.grammar.specs.Kept.{name_of}
use Rattle.records.specs.Slots.{to_param}
use Rattle.tables.specs.Meaning.{value_of}
use Rattle.tables.specs.Written.{written_value}
use Rattle.shape.specs.Forms.{param_form}
use Rattle.kinds.proofs.Putting.{begin, several, last, room, last_room, octet_room}
use borrow.Author.Rules.{rules}
use Rattle.param_forms.proofs.put_param.Goals as goal

pub put_two-name-requires : goal.put_two-name-requires
put_two-name-requires c =
    let p = to_param c.args.p in
    let name = name_of c.args.text.now p in
    let value = written_value (value_of c.args.text.now p) in
    let w = begin c.args.out.now c.args.at.0 (param_form c.args.text.now p) c.requires.p_in_bounds in
    room (59 ∷ 32 ∷ []) (name ++ 61 ∷ value) w

pub put_folded-equals-requires : goal.put_folded-equals-requires
unfolding name_of
put_folded-equals-requires c =
    let p = to_param c.args.p in
    let name = name_of c.args.text.now p in
    let value = written_value (value_of c.args.text.now p) in
    let w = begin c.args.out.now c.args.at.0 (param_form c.args.text.now p) c.requires.p_in_bounds in
    let w1 = several w c.put_two-name.ensures in
    record {
      in_text = c.requires.good_param.name_span;
      s_in_bounds = room name (61 ∷ value) w1;
    }

pub put-value-requires : goal.put-value-requires
unfolding name_of
put-value-requires c =
    let put-two' = c.put_two-name in
    let p = to_param c.args.p in
    let name = name_of c.args.text.now p in
    let w = begin c.args.out.now c.args.at.0 (param_form c.args.text.now p) c.requires.p_in_bounds in
    let w1 = several w put-two'.ensures in
    octet_room (several {bs = name} w1 c.put_folded-equals.ensures)

pub put_value-requires : goal.put_value-requires
unfolding name_of
put_value-requires c =
    let put-two' = c.put_two-name in
    let put-folded' = c.put_folded-equals in
    let p = to_param c.args.p in
    let name = name_of c.args.text.now p in
    let w = begin c.args.out.now c.args.at.0 (param_form c.args.text.now p) c.requires.p_in_bounds in
    let w1 = several w put-two'.ensures in
    let w2 = several {bs = name} w1 put-folded'.ensures in
    record {
      good_param = c.requires.good_param;
      p_in_bounds = last_room (several w2 c.put-value.ensures);
    }

pub returns : goal.returns
unfolding name_of
returns c =
    let put-two' = c.put_two-name in
    let put-folded' = c.put_folded-equals in
    let put' = c.put-value in
    let p = to_param c.args.p in
    let name = name_of c.args.text.now p in
    let w = begin c.args.out.now c.args.at.0 (param_form c.args.text.now p) c.requires.p_in_bounds in
    let w1 = several w put-two'.ensures in
    let w2 = several {bs = name} w1 put-folded'.ensures in
    last (several w2 put'.ensures) c.put_value.ensures
