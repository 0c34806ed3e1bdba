-- `<`, the target, `>`, and the parameters.
use mathlib.Core.List.{◌∷◌}
use lib.Seq.{slice}
use Rattle.records.specs.Slots.{to_link}
use Rattle.tables.specs.Table.{params_from}
use Rattle.shape.specs.Forms.{params_form, link_form}
use Rattle.shape.proofs.LeftToWrite.{whole_run}
use Rattle.kinds.proofs.Putting.{begin, several, last, room, last_room, octet_room, onto}
use borrow.Author.Rules.{rules}
use Rattle.link_forms.proofs.put_link.Goals as goal

pub put_part-close-requires : goal.put_part-close-requires
put_part-close-requires c =
    let l = c.args.l in
    let target = slice l.target.from.0 l.target.to.0 c.args.text.now in
    let left = params_form c.args.text.now (params_from c.args.params.now l.first.0 l.count) in
    let form = link_form c.args.text.now (to_link c.args.params.now l) in
    let w = begin c.args.out.now c.args.at.0 form c.requires.l_in_bounds in
    let w1 = several w c.put-target.ensures in
    record {
      in_text = c.requires.in_text;
      s_in_bounds = room target (62 ∷ left) w1;
    }

pub put-behind-requires : goal.put-behind-requires
put-behind-requires c =
    let put' = c.put-target in
    let l = c.args.l in
    let target = slice l.target.from.0 l.target.to.0 c.args.text.now in
    let form = link_form c.args.text.now (to_link c.args.params.now l) in
    let w = begin c.args.out.now c.args.at.0 form c.requires.l_in_bounds in
    let w1 = several w put'.ensures in
    octet_room (several {bs = target} w1 c.put_part-close.ensures)

pub put_params-requires : goal.put_params-requires
put_params-requires c =
    let put' = c.put-target in
    let put-part' = c.put_part-close in
    let plus' = c.plus-end in
    let l = c.args.l in
    let target = slice l.target.from.0 l.target.to.0 c.args.text.now in
    let form = link_form c.args.text.now (to_link c.args.params.now l) in
    let w = begin c.args.out.now c.args.at.0 form c.requires.l_in_bounds in
    let w1 = several w put'.ensures in
    let w2 = several {bs = target} w1 put-part'.ensures in
    let w3 = several w2 c.put-behind.ensures in
    let w4 = onto (whole_run c.args.text.now c.args.params.now l.first.0 l.count) w3 in
    record {
      good_run = rw plus'.ensures c.requires.good_run;
      first_in_bounds = rw plus'.ensures (last_room w4);
    }

pub returns : goal.returns
returns c =
    let put' = c.put-target in
    let put-part' = c.put_part-close in
    let put2' = c.put-behind in
    let l = c.args.l in
    let target = slice l.target.from.0 l.target.to.0 c.args.text.now in
    let form = link_form c.args.text.now (to_link c.args.params.now l) in
    let w = begin c.args.out.now c.args.at.0 form c.requires.l_in_bounds in
    let w1 = several w put'.ensures in
    let w2 = several {bs = target} w1 put-part'.ensures in
    let w3 = several w2 put2'.ensures in
    let w4 = onto (whole_run c.args.text.now c.args.params.now l.first.0 l.count) w3 in
    last w4 (rw c.plus-end.ensures at c.put_params.ensures)
