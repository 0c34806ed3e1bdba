-- A quote, the octets, a quote.
use mathlib.Core.List.{[], ◌∷◌}
use Rattle.tables.specs.Written.{escape}
use Rattle.values.specs.Rest.{rest}
use Rattle.shape.specs.Shape.{in_quotes}
use Rattle.kinds.proofs.Putting.{begin, several, finish, room, octet_room}
use Rattle.param_forms.proofs.put_in_quotes.Goals as goal

pub put-inside-requires : goal.put-inside-requires
put-inside-requires c =
    let value = rest c.args.s.now c.args.part.to.0 c.args.part.from.0 in
    octet_room (begin c.args.out.now c.args.at.0 (in_quotes value) c.requires.from_in_bounds)

pub put_escaped-end-requires : goal.put_escaped-end-requires
put_escaped-end-requires c =
    let value = rest c.args.s.now c.args.part.to.0 c.args.part.from.0 in
    let w = begin c.args.out.now c.args.at.0 (in_quotes value) c.requires.from_in_bounds in
    let w1 = several w c.put-inside.ensures in
    record {
      in_text = c.requires.in_text;
      from_in_bounds = room (escape value) (34 ∷ []) w1;
    }

pub put-requires : goal.put-requires
put-requires c =
    let put' = c.put-inside in
    let value = rest c.args.s.now c.args.part.to.0 c.args.part.from.0 in
    let w = begin c.args.out.now c.args.at.0 (in_quotes value) c.requires.from_in_bounds in
    let w1 = several w put'.ensures in
    octet_room (several w1 c.put_escaped-end.ensures)

pub returns : goal.returns
returns c =
    let put' = c.put-inside in
    let put-escaped' = c.put_escaped-end in
    let value = rest c.args.s.now c.args.part.to.0 c.args.part.from.0 in
    let w = begin c.args.out.now c.args.at.0 (in_quotes value) c.requires.from_in_bounds in
    let w1 = several w put'.ensures in
    let w2 = several w1 put-escaped'.ensures in
    finish (several w2 c.put.ensures)
