-- An octet that is no backslash is read where it stands; else where it is read, if one is left.
use Rattle.units.proofs.Looking.{at_its_end, plain, reads_octet, reads_none}
use Rattle.units.proofs.look.Goals as goal

pub returns-then-k-e : goal.returns-then-k-e
returns-then-k-e c =
    at_its_end c.args.how c.args.s.now c.if-k-e.true

pub returns-then-c-ne92 : goal.returns-then-c-ne92
returns-then-c-ne92 c =
    let before_end = c.if-k-e.false in
    reads_octet (plain c.args.how c.args.s.now c.if-c-ne92.true before_end c.requires) before_end
    c.next.ensures

pub returns-then-p-e : goal.returns-then-p-e
returns-then-p-e c = reads_none c.read_at-p.ensures c.if-p-e.true

pub returns : goal.returns
returns c = reads_octet c.read_at-p.ensures c.if-p-e.false c.next-2.ensures
