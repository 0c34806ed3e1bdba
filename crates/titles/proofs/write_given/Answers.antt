-- The octets given are put if there is room.
use Rattle.copy.proofs.InRoom.{short_buffer, all_put}
use Rattle.titles.proofs.write_given.Goals as goal

pub returns-then-n-out : goal.returns-then-n-out
returns-then-n-out c = short_buffer c.requires.2 c.if-n-out.true

pub returns : goal.returns
returns c =
    all_put c.requires.2 c.if-n-out.false c.start.ensures
    c.put_given.ensures
