-- What the part means is measured, and copied if there is room.
use Rattle.copy.proofs.InRoom.{short_buffer, all_put}
use Rattle.copy.proofs.copy_part.Goals as goal

pub returns-then-n-out : goal.returns-then-n-out
returns-then-n-out c = short_buffer c.meaning_len-n.ensures c.if-n-out.true

pub returns : goal.returns
returns c =
    all_put c.meaning_len-n.ensures c.if-n-out.false c.start.ensures c.copy_meaning.ensures
