-- Behind a backslash it is the octet meant, and else the one there.
use Rattle.units.proofs.Looking.{meant, stands}
use Rattle.units.proofs.read_at.Goals as goal

pub returns-in-Unescaped : goal.returns-in-Unescaped
returns-in-Unescaped c = meant c.in-Unescaped.is c.meant_at.ensures

pub returns-in-AsItStands : goal.returns-in-AsItStands
returns-in-AsItStands c =
    stands c.args.s.now c.in-AsItStands.is c.requires.0 c.requires.1
