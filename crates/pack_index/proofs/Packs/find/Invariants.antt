-- No pack before number i has the URI.
use Rattle.pack_index.proofs.Finding.{OthersUpTo}
use Rattle.pack_index.proofs.Packs.find.Given as goal

abbrev pub invariant-loop-i : goal.invariant-loop-i
invariant-loop-i l = OthersUpTo l.self.text.now l.self.index.now l.self.count l.uri l.i
