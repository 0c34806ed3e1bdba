-- The law holds.
use Rattle.grammar.proofs.Exact.{derived_read, read_derived}
use Rattle.grammar.proofs.machine_exact.Goals as goal

pub returns : goal.returns
returns c =
    record {
      derived_read = λ extra apart s R f. derived_read extra apart s f;
      read_derived = λ extra apart s R e. read_derived extra apart s e;
    }
