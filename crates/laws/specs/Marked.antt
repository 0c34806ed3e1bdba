-- The twelve headers read by hand that are proved together.
use Rattle.std.specs.Prelude.{List, [], ◌∷◌}
use Rattle.octets.specs.Text.{octets}
use Rattle.outcomes.specs.Number.{no_relation_number}
use Rattle.laws.specs.Row.{Row, reads, malformed, writes, answers}

abbrev pub marked : List Row
marked =
    record { header = []; judgement = reads [] [] [] (writes []) }
    ∷ record { header = octets ",, ,"; judgement = reads [] [] [] (writes []) }
    ∷ record {
      header = octets "</terms>; rel=\"copyright\"; anchor=\"#foo\"";
      judgement =
          reads (1 ∷ 7 ∷ 0 ∷ 2 ∷ []) (10 ∷ 13 ∷ 15 ∷ 24 ∷ 2 ∷ 1 ∷ 27 ∷ 33 ∷ 35 ∷ 39 ∷ 2 ∷ 2 ∷ []) (octets "copyright" ∷ [])
          (writes (octets "</terms>; rel=copyright; anchor=#foo"));
    }
    ∷ record {
      header = octets "<>;x";
      judgement = reads (1 ∷ 1 ∷ 0 ∷ 1 ∷ []) (3 ∷ 4 ∷ 4 ∷ 4 ∷ 0 ∷ 0 ∷ []) [] (answers no_relation_number);
    }
    ∷ record {
      header = octets "<a>;REL=Next;rel=prev";
      judgement =
          reads (1 ∷ 2 ∷ 0 ∷ 1 ∷ []) (4 ∷ 7 ∷ 8 ∷ 12 ∷ 1 ∷ 1 ∷ []) (octets "next" ∷ []) (writes (octets "<a>; rel=Next"));
    }
    ∷ record {
      header = octets "<a>;rel=\"ne\\xt\"";
      judgement =
          reads (1 ∷ 2 ∷ 0 ∷ 1 ∷ []) (4 ∷ 7 ∷ 9 ∷ 14 ∷ 2 ∷ 1 ∷ []) (octets "next" ∷ []) (writes (octets "<a>; rel=next"));
    }
    ∷ record { header = octets "<a>;rel=next;"; judgement = malformed 13 }
    ∷ record { header = octets "<a> <b>"; judgement = malformed 4 }
    ∷ record { header = octets "<a%4g>"; judgement = malformed 4 }
    ∷ record { header = octets "<a>;rel=a/b"; judgement = malformed 9 }
    ∷ record { header = octets "<a>;x=,<b>"; judgement = malformed 6 }
    ∷ record {
      header = octets "<a>;t=\"b,c\"";
      judgement = reads (1 ∷ 2 ∷ 0 ∷ 1 ∷ []) (4 ∷ 5 ∷ 7 ∷ 10 ∷ 2 ∷ 0 ∷ []) [] (answers no_relation_number);
    }
    ∷ []
