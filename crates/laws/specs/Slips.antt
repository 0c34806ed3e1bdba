-- Headers at which readers elsewhere slip: the same statement as for the marked ones.
use Rattle.std.specs.Prelude.{List, [], ◌∷◌}
use Rattle.octets.specs.Text.{octets}
use Rattle.outcomes.specs.Number.{no_relation_number}
use Rattle.laws.specs.Row.{Row, reads, malformed, writes, answers}

abbrev pub slips : List Row
slips =
    -- cut short inside quotes
    record { header = octets "<a>;t=\"b"; judgement = malformed 8 }
    -- a comma inside a target parts no links
    ∷ record { header = octets "<a,b>"; judgement = reads (1 ∷ 4 ∷ 0 ∷ 0 ∷ []) [] [] (answers no_relation_number) }
    -- an empty place before the first link
    ∷ record { header = octets ",<a>"; judgement = reads (2 ∷ 3 ∷ 0 ∷ 0 ∷ []) [] [] (answers no_relation_number) }
    -- a semicolon and a comma inside quotes part nothing
    ∷ record {
      header = octets "<a>;t=\";,\";rel=b";
      judgement =
          reads (1 ∷ 2 ∷ 0 ∷ 2 ∷ []) (4 ∷ 5 ∷ 7 ∷ 9 ∷ 2 ∷ 0 ∷ 11 ∷ 14 ∷ 15 ∷ 16 ∷ 1 ∷ 1 ∷ []) (octets "B" ∷ [])
          (writes (octets "<a>; t=\";,\"; rel=b"));
    }
    -- of two titles the first is kept
    ∷ record {
      header = octets "<a>;rel=b;title=c;TITLE=d";
      judgement =
          reads (1 ∷ 2 ∷ 0 ∷ 2 ∷ []) (4 ∷ 7 ∷ 8 ∷ 9 ∷ 1 ∷ 1 ∷ 10 ∷ 15 ∷ 16 ∷ 17 ∷ 1 ∷ 4 ∷ []) (octets "b" ∷ [])
          (writes (octets "<a>; rel=b; title=c"));
    }
    -- of two hreflangs both are kept
    ∷ record {
      header = octets "<a>;hreflang=b;hreflang=c;rel=d";
      judgement =
          reads (1 ∷ 2 ∷ 0 ∷ 3 ∷ [])
          (4 ∷ 12 ∷ 13 ∷ 14 ∷ 1 ∷ 7 ∷ 15 ∷ 23 ∷ 24 ∷ 25 ∷ 1 ∷ 7 ∷ 26 ∷ 29 ∷ 30 ∷ 31 ∷ 1 ∷ 1 ∷ []) (octets "d" ∷ [])
          (writes (octets "<a>; hreflang=b; hreflang=c; rel=d"));
    }
    -- a relation is compared folded, and with backslashes out; SP parts relations, HTAB doesn't
    ∷ record {
      header = octets "<a>;rel=\" N\\Ext b\tc \"";
      judgement =
          reads (1 ∷ 2 ∷ 0 ∷ 1 ∷ []) (4 ∷ 7 ∷ 9 ∷ 20 ∷ 2 ∷ 1 ∷ []) (octets "next" ∷ octets "B\tC" ∷ [])
          (writes (octets "<a>; rel=\" NExt b\tc \""));
    }
    -- links are written behind one another, and a parameter without `=` gets an empty value
    ∷ record {
      header = octets "<a>;rel=b;c , ,<d>;rel=e";
      judgement =
          reads (1 ∷ 2 ∷ 0 ∷ 2 ∷ 16 ∷ 17 ∷ 2 ∷ 1 ∷ [])
          (4 ∷ 7 ∷ 8 ∷ 9 ∷ 1 ∷ 1 ∷ 10 ∷ 11 ∷ 11 ∷ 11 ∷ 0 ∷ 0 ∷ 19 ∷ 22 ∷ 23 ∷ 24 ∷ 1 ∷ 1 ∷ []) (octets "b" ∷ [])
          (writes (octets "<a>; rel=b; c=\"\", <d>; rel=e"));
    }
    -- a `rel` without a value, with an empty one, or with spaces alone, also escaped ones, holds no relation
    ∷ record { header = octets "<a>;rel"; judgement = reads (1 ∷ 2 ∷ 0 ∷ 1 ∷ []) (4 ∷ 7 ∷ 7 ∷ 7 ∷ 0 ∷ 1 ∷ []) [] (answers no_relation_number) }
    ∷ record { header = octets "<a>;rel=\"\""; judgement = reads (1 ∷ 2 ∷ 0 ∷ 1 ∷ []) (4 ∷ 7 ∷ 9 ∷ 9 ∷ 2 ∷ 1 ∷ []) [] (answers no_relation_number) }
    ∷ record {
      header = octets "<a>;rel=\"  \"";
      judgement = reads (1 ∷ 2 ∷ 0 ∷ 1 ∷ []) (4 ∷ 7 ∷ 9 ∷ 11 ∷ 2 ∷ 1 ∷ []) [] (answers no_relation_number);
    }
    ∷ record {
      header = octets "<a>;rel=\"\\ \\ \"";
      judgement = reads (1 ∷ 2 ∷ 0 ∷ 1 ∷ []) (4 ∷ 7 ∷ 9 ∷ 13 ∷ 2 ∷ 1 ∷ []) [] (answers no_relation_number);
    }
    -- a later one of a kept name must still be well formed
    ∷ record { header = octets "<a>;rel=b;rel=;"; judgement = malformed 14 }
    ∷ []
