-- Headers and tables whose targets are references, or are none, judged by hand: of headers the same statement as for the marked ones.
use Rattle.std.specs.Prelude.{ℕ, List, [], ◌∷◌, length}
use Rattle.octets.specs.Text.{octets}
use Rattle.tables.specs.Table.{Table}
use Rattle.outcomes.specs.Number.{no_relation_number}
use Rattle.laws.specs.Row.{Row, reads, malformed, writes, answers, recorded_table}

-- in each edition
abbrev pub references : List Row
references =
    -- a closed target that is no reference is told where it starts: a colon in the first segment behind no scheme, a second `#`, a port
    -- with a letter, a bracket in a query
    record { header = octets "<1:a>"; judgement = malformed 1 }
    ∷ record { header = octets "<a#b#c>"; judgement = malformed 1 }
    ∷ record { header = octets "<//a:b>"; judgement = malformed 1 }
    ∷ record { header = octets "<?[>"; judgement = malformed 1 }
    -- one that isn't closed isn't judged: the header is cut short, or an octet or a triple is wrong
    ∷ record { header = octets "<1:a"; judgement = malformed 4 }
    ∷ record { header = octets "<1:a b>"; judgement = malformed 4 }
    ∷ record { header = octets "<a%4>"; judgement = malformed 4 }
    ∷ record { header = octets "<1:a%4>"; judgement = malformed 6 }
    -- the first of them counts, and neither what is wrong behind it nor what is right before it
    ∷ record { header = octets "<1:a><"; judgement = malformed 1 }
    ∷ record { header = octets "<a>,<1:a>;"; judgement = malformed 5 }
    ∷ record { header = octets "<1:a>,<2:b>"; judgement = malformed 1 }
    -- a wrong octet before it leaves it unread
    ∷ record { header = octets "<a>x,<1:a>"; judgement = malformed 3 }
    -- the empty reference, and one with all its components
    ∷ record { header = octets "<>"; judgement = reads (1 ∷ 1 ∷ 0 ∷ 0 ∷ []) [] [] (answers no_relation_number) }
    ∷ record {
      header = octets "<x://u@[::1]:80/b?c#d>;rel=e";
      judgement =
          reads (1 ∷ 21 ∷ 0 ∷ 1 ∷ []) (23 ∷ 26 ∷ 27 ∷ 28 ∷ 1 ∷ 1 ∷ []) (octets "e" ∷ [])
          (writes (octets "<x://u@[::1]:80/b?c#d>; rel=e"));
    }
    -- no value is judged as a target, not even an anchor's
    ∷ record {
      header = octets "<a>;x=\"<1:a>\"";
      judgement = reads (1 ∷ 2 ∷ 0 ∷ 1 ∷ []) (4 ∷ 5 ∷ 7 ∷ 12 ∷ 2 ∷ 0 ∷ []) [] (answers no_relation_number);
    }
    ∷ record {
      header = octets "<a>;anchor=\"1:a\"";
      judgement = reads (1 ∷ 2 ∷ 0 ∷ 1 ∷ []) (4 ∷ 10 ∷ 12 ∷ 15 ∷ 2 ∷ 2 ∷ []) [] (answers no_relation_number);
    }
    ∷ []

-- A bare value in the older edition is no target. In RFC 8288's no value begins with `<`.
abbrev pub bare_read : List Row
bare_read =
    record {
      header = octets "<a>;x=<1:a>";
      judgement = reads (1 ∷ 2 ∷ 0 ∷ 1 ∷ []) (4 ∷ 5 ∷ 6 ∷ 11 ∷ 3 ∷ 0 ∷ []) [] (answers no_relation_number);
    }
    ∷ []

abbrev pub bare_refused : List Row
bare_refused = record { header = octets "<a>;x=<1:a>"; judgement = malformed 6 } ∷ []

-- the table of one link, whose target is the whole text
abbrev pub target_table : List ℕ → Table
target_table s = recorded_table s (0 ∷ length s ∷ 0 ∷ 0 ∷ []) []

-- targets of the right octets that are no references
abbrev pub unfit_tables : List Table
unfit_tables = target_table (octets "1:a") ∷ target_table (octets "//a:b") ∷ target_table (octets "?[") ∷ []
