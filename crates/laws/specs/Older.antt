-- Headers with bare values, read by hand in the older edition, and in RFC 8288's where that finds them malformed elsewhere: the same
-- statement as for the marked ones.
use Rattle.std.specs.Prelude.{List, [], ◌∷◌}
use Rattle.octets.specs.Text.{octets}
use Rattle.outcomes.specs.Number.{no_relation_number}
use Rattle.laws.specs.Row.{Row, reads, malformed, writes, answers}

-- in the older edition
abbrev pub older : List Row
older =
    -- a relation that stands bare, compared folded and written in quotes
    record {
      header = octets "<a>;rel=http://example.net/foo";
      judgement =
          reads (1 ∷ 2 ∷ 0 ∷ 1 ∷ []) (4 ∷ 7 ∷ 8 ∷ 30 ∷ 3 ∷ 1 ∷ [])
          (octets "http://example.net/foo" ∷ octets "HTTP://EXAMPLE.NET/FOO" ∷ [])
          (writes (octets "<a>; rel=\"http://example.net/foo\""));
    }
    ∷ record {
      header = octets "<a>;rel=a/b";
      judgement =
          reads (1 ∷ 2 ∷ 0 ∷ 1 ∷ []) (4 ∷ 7 ∷ 8 ∷ 11 ∷ 3 ∷ 1 ∷ []) (octets "a/b" ∷ []) (writes (octets "<a>; rel=\"a/b\""));
    }
    -- a value of token octets alone is a token in every edition
    ∷ record {
      header = octets "<a>;rel=next";
      judgement =
          reads (1 ∷ 2 ∷ 0 ∷ 1 ∷ []) (4 ∷ 7 ∷ 8 ∷ 12 ∷ 1 ∷ 1 ∷ []) (octets "next" ∷ []) (writes (octets "<a>; rel=next"));
    }
    -- `=` and `<` may begin a value, and then `<` opens no target
    ∷ record { header = octets "<a>;x=="; judgement = reads (1 ∷ 2 ∷ 0 ∷ 1 ∷ []) (4 ∷ 5 ∷ 6 ∷ 7 ∷ 3 ∷ 0 ∷ []) [] (answers no_relation_number) }
    ∷ record {
      header = octets "<a>;x=<b>";
      judgement = reads (1 ∷ 2 ∷ 0 ∷ 1 ∷ []) (4 ∷ 5 ∷ 6 ∷ 9 ∷ 3 ∷ 0 ∷ []) [] (answers no_relation_number);
    }
    -- each of the further octets, and all that ends such a value: a blank, a semicolon, a comma
    ∷ record {
      header = octets "<a>;x=()/:<=>?@[]{} ;y=a(;rel=b:c,<d>;rel=e";
      judgement =
          reads (1 ∷ 2 ∷ 0 ∷ 3 ∷ 35 ∷ 36 ∷ 3 ∷ 1 ∷ [])
          (4 ∷ 5 ∷ 6 ∷ 19 ∷ 3 ∷ 0 ∷ 21 ∷ 22 ∷ 23 ∷ 25 ∷ 3 ∷ 0 ∷ 26 ∷ 29 ∷ 30 ∷ 33 ∷ 3 ∷ 1 ∷ 38 ∷ 41 ∷ 42 ∷ 43 ∷ 1 ∷ 1 ∷ []) (octets "b:c" ∷ [])
          (writes (octets "<a>; x=\"()/:<=>?@[]{}\"; y=\"a(\"; rel=\"b:c\", <d>; rel=e"));
    }
    -- names stay tokens, and no value is empty, begins with a comma, or holds a quote or a backslash
    ∷ record { header = octets "<a>;x/=b"; judgement = malformed 5 }
    ∷ record { header = octets "<a>;x="; judgement = malformed 6 }
    ∷ record { header = octets "<a>;x=,<b>"; judgement = malformed 6 }
    ∷ record { header = octets "<a>;x=/\""; judgement = malformed 7 }
    ∷ record { header = octets "<a>;x=/\\"; judgement = malformed 7 }
    ∷ record { header = octets "<a>;rel=a/b;"; judgement = malformed 12 }
    ∷ []

-- in RFC 8288's
abbrev pub older_refused : List Row
older_refused =
    record { header = octets "<a>;rel=http://example.net/foo"; judgement = malformed 12 }
    ∷ record { header = octets "<a>;rel=a/b"; judgement = malformed 9 }
    ∷ record { header = octets "<a>;x=="; judgement = malformed 6 }
    ∷ record { header = octets "<a>;x=<b>"; judgement = malformed 6 }
    ∷ record { header = octets "<a>;x=()/:<=>?@[]{} ;y=a(;rel=b:c,<d>;rel=e"; judgement = malformed 6 }
    ∷ []
