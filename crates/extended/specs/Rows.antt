-- Extended values judged by hand: right ones with the octets that they give, and wrong ones.
use Rattle.std.specs.Prelude.{ℕ, ◌≡◌, Bool, true, false, cond, List, [], ◌∷◌, ◌++◌}
use Prim.Native.String.{String}
use Rattle.std.proofs.Math.Option.{Option, none, some}
use Rattle.octets.specs.Text.{octets}
use Rattle.octets.specs.Fold.{same}
use Rattle.extended.specs.Decoded.{decoded}

pub data Row : Type 0 where
  right : String → List ℕ → Row
  wrong : List String → Row

abbrev pub is_right : Option (List ℕ) → Bool
is_right none = false
is_right (some v) = true

abbrev pub is_given : Option (List ℕ) → List ℕ → Bool
is_given none v = false
is_given (some u) v = same u v

-- the values that are right though they stand for wrong
abbrev pub right_among : List String → List String
right_among [] = []
right_among (t ∷ ts) = cond (is_right (decoded (octets t))) (t ∷ right_among ts) (right_among ts)

abbrev pub failing_in : Row → List String
failing_in (right t v) = cond (is_given (decoded (octets t)) v) [] (t ∷ [])
failing_in (wrong ts) = right_among ts

-- the values of which the definition, tried octet by octet, says something else
abbrev pub failing : List Row → List String
failing [] = []
failing (r ∷ rs) = failing_in r ++ failing rs

abbrev pub rows : List Row
rows =
    -- the chapter titles of RFC 8288's example
    right "UTF-8'de'letztes%20Kapitel" (octets "letztes Kapitel")
    ∷ right "UTF-8'de'n%c3%a4chstes%20Kapitel" (octets "n" ++ 0xC3 ∷ 0xA4 ∷ octets "chstes Kapitel")
    -- charset in any case, triples in either, a language with digits and hyphens; no octets, and the octet 0
    ∷ right "utf-8'en'%C2%A3" (0xC2 ∷ 0xA3 ∷ [])
    ∷ right "uTf-8'de-CH-1996'!#$&+-.^_`|~aZ09" (octets "!#$&+-.^_`|~aZ09")
    ∷ right "UTF-8''" []
    ∷ right "UTF-8''%00" (0x00 ∷ [])
    -- other charsets, parts that are missing, a language of other octets
    ∷ wrong ("" ∷ "UTF-8" ∷ "UTF-8'" ∷ "UTF-8'a" ∷ "'''" ∷ "''a" ∷ "UTF8''a" ∷ "UTF-16''a" ∷ "ISO-8859-1''a" ∷ " UTF-8''a" ∷ "UTF-8 ''a" ∷ "UTF-8'a_b'c" ∷ [])
    -- no attribute characters, and no whole triples
    ∷ wrong ("UTF-8'''" ∷ "UTF-8''a*" ∷ "UTF-8''a b" ∷ "UTF-8''\\a" ∷ "UTF-8''%" ∷ "UTF-8''%4" ∷ "UTF-8''%4g" ∷ "UTF-8''%g4" ∷ "UTF-8''%%41" ∷ [])
    -- the least and the largest sequence of each row of RFC 3629's table
    ∷ right "UTF-8''%7F%C2%80%DF%BF" (0x7F ∷ 0xC2 ∷ 0x80 ∷ 0xDF ∷ 0xBF ∷ [])
    ∷ right "UTF-8''%E0%A0%80%E0%BF%BF" (0xE0 ∷ 0xA0 ∷ 0x80 ∷ 0xE0 ∷ 0xBF ∷ 0xBF ∷ [])
    ∷ right "UTF-8''%E1%80%80%EC%BF%BF" (0xE1 ∷ 0x80 ∷ 0x80 ∷ 0xEC ∷ 0xBF ∷ 0xBF ∷ [])
    ∷ right "UTF-8''%ED%80%80%ED%9F%BF" (0xED ∷ 0x80 ∷ 0x80 ∷ 0xED ∷ 0x9F ∷ 0xBF ∷ [])
    ∷ right "UTF-8''%EE%80%80%EF%BF%BF" (0xEE ∷ 0x80 ∷ 0x80 ∷ 0xEF ∷ 0xBF ∷ 0xBF ∷ [])
    ∷ right "UTF-8''%F0%90%80%80%F0%BF%BF%BF" (0xF0 ∷ 0x90 ∷ 0x80 ∷ 0x80 ∷ 0xF0 ∷ 0xBF ∷ 0xBF ∷ 0xBF ∷ [])
    ∷ right "UTF-8''%F1%80%80%80%F3%BF%BF%BF" (0xF1 ∷ 0x80 ∷ 0x80 ∷ 0x80 ∷ 0xF3 ∷ 0xBF ∷ 0xBF ∷ 0xBF ∷ [])
    ∷ right "UTF-8''%F4%80%80%80%F4%8F%BF%BF" (0xF4 ∷ 0x80 ∷ 0x80 ∷ 0x80 ∷ 0xF4 ∷ 0x8F ∷ 0xBF ∷ 0xBF ∷ [])
    -- forms that aren't the shortest, surrogates, numbers over 10FFFF hex, octets that begin nothing
    ∷ wrong ("UTF-8''%C0%80" ∷ "UTF-8''%C1%BF" ∷ "UTF-8''%E0%80%80" ∷ "UTF-8''%E0%9F%BF" ∷ "UTF-8''%F0%80%80%80" ∷ "UTF-8''%F0%8F%BF%BF" ∷ [])
    ∷ wrong ("UTF-8''%ED%A0%80" ∷ "UTF-8''%ED%BF%BF" ∷ "UTF-8''%F4%90%80%80" ∷ "UTF-8''%F5%80%80%80" ∷ [])
    ∷ wrong ("UTF-8''%80" ∷ "UTF-8''%BF" ∷ "UTF-8''%FE" ∷ "UTF-8''%FF" ∷ [])
    -- sequences cut short, at the end and by what follows
    ∷ wrong ("UTF-8''%C3" ∷ "UTF-8''%C3a" ∷ "UTF-8''%E2%82" ∷ "UTF-8''%E2%82a" ∷ "UTF-8''%F0%9F%98" ∷ "UTF-8''%F0%9F%98%C3%A4" ∷ [])
    ∷ []

-- every row is as it was judged
abbrev pub RowsHold : Type 0
RowsHold = failing rows ≡ []
