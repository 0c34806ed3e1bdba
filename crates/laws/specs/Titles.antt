-- Headers with titles, read by hand, and what asking for the titles of their links answers.
use Rattle.std.specs.Prelude.{ℕ, ◌≤◌, ◌<◌, List, [], ◌∷◌, ◌++◌, length}
use Rattle.octets.specs.Text.{octets}
use Rattle.octets.specs.Editions.{number_of}
use Rattle.octets.specs.declared.editions.Edition.{Edition}
use Rattle.tables.specs.Table.{Table}
use Rattle.tables.specs.Good.{Each}
use Rattle.outcomes.specs.Number.{no_output_room_number, no_such_link_number, not_found_number}
use Rattle.outcomes.specs.Copy.{untouched, holding}
use Rattle.outcomes.specs.Title.{Titles}
use Rattle.laws.specs.Row.{recorded_table, Fills}

-- Link number i, asked for its title, gives these octets, in any buffer with room for them; or it answers this number, in any buffer; or
-- what is said holds of buffers of fewer than k octets.
pub data Asked : Type 0 where
  gives : ℕ → List ℕ → Asked
  answers : ℕ → ℕ → Asked
  under : ℕ → Asked → Asked

-- a header, the link records and the parameter records that it is read to, and what the links answer
pub record TitleRow : Type 0 where
  pub header : List ℕ
  pub links : List ℕ
  pub params : List ℕ
  pub asked : List Asked

module _ (e : Edition) where
  -- with a buffer that holds `out`
  abbrev pub AnsweredIn : Table → List ℕ → Asked → Type 0
  AnsweredIn t out (gives i v) = length v ≤ length out → Titles (number_of e) t i out (holding out v)
  AnsweredIn t out (answers i n) = Titles (number_of e) t i out (untouched out n)
  AnsweredIn t out (under k q) = length out < k → AnsweredIn t out q

  abbrev pub Answered : Table → Asked → Type 0
  Answered t q = (out : List ℕ) → AnsweredIn t out q

  pub record TitleRowHolds (r : TitleRow) : Type 0 where
    pub fills : Fills e r.header r.links r.params
    pub answered : Each (Answered (recorded_table r.header r.links r.params)) r.asked

abbrev pub titles : List TitleRow
titles =
    -- the chapters of RFC 8288's example; there is no third link
    record {
      header =
          octets "</TheBook/chapter2>; rel=\"previous\"; title*=UTF-8'de'letztes%20Kapitel, "
          ++ octets "</TheBook/chapter4>; rel=\"next\"; title*=UTF-8'de'n%c3%a4chstes%20Kapitel";
      links = 1 ∷ 18 ∷ 0 ∷ 2 ∷ 73 ∷ 90 ∷ 2 ∷ 2 ∷ [];
      params =
          21 ∷ 24 ∷ 26 ∷ 34 ∷ 2 ∷ 1 ∷ 37 ∷ 43 ∷ 44 ∷ 70 ∷ 1 ∷ 5 ∷ 93 ∷ 96 ∷ 98 ∷ 102 ∷ 2 ∷ 1 ∷ 105 ∷ 111 ∷ 112 ∷ 144 ∷ 1 ∷ 5 ∷ [];
      asked =
          gives 0 (octets "letztes Kapitel") ∷ gives 1 (octets "n" ++ 0xC3 ∷ 0xA4 ∷ octets "chstes Kapitel")
          ∷ answers 2 no_such_link_number ∷ [];
    }
    -- backslashes come out of a quoted `title*` before it is judged
    ∷ record {
      header = octets "<a>;title*=\"UTF-8\\'\\'\\b\"";
      links = 1 ∷ 2 ∷ 0 ∷ 1 ∷ [];
      params = 4 ∷ 10 ∷ 12 ∷ 23 ∷ 2 ∷ 5 ∷ [];
      asked = gives 0 (octets "b") ∷ [];
    }
    -- no value is an empty one, and wrong; then `title` counts
    ∷ record {
      header = octets "<a>;title*;title=c";
      links = 1 ∷ 2 ∷ 0 ∷ 2 ∷ [];
      params = 4 ∷ 10 ∷ 10 ∷ 10 ∷ 0 ∷ 5 ∷ 11 ∷ 16 ∷ 17 ∷ 18 ∷ 1 ∷ 4 ∷ [];
      asked = gives 0 (octets "c") ∷ [];
    }
    -- a title of no octets is one too
    ∷ record {
      header = octets "<a>;title*=UTF-8'';title=d";
      links = 1 ∷ 2 ∷ 0 ∷ 2 ∷ [];
      params = 4 ∷ 10 ∷ 11 ∷ 18 ∷ 1 ∷ 5 ∷ 19 ∷ 24 ∷ 25 ∷ 26 ∷ 1 ∷ 4 ∷ [];
      asked = gives 0 [] ∷ [];
    }
    -- so is the octet 0
    ∷ record {
      header = octets "<a>;title*=UTF-8''%00";
      links = 1 ∷ 2 ∷ 0 ∷ 1 ∷ [];
      params = 4 ∷ 10 ∷ 11 ∷ 21 ∷ 1 ∷ 5 ∷ [];
      asked = gives 0 (0x00 ∷ []) ∷ [];
    }
    -- octets that aren't UTF-8 make a `title*` wrong; `title` isn't judged
    ∷ record {
      header = octets "<a>;title*=UTF-8''%ED%A0%80;title=e";
      links = 1 ∷ 2 ∷ 0 ∷ 2 ∷ [];
      params = 4 ∷ 10 ∷ 11 ∷ 27 ∷ 1 ∷ 5 ∷ 28 ∷ 33 ∷ 34 ∷ 35 ∷ 1 ∷ 4 ∷ [];
      asked = gives 0 (octets "e") ∷ [];
    }
    ∷ record {
      header = octets "<a>;title=\"" ++ 0xFF ∷ 0xC3 ∷ octets "\"";
      links = 1 ∷ 2 ∷ 0 ∷ 1 ∷ [];
      params = 4 ∷ 9 ∷ 11 ∷ 13 ∷ 2 ∷ 4 ∷ [];
      asked = gives 0 (0xFF ∷ 0xC3 ∷ []) ∷ [];
    }
    -- a second `title*` isn't kept, and never counts
    ∷ record {
      header = octets "<a>;title*=ISO-8859-1''f;title*=UTF-8''g";
      links = 1 ∷ 2 ∷ 0 ∷ 1 ∷ [];
      params = 4 ∷ 10 ∷ 11 ∷ 24 ∷ 1 ∷ 5 ∷ [];
      asked = answers 0 not_found_number ∷ [];
    }
    -- neither
    ∷ record {
      header = octets "<a>;rel=h";
      links = 1 ∷ 2 ∷ 0 ∷ 1 ∷ [];
      params = 4 ∷ 7 ∷ 8 ∷ 9 ∷ 1 ∷ 1 ∷ [];
      asked = answers 0 not_found_number ∷ answers 1 no_such_link_number ∷ [];
    }
    -- the name and the charset in any case, and `title*` before `title` wherever it stands
    ∷ record {
      header = octets "<a>;title=i;TITLE*=utf-8'en'%C2%A3";
      links = 1 ∷ 2 ∷ 0 ∷ 2 ∷ [];
      params = 4 ∷ 9 ∷ 10 ∷ 11 ∷ 1 ∷ 4 ∷ 12 ∷ 18 ∷ 19 ∷ 34 ∷ 1 ∷ 5 ∷ [];
      asked = gives 0 (0xC2 ∷ 0xA3 ∷ []) ∷ [];
    }
    -- a right `title*` that doesn't fit is refused, though `title` would fit
    ∷ record {
      header = octets "<a>;title*=UTF-8''jkl;title=m";
      links = 1 ∷ 2 ∷ 0 ∷ 2 ∷ [];
      params = 4 ∷ 10 ∷ 11 ∷ 21 ∷ 1 ∷ 5 ∷ 22 ∷ 27 ∷ 28 ∷ 29 ∷ 1 ∷ 4 ∷ [];
      asked = gives 0 (octets "jkl") ∷ under 3 (answers 0 no_output_room_number) ∷ [];
    }
    ∷ []
