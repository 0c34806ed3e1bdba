-- Whether a part of a text is a right extended value.
use Rattle.std.specs.Prelude.{ℕ, ◌≡◌, List, length, Option, Some, None}
use Rattle.std.proofs.Math.Option.{some}
use Rattle.extended.specs.Value as value
use Rattle.extended.specs.Decoded.{given}
use Rattle.units.specs.Seen.{seen}
use Rattle.units.specs.declared.Reading.{Reading}
use Rattle.decoding.specs.declared.Chars.{Chars}

-- of what is read from place k to place e of the text s
module _ (h : Reading) (s : List ℕ) (e k : ℕ) where
  -- it is right: its characters begin at place p, and it gives n octets
  pub record IsRight (p n : ℕ) : Type 0 where
    pub octets : List ℕ
    pub extended : value.Extended (seen h s e k) octets
    pub chars : given (seen h s e p) ≡ some octets
    pub count : length octets ≡ n

  pub record IsWrong : Type 0 where
    pub wrong : value.Wrong (seen h s e k)

  -- the answer r tells which
  abbrev pub IsJudged : Option Chars → Type 0
  IsJudged (Some x) = IsRight x.from.0 x.count
  IsJudged None = IsWrong
