-- Well-formed UTF-8: the table of RFC 3629 section 4, rule by rule and by its names. A name stands behind those that it uses.
use Rattle.std.specs.Prelude.{ℕ, Bool, List}
use Rattle.octets.specs.Sets.{between}
use Rattle.rules.specs.Rule.{Rule, one, ◌then◌, ◌or◌, many, times, Derives}

-- the octets from one to another, both included
pub record Range : Type 0 where
  pub from : ℕ
  pub to : ℕ

-- the octet c is in the range
abbrev pub in_range : Range → ℕ → Bool
in_range r c = between r.from r.to c

-- one octet of a range, and one that is given
abbrev pub range : ℕ → ℕ → Rule Range
range a b = one (record { from = a; to = b })

abbrev pub octet : ℕ → Rule Range
octet a = range a a

abbrev pub utf8_tail : Rule Range
utf8_tail = range 0x80 0xBF

abbrev pub utf8_1 : Rule Range
utf8_1 = range 0x00 0x7F

abbrev pub utf8_2 : Rule Range
utf8_2 = range 0xC2 0xDF then utf8_tail

abbrev pub utf8_3 : Rule Range
utf8_3 =
    octet 0xE0 then range 0xA0 0xBF then utf8_tail
    or range 0xE1 0xEC then times 2 utf8_tail
    or octet 0xED then range 0x80 0x9F then utf8_tail
    or range 0xEE 0xEF then times 2 utf8_tail

abbrev pub utf8_4 : Rule Range
utf8_4 =
    octet 0xF0 then range 0x90 0xBF then times 2 utf8_tail
    or range 0xF1 0xF3 then times 3 utf8_tail
    or octet 0xF4 then range 0x80 0x8F then times 2 utf8_tail

abbrev pub utf8_char : Rule Range
utf8_char = utf8_1 or utf8_2 or utf8_3 or utf8_4

abbrev pub utf8_octets : Rule Range
utf8_octets = many utf8_char

-- the text w is well-formed UTF-8
abbrev pub WellFormed : List ℕ → Type 0
WellFormed w = Derives in_range utf8_octets w
