-- The sets that a class number tells of.
use Rattle.std.specs.Prelude.{ℕ, Bool}
use Rattle.octets.specs.Sets.{is_token, is_plain, is_escapable, is_target, is_hex, is_older, is_blank, is_ptoken}
use Rattle.octet_classes.specs.declared.Set.{Set}
use Rattle.octet_classes.specs.declared.Set.TheVariants.{Token, Plain, Escapable, Target, Hex, Older, Blank, Ptoken}

-- c is in the set
abbrev pub is_in : Set → ℕ → Bool
is_in Token = is_token
is_in Plain = is_plain
is_in Escapable = is_escapable
is_in Target = is_target
is_in Hex = is_hex
is_in Older = is_older
is_in Blank = is_blank
is_in Ptoken = is_ptoken
