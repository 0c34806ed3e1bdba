-- A text is a list of octets, and an octet a number from 0 to 255. Quoted text stands for its octets.
use Rattle.std.specs.Prelude.{ℕ, List, [], ◌∷◌}
use Prim.Native.Char.{code}
use Prim.Native.String.{String, [] as none, ◌∷◌ as ◌then◌}

-- the octets of a quoted text: the codes of its characters, none of them over 255
abbrev pub octets : String → List ℕ
octets none = []
octets (c then s) = code c ∷ octets s
