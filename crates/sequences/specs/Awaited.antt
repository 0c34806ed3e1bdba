-- Judging UTF-8 one octet at a time: how many octets of a sequence are still awaited, and from where to where the next may lie. A text
-- is well formed just if nothing is awaited behind it (law `AwaitedExact`).
use Rattle.std.specs.Prelude.{ℕ, zero, suc, Bool, cond, List, [], ◌∷◌, eqb}
use Rattle.octets.specs.Sets.{between}
use Rattle.sequences.specs.declared.Awaited.{Awaited}

-- n octets more, the next from a to b
abbrev pub awaits : ℕ → ℕ → ℕ → Awaited
awaits n a b = record { count = n; low = a; high = b }

-- n octets of a sequence's tail
abbrev pub tails : ℕ → Awaited
tails n = awaits n 0x80 0xBF

-- a sequence may begin
abbrev pub nothing : Awaited
nothing = tails 0

-- an octet that there isn't: no text goes on from here
abbrev pub impossible : Awaited
impossible = awaits 1 1 0

-- behind a sequence's first octet
unfoldable pub behind_first : ℕ → Awaited
behind_first c =
    cond (between 0x00 0x7F c) nothing
    (cond (between 0xC2 0xDF c) (tails 1)
    (cond (eqb c 0xE0) (awaits 2 0xA0 0xBF)
    (cond (eqb c 0xED) (awaits 2 0x80 0x9F)
    (cond (between 0xE1 0xEF c) (tails 2)
    (cond (eqb c 0xF0) (awaits 3 0x90 0xBF)
    (cond (eqb c 0xF4) (awaits 3 0x80 0x8F)
    (cond (between 0xF1 0xF3 c) (tails 3) impossible)))))))

-- behind the octet c: it begins a sequence where none is open, and else is the one awaited
abbrev pub behind_from : ℕ → ℕ → ℕ → ℕ → Awaited
behind_from zero a b c = behind_first c
behind_from (suc n) a b c = cond (between a b c) (tails n) impossible

unfoldable pub behind : Awaited → ℕ → Awaited
behind t c = behind_from t.count t.low t.high c

-- nothing is awaited behind w
abbrev pub complete : Awaited → List ℕ → Bool
complete t [] = eqb t.count 0
complete t (c ∷ w) = complete (behind t c) w
