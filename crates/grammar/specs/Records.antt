-- The numbers that a table holds for a list of links.
use Rattle.std.specs.Prelude.{ℕ, ◌+◌, ◌/◌, List, [], ◌∷◌, ◌++◌, length}
use Rattle.grammar.specs.Link.{Link, Param}
use Rattle.grammar.specs.Kept.{name_of, code_of}

-- how many numbers a link record has, and a parameter record
abbrev pub link_width : ℕ
link_width = 4

abbrev pub param_width : ℕ
param_width = 6

-- Room: the slots lent, divided by the numbers of a record and rounded down.
abbrev pub link_room_of : List ℕ → ℕ
link_room_of L = length L / link_width

abbrev pub param_room_of : List ℕ → ℕ
param_room_of P = length P / param_width

-- how many parameters the links have in all
abbrev pub count_params : List Link → ℕ
count_params [] = 0
count_params (l ∷ ls) = length l.params + count_params ls

-- link records: target start, target end, number of the first parameter, count of parameters;
-- the first link's parameters begin at number n
abbrev pub link_records : ℕ → List Link → List ℕ
link_records n [] = []
link_records n (l ∷ ls) =
    l.target_from ∷ l.target_to ∷ n ∷ length l.params ∷ link_records (n + length l.params) ls

-- parameter records, of parameters that stand in the text s: name start, name end, value start, value end, form, the code of the name
abbrev pub records_of : List ℕ → List Param → List ℕ
records_of s [] = []
records_of s (p ∷ ps) =
    p.name_from ∷ p.name_to ∷ p.value_from ∷ p.value_to ∷ p.form ∷ code_of (name_of s p) ∷ records_of s ps

abbrev pub param_records : List ℕ → List Link → List ℕ
param_records s [] = []
param_records s (l ∷ ls) = records_of s l.params ++ param_records s ls
