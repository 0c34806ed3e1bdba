-- A line: a label, columns of numbers behind it, each after a HTAB, and LF at the end.
use Rattle.std.specs.Prelude.{ℕ, List, [], ◌∷◌, ◌++◌}
use Rattle.columns.specs.Decimal.{decimal}

abbrev pub tab : ℕ
tab = 9

abbrev pub lf : ℕ
lf = 10

abbrev pub columns : List ℕ → List ℕ
columns [] = []
columns (n ∷ ns) = tab ∷ decimal n ++ columns ns

unfoldable pub line : List ℕ → List ℕ → List ℕ
line label numbers = label ++ columns numbers ++ (lf ∷ [])
