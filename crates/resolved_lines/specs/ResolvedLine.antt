-- The line of a link that is resolved: its number, its target and its context, parted by HTAB and ended by LF.
use Rattle.std.specs.Prelude.{ℕ, List, [], ◌∷◌, ◌++◌}
use Rattle.columns.specs.Decimal.{decimal}
use Rattle.columns.specs.Line.{tab, lf}

abbrev pub resolved_line : ℕ → List ℕ → List ℕ → List ℕ
resolved_line number target context = decimal number ++ (tab ∷ (target ++ (tab ∷ (context ++ (lf ∷ [])))))
