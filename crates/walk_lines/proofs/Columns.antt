-- The columns of a walk's line, put one behind another. Assumes nothing.
use Prim.Native.Nat.{ℕ, ◌+◌, ◌≤◌}
use native.Mathlib.Omega.{arith}
use mathlib.Core.Path.{◌≡◌, subst}
use mathlib.Core.List.{List, [], ◌∷◌, ◌++◌, append_assoc}
use lib.ListN.{length}
use Rattle.kinds.specs.Put.{Put}
use Rattle.columns.specs.Decimal.{decimal}
use Rattle.columns.specs.Line.{tab, lf}
use Rattle.put_columns.proofs.Behind.{then}
use Rattle.walk_lines.specs.Line.{word_of, ended_line}

-- a column at the start of a line, up to place 10 at most
pub first : {a b : List ℕ} {i j : ℕ} {xs : List ℕ} → i ≡ 0 → length xs ≤ 10 → Put a b i j xs → Put a b 0 j xs × (j ≤ 10)
first {a} {b} {j = j} {xs} e short p =
    (subst (λ (n : ℕ). Put a b n j xs) e p, omega (arith, e, short, p.place))

-- a column without its last octet, and that with all behind it
laid : (s : List ℕ) (c : ℕ) (rest : List ℕ) → (s ++ (c ∷ [])) ++ rest ≡ s ++ (c ∷ rest)
laid s c rest = append_assoc s (c ∷ []) rest

pub refused_put : {a b c : List ℕ} {i j k : ℕ} (word : List ℕ) (n : ℕ) → Put a b i j (word ++ (tab ∷ [])) → Put b c j k (decimal n ++ (lf ∷ []))
    → Put a c i k (word ++ (tab ∷ (decimal n ++ (lf ∷ []))))
refused_put {a} {c = c} {i} {k = k} word n p q =
    subst (Put a c i k) (laid word tab (decimal n ++ (lf ∷ []))) (then p q)

pub ended_put : {a b c d e : List ℕ} {h i j k : ℕ} (end pack : ℕ) (uri : List ℕ) (steps : ℕ) → Put a b 0 h (word_of end ++ (tab ∷ []))
    → Put b c h i (decimal pack ++ (tab ∷ [])) → Put c d i j (uri ++ (tab ∷ [])) → Put d e j k (decimal steps ++ (lf ∷ []))
    → Put a e 0 k (ended_line end pack uri steps)
ended_put {a} {b} {c} {e = e} {h} {i} {k = k} end pack uri steps p q r s =
    subst (Put a e 0 k) (laid (word_of end) tab _)
    (then p
    (subst (Put b e h k) (laid (decimal pack) tab _)
    (then q (subst (Put c e i k) (laid uri tab (decimal steps ++ (lf ∷ []))) (then r s)))))
