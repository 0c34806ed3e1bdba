-- Lines grow by columns. Assumes nothing.
use Prim.Native.Nat.{ℕ, ◌+◌, ◌<◌}
use native.Mathlib.Numerals.{add-one}
use native.Mathlib.Nat.{add_assoc}
use mathlib.Core.List.{List, [], ◌∷◌, ◌++◌, append_assoc, append-nil}
use mathlib.Core.Path.{◌≡◌, sym, ap, ◌∙◌}
use lib.ListN.{length, take, get_or, length-append}
use lib.Seq.{take-suc, take-length}
use Rattle.columns.specs.Decimal.{decimal}
use Rattle.columns.specs.Line.{tab, lf, columns, line}
use Rattle.columns.specs.LineHolds.{octets_of, Grown}
use Rattle.columns.specs.declared.Line.{Line}

pub grown_then : {l m n : Line} {s t : List ℕ} → Grown l s m → Grown m t n → Grown l (s ++ t) n
grown_then {l} {s = s} {t = t} g h =
    record {
      is = h.is ∙ ap (λ (x : List ℕ). x ++ t) g.is ∙ append_assoc (octets_of l) s t;
      end =
          h.end
          ∙ ap (λ (k : ℕ). k + length t) g.end
          ∙ add_assoc l.len (length s) (length t)
          ∙ ap (λ (k : ℕ). l.len + k) (sym (length-append s t));
    }

column_last : (ns : List ℕ) (n : ℕ) → columns (ns ++ (n ∷ [])) ≡ columns ns ++ (tab ∷ decimal n)
column_last [] n = append-nil (tab ∷ decimal n)
column_last (m ∷ ns) n =
    ap (λ (x : List ℕ). tab ∷ decimal m ++ x) (column_last ns n)
    ∙ sym (append_assoc (tab ∷ decimal m) (columns ns) (tab ∷ decimal n))

module _ {l m : Line} (label : List ℕ) (n : ℕ) where
  -- the first number is put
  pub column_first : octets_of l ≡ label → Grown l (tab ∷ decimal n) m → octets_of m ≡ label ++ columns (n ∷ [])
  column_first e g =
      g.is
      ∙ ap (λ (x : List ℕ). x ++ (tab ∷ decimal n)) e
      ∙ ap (λ (x : List ℕ). label ++ x) (sym (append-nil (tab ∷ decimal n)))

  -- behind it, i of the numbers ns
  module _ (ns : List ℕ) (i : ℕ) (held : octets_of l ≡ label ++ columns (n ∷ take i ns)) where
    -- the next one is put
    pub column_more : i < length ns → Grown l (tab ∷ decimal (get_or ns i 0)) m
        → octets_of m ≡ label ++ columns (n ∷ take (i + 1) ns)
    column_more h g =
        g.is
        ∙ ap (λ (x : List ℕ). x ++ (tab ∷ decimal (get_or ns i 0))) held
        ∙ append_assoc label (columns (n ∷ take i ns)) (tab ∷ decimal (get_or ns i 0))
        ∙ ap (λ (x : List ℕ). label ++ x) (sym (column_last (n ∷ take i ns) (get_or ns i 0)))
        ∙ ap (λ (x : List ℕ). label ++ columns (n ∷ x)) (sym (take-suc ns i 0 h) ∙ ap (λ (k : ℕ). take k ns) (sym (add-one i)))

    -- all of them are put, and LF
    pub line_whole : i ≡ length ns → Grown l (lf ∷ []) m → octets_of m ≡ line label (n ∷ ns)
    unfolding line
    line_whole h g =
        let all : take i ns ≡ ns = ap (λ (k : ℕ). take k ns) h ∙ take-length ns in
        g.is ∙ ap (λ (x : List ℕ). x ++ (lf ∷ [])) (held ∙ ap (λ (x : List ℕ). label ++ columns (n ∷ x)) all)
