-- A line put column by column, each with the octet that ends it.
use Prim.Native.Nat.{ℕ, ◌+◌, ◌≤◌, ◌<◌}
use native.Mathlib.Omega.{arith}
use mathlib.Core.Path.{◌≡◌, sym, ap, subst}
use mathlib.Core.List.{List, [], ◌∷◌, ◌++◌, append_assoc}
use lib.ListN.{length, length-append}
use lib.Seq.{length-sets}
use Rattle.kinds.specs.Put.{Put}
use Rattle.kinds.proofs.Putting.{Putting, begin, onto, octet_room, several, last, finish}
use Rattle.columns.specs.Decimal.{decimal}
use Rattle.columns.specs.Line.{tab, lf}
use Rattle.resolved_lines.specs.ResolvedLine.{resolved_line}

module _
    {old : List ℕ}
    {at : ℕ}
    {whole new : List ℕ}
    {to : ℕ}
    (s : List ℕ)
    (e : ℕ)
    (left : List ℕ)
    (w : Putting old at whole new to (s ++ (e ∷ left)))
  where
    column_room : to + length s + 1 ≤ length new
    column_room = omega (arith, w.place, w.lengths, w.fits, length-append s (e ∷ left))

    column : {new' : List ℕ} {to' : ℕ} → Put new new' to to' (s ++ (e ∷ [])) → Putting old at whole new' to' left
    column p = several (onto (sym (append_assoc s (e ∷ []) left)) w) p

-- the octets s and one behind them
module _ (old : List ℕ) (at e : ℕ) (s : List ℕ) (room : at + length s + 1 ≤ length old) where
  alone : Putting old at (s ++ (e ∷ [])) old at (s ++ (e ∷ []))
  alone = begin old at (s ++ (e ∷ [])) (omega (arith, room, length-append s (e ∷ [])))

  module _ {new : List ℕ} {to : ℕ} (p : Put old new at to s) where
    pub end_room : to < length new
    end_room = octet_room (several {left = e ∷ []} alone p)

    pub ended : {new' : List ℕ} {to' : ℕ} → Put new new' to to' (e ∷ []) → Put old new' at to' (s ++ (e ∷ []))
    ended q = last (several {left = e ∷ []} alone p) q

line_length : (n : ℕ) (target context : List ℕ)
    → length (resolved_line n target context) ≡ length (decimal n) + (length target + length context + 3)
line_length n target context =
    omega (
      arith,
      length-append (decimal n) (tab ∷ (target ++ (tab ∷ (context ++ (lf ∷ []))))),
      length-append target (tab ∷ (context ++ (lf ∷ []))),
      length-append context (lf ∷ []),
    )

-- into a line that has room
module _
    (n : ℕ)
    (target context line : List ℕ)
    {at : ℕ}
    (start : at ≡ 0)
    (short : length (decimal n) ≤ 20)
    (room : length target + length context + 23 ≤ length line)
  where
    abbrev behind_number : List ℕ
    behind_number = target ++ (tab ∷ (context ++ (lf ∷ [])))

    begun : Putting line at (resolved_line n target context) line at (resolved_line n target context)
    begun = begin line at (resolved_line n target context) (omega (arith, start, short, room, line_length n target context))

    pub number_room : at + length (decimal n) + 1 ≤ length line
    number_room = column_room (decimal n) tab behind_number begun

    module _ {line₁ : List ℕ} {to₁ : ℕ} (p : Put line line₁ at to₁ (decimal n ++ (tab ∷ []))) where
      numbered : Putting line at (resolved_line n target context) line₁ to₁ behind_number
      numbered = column (decimal n) tab behind_number begun p

      pub target_room : to₁ + length target + 1 ≤ length line₁
      target_room = column_room target tab (context ++ (lf ∷ [])) numbered

      module _ {line₂ : List ℕ} {to₂ : ℕ} (q : Put line₁ line₂ to₁ to₂ (target ++ (tab ∷ []))) where
        targeted : Putting line at (resolved_line n target context) line₂ to₂ (context ++ (lf ∷ []))
        targeted = column target tab (context ++ (lf ∷ [])) numbered q

        pub context_room : to₂ + length context + 1 ≤ length line₂
        context_room = column_room context lf [] targeted

        -- the line is put, and ends within the buffer
        pub line_put : {line₃ : List ℕ} {to₃ : ℕ} → Put line₂ line₃ to₂ to₃ (context ++ (lf ∷ []))
            → Put line line₃ 0 to₃ (resolved_line n target context) × (to₃ ≤ length line₃)
        line_put {line₃} {to₃} r =
            let kept = length-sets line₂ to₂ (context ++ (lf ∷ [])) in (
              subst (λ (k : ℕ). Put line line₃ k to₃ (resolved_line n target context)) start (finish (column context lf [] targeted r)),
              omega (arith, context_room, r.place, length-append context (lf ∷ []), ap length r.buffer, kept),
            )
