-- The line that tells a walk's outcome: columns parted by HTAB, and LF at the end.
use Rattle.std.specs.Prelude.{ℕ, ◌≡◌, cond, List, [], ◌∷◌, ◌++◌, eqb}
use Rattle.std.proofs.Math.Option.{some}
use Rattle.octets.specs.Text.{octets}
use Rattle.columns.specs.Decimal.{decimal}
use Rattle.columns.specs.Line.{tab, lf}
use Rattle.outcomes.specs.Number.{done}
use Rattle.catalogues.specs.Packs.{Pack, Room, Catalogue}
use Rattle.catalogues.specs.Steps.{arrived, no_link, no_target, pack_at}
use Rattle.catalogues.specs.Outcome.{WalkOut, end_number}

-- the word of the end that has this number
abbrev pub word_of : ℕ → List ℕ
word_of n =
    cond (eqb n (end_number arrived)) (octets "arrived")
    (cond (eqb n (end_number no_link)) (octets "no-link")
    (cond (eqb n (end_number no_target)) (octets "no-target") (octets "no-pack")))

-- the end's word, the last pack's number and its URI, and the steps taken
abbrev pub ended_line : ℕ → ℕ → List ℕ → ℕ → List ℕ
ended_line end pack uri steps =
    word_of end ++ (tab ∷ (decimal pack ++ (tab ∷ (uri ++ (tab ∷ (decimal steps ++ (lf ∷ [])))))))

abbrev pub refused_line : ℕ → List ℕ
refused_line number = octets "refused" ++ (tab ∷ (decimal number ++ (lf ∷ [])))

-- the line of an outcome over the text
pub data Tells (text : List ℕ) (room : Room) (o : WalkOut) : List ℕ → Type 0 where
  refusal : (o.number ≡ done → ⊥) → Tells text room o (refused_line o.number)
  ended : {ps : List Pack} {p : Pack} → o.number ≡ done → Catalogue room text ps → pack_at ps o.pack ≡ some p
      → Tells text room o (ended_line o.end o.pack p.uri o.steps)
