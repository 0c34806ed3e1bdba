-- Values and parameters that stand in a text, each as far as it goes.
use Rattle.std.specs.Prelude.{ℕ, suc, ◌<◌, ◌≡◌, false, List, eqb, length, get_or}
use Rattle.octets.specs.Sets.{is_blank, is_token}
use Rattle.grammar.specs.Link.{Param}
use Rattle.grammar.specs.Grammar.{Extra, is_bare, At, In, Inside}
use Rattle.cursor.specs.Passed.{Passed}

module _ (extra : Extra) (s : List ℕ) where
  -- the value at place v has the span from a to b and the form f, and ends at place j
  pub data ParsedValue (v : ℕ) : ℕ → ℕ → ℕ → ℕ → Type 0 where
    a_token : {j : ℕ} → v < j → Passed is_token s v j → (j < length s → extra (get_or s j 0) ≡ false) → ParsedValue v v j 1 j
    a_wider : {k j : ℕ} → Passed is_token s v k → In s extra k → Passed (is_bare extra) s (suc k) j → ParsedValue v v j 3 j
    a_quoted : {k : ℕ} → At s v 34 → Inside s (suc v) k → At s k 34 → ParsedValue v (suc v) k 2 (suc k)

  -- the parameter at place a is p, and ends at place j
  pub data Parsed (a : ℕ) : Param → ℕ → Type 0 where
    without : {e j : ℕ} → a < e → Passed is_token s a e → Passed is_blank s e j
        → (j < length s → eqb (get_or s j 0) 61 ≡ false)
        → Parsed a (record { name_from = a; name_to = e; value_from = e; value_to = e; form = 0 }) j
    with : {e k v b c f j : ℕ} → a < e → Passed is_token s a e → Passed is_blank s e k → At s k 61 → Passed is_blank s (suc k) v
        → ParsedValue v b c f j → Parsed a (record { name_from = a; name_to = e; value_from = b; value_to = c; form = f }) j
