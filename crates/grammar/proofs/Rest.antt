-- What the grammar still asks of the text from place i on, when the machine stands in a state there: `Rest extra s state i R`,
-- with R all the links that the whole text then gives.
use Prim.Native.Nat.{ℕ, suc, ◌<◌}
use mathlib.Core.Path.{◌≡◌}
use mathlib.Core.List.{List, [], ◌∷◌, reverse_aux}
use lib.ListN.{length}
use Rattle.octets.specs.Sets.{is_token, is_escapable, is_hex}
use Rattle.grammar.specs.Link.{Link, Param}
use Rattle.grammar.specs.Grammar.{
  Extra,
  At,
  In,
  Run,
  Blanks,
  Inside,
  Target,
  is_bare,
  Value,
  Parameter,
  Parameters,
  Items,
}
use Rattle.grammar.specs.Machine.{
  State,
  gap,
  target,
  percent,
  hex,
  after,
  semi,
  name,
  named,
  equals,
  bare,
  wide,
  quote,
  escape,
  Open,
  param,
  flag,
}

-- all the links, if the open one gets the parameters ps and R come after it
abbrev pub whole : Open → List Param → List Link → List Link
whole o ps R = reverse_aux o.done (record { target_from = o.target_from; target_to = o.target_to; params = reverse_aux o.params ps } ∷ R)

module _ (extra : Extra) (s : List ℕ) where
  -- the rest of a comma list, from a place where one may begin
  pub record Gap (i : ℕ) (R : List Link) : Type 0 where
    pub start : ℕ
    pub stop : ℕ
    pub end : ℕ
    pub before : Blanks s i start
    pub items : Items extra s start stop R
    pub after : Blanks s stop end
    pub complete : end ≡ length s

  -- what follows a link that is whole
  pub data Ends : ℕ → List Link → Type 0 where
    at_its_end : {j e : ℕ} → Blanks s j e → e ≡ length s → Ends j []
    at_comma : {j b : ℕ} {R : List Link} → Blanks s j b → At s b 44 → Gap (suc b) R → Ends j R

  -- further parameters, and what follows the link
  pub record After (i : ℕ) (ps : List Param) (R : List Link) : Type 0 where
    pub stop : ℕ
    pub params : Parameters extra s i stop ps
    pub ends : Ends stop R

  -- the rest of a parameter whose name stands from n to e
  pub data NameRest (n e : ℕ) : ℕ → ℕ → Param → Type 0 where
    no_value : {i j : ℕ} → Blanks s i j → NameRest n e i j (flag n e)
    a_value : {i k v j a b f : ℕ} → Blanks s i k → At s k 61 → Blanks s (suc k) v → Value extra s v j a b f
        → NameRest n e i j (param n e a b f)

  -- the rest of a bare value all of whose octets so far are token octets
  pub data BareRest : ℕ → ℕ → ℕ → Type 0 where
    all_token : {i j : ℕ} → Run s is_token i j → BareRest i j 1
    turns_wide : {i k j : ℕ} → Run s is_token i k → In s extra k → Run s (is_bare extra) (suc k) j → BareRest i j 3

  pub data Rest : State → ℕ → List Link → Type 0 where
    r_gap : {ls : List Link} {i : ℕ} {R : List Link} → Gap i R → Rest (gap ls) i (reverse_aux ls R)
    r_target : {ls : List Link} {a i k : ℕ} {ps : List Param} {R : List Link} → Target s i k → At s k 62 → After (suc k) ps R
        → Rest (target ls a) i (reverse_aux ls (record { target_from = a; target_to = k; params = ps } ∷ R))
    r_percent : {ls : List Link} {a i k : ℕ} {ps : List Param} {R : List Link} → In s is_hex i → In s is_hex (suc i)
        → Target s (suc (suc i)) k → At s k 62 → After (suc k) ps R
        → Rest (percent ls a) i (reverse_aux ls (record { target_from = a; target_to = k; params = ps } ∷ R))
    r_hex : {ls : List Link} {a i k : ℕ} {ps : List Param} {R : List Link} → In s is_hex i → Target s (suc i) k → At s k 62
        → After (suc k) ps R → Rest (hex ls a) i (reverse_aux ls (record { target_from = a; target_to = k; params = ps } ∷ R))
    r_after : {o : Open} {i : ℕ} {ps : List Param} {R : List Link} → After i ps R → Rest (after o) i (whole o ps R)
    r_semi : {o : Open} {i b j : ℕ} {p : Param} {ps : List Param} {R : List Link} → Blanks s i b → Parameter extra s b j p
        → After j ps R → Rest (semi o) i (whole o (p ∷ ps) R)
    r_name : {o : Open} {n i e j : ℕ} {p : Param} {ps : List Param} {R : List Link} → Run s is_token i e → NameRest n e e j p
        → After j ps R → Rest (name o n) i (whole o (p ∷ ps) R)
    r_named : {o : Open} {n e i j : ℕ} {p : Param} {ps : List Param} {R : List Link} → NameRest n e i j p → After j ps R
        → Rest (named o n e) i (whole o (p ∷ ps) R)
    r_equals : {o : Open} {n e i v j a b f : ℕ} {ps : List Param} {R : List Link} → Blanks s i v → Value extra s v j a b f
        → After j ps R → Rest (equals o n e) i (whole o (param n e a b f ∷ ps) R)
    r_bare : {o : Open} {n e v i j f : ℕ} {ps : List Param} {R : List Link} → BareRest i j f → After j ps R
        → Rest (bare o n e v) i (whole o (param n e v j f ∷ ps) R)
    r_wide : {o : Open} {n e v i j : ℕ} {ps : List Param} {R : List Link} → Run s (is_bare extra) i j → After j ps R
        → Rest (wide o n e v) i (whole o (param n e v j 3 ∷ ps) R)
    r_quote : {o : Open} {n e v i k : ℕ} {ps : List Param} {R : List Link} → Inside s i k → At s k 34 → After (suc k) ps R
        → Rest (quote o n e v) i (whole o (param n e v k 2 ∷ ps) R)
    r_escape : {o : Open} {n e v i k : ℕ} {ps : List Param} {R : List Link} → In s is_escapable i → Inside s (suc i) k
        → At s k 34 → After (suc k) ps R → Rest (escape o n e v) i (whole o (param n e v k 2 ∷ ps) R)
