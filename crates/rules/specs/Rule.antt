-- Rules as ABNF writes them (RFC 5234), as data, and what a rule derives, said once for each operator. S names the sets of octets that
-- rules speak of, and `has f c` says that the octet c is in the set f. A text is a list of octets.
use Rattle.std.specs.Prelude.{ℕ, zero, suc, ◌≡◌, Bool, true, List, [], ◌∷◌, ◌++◌, ◌⊎◌}

infixr 64 ◌then◌
infixr 63 ◌or◌
pub data Rule (S : Type 0) : Type 0 where
  nothing : Rule S
  one : S → Rule S
  ◌then◌ ◌or◌ : Rule S → Rule S → Rule S
  many : Rule S → Rule S

module _ {S : Type 0} where
  -- [a]
  abbrev pub optional : Rule S → Rule S
  optional a = a or nothing

  -- 1*a
  abbrev pub some : Rule S → Rule S
  some a = a then many a

  -- n a, for n of one or more
  abbrev pub times : ℕ → Rule S → Rule S
  times zero a = nothing
  times (suc zero) a = a
  times (suc (suc n)) a = a then times (suc n) a

  -- *n a
  abbrev pub up_to : ℕ → Rule S → Rule S
  up_to zero a = nothing
  up_to (suc n) a = optional (a then up_to n a)

-- w is one octet of the set f
pub record Single (f : ℕ → Bool) (w : List ℕ) : Type 0 where
  pub octet : ℕ
  pub is : w ≡ octet ∷ []
  pub inside : f octet ≡ true

-- w is a text of P and, behind it, a text of Q
pub record Then (P Q : List ℕ → Type 0) (w : List ℕ) : Type 0 where
  pub left : List ℕ
  pub right : List ℕ
  pub whole : w ≡ left ++ right
  pub first : P left
  pub second : Q right

-- w is zero or more texts of P, one behind another
pub data Many (P : List ℕ → Type 0) : List ℕ → Type 0 where
  no_more : {w : List ℕ} → w ≡ [] → Many P w
  and_one : {w u v : List ℕ} → w ≡ u ++ v → P u → Many P v → Many P w

module _ {S : Type 0} (has : S → ℕ → Bool) where
  -- the rule derives the text w
  abbrev pub Derives : Rule S → List ℕ → Type 0
  Derives nothing w = w ≡ []
  Derives (one f) w = Single (has f) w
  Derives (a then b) w = Then (Derives a) (Derives b) w
  Derives (a or b) w = Derives a w ⊎ Derives b w
  Derives (many a) w = Many (Derives a) w
