-- What is left of a rule behind an octet: a list of rules of which one must derive the rest. So a rule is tried on a text octet by octet.
use Rattle.std.specs.Prelude.{ℕ, Bool, true, false, cond, ◌&&◌, ◌||◌, List, [], ◌∷◌, ◌++◌, map}
use Rattle.rules.specs.Rule.{Rule, nothing, one, ◌then◌, ◌or◌, many}

module _ {S : Type 0} where
  -- the rule derives the empty text
  abbrev pub may_be_empty : Rule S → Bool
  may_be_empty nothing = true
  may_be_empty (one f) = false
  may_be_empty (a then b) = may_be_empty a && may_be_empty b
  may_be_empty (a or b) = may_be_empty a || may_be_empty b
  may_be_empty (many a) = true

  -- b behind a, which is b alone if nothing is left of a
  abbrev pub onto : Rule S → Rule S → Rule S
  onto b nothing = b
  onto b (one f) = one f then b
  onto b (a then d) = (a then d) then b
  onto b (a or d) = (a or d) then b
  onto b (many a) = many a then b

  -- some rule of the list derives the empty text
  abbrev pub any_empty : List (Rule S) → Bool
  any_empty [] = false
  any_empty (r ∷ rs) = may_be_empty r || any_empty rs

module _ {S : Type 0} (has : S → ℕ → Bool) where
  -- what is left of a rule behind the octet c
  abbrev pub left : ℕ → Rule S → List (Rule S)
  left c nothing = []
  left c (one f) = cond (has f c) (nothing ∷ []) []
  left c (a then b) = map (onto b) (left c a) ++ cond (may_be_empty a) (left c b) []
  left c (a or b) = left c a ++ left c b
  left c (many a) = map (onto (many a)) (left c a)

  -- what is left of any rule of a list
  abbrev pub lefts : ℕ → List (Rule S) → List (Rule S)
  lefts c [] = []
  lefts c (r ∷ rs) = left c r ++ lefts c rs

  -- one of the rules derives w
  abbrev pub tried : List (Rule S) → List ℕ → Bool
  tried rs [] = any_empty rs
  tried rs (c ∷ w) = tried (lefts c rs) w

  -- the rule derives w
  abbrev pub matches : Rule S → List ℕ → Bool
  matches r w = tried (r ∷ []) w
