-- The grammar's sets compared, by their numbers. Assumes nothing.
use Prim.Native.Nat.{ℕ}
use mathlib.Core.Path.{◌≡◌, refl, sym, ap, ◌∙◌}
use mathlib.Core.Bool.{Bool, true}
use mathlib.Core.List.{List, [], ◌∷◌}
use lib.Dec.{eqb}
use lib.ListN.{get_or}
use borrow.Author.Tests.{eqb-true}
use Rattle.references.specs.Octets.{Octets}
use Rattle.references.specs.Octets.{ALPHA, DIGIT, HEXDIG, unreserved, sub_delims, colon, slash, question, hash, bracket, end_bracket, at}
use Rattle.references.specs.Octets.{percent, dot, plus, hyphen, vee, from_1_to_9, from_0_to_4, from_0_to_5, digit_1, digit_2, digit_5}

abbrev pub set_number : Octets → ℕ
set_number ALPHA = 0
set_number DIGIT = 1
set_number HEXDIG = 2
set_number unreserved = 3
set_number sub_delims = 4
set_number colon = 5
set_number slash = 6
set_number question = 7
set_number hash = 8
set_number bracket = 9
set_number end_bracket = 10
set_number at = 11
set_number percent = 12
set_number dot = 13
set_number plus = 14
set_number hyphen = 15
set_number vee = 16
set_number from_1_to_9 = 17
set_number from_0_to_4 = 18
set_number from_0_to_5 = 19
set_number digit_1 = 20
set_number digit_2 = 21
set_number digit_5 = 22

abbrev all_sets : List Octets
all_sets =
    ALPHA ∷ DIGIT ∷ HEXDIG ∷ unreserved ∷ sub_delims ∷ colon ∷ slash ∷ question ∷ hash ∷ bracket ∷ end_bracket ∷ at
    ∷ percent ∷ dot ∷ plus ∷ hyphen ∷ vee ∷ from_1_to_9 ∷ from_0_to_4 ∷ from_0_to_5 ∷ digit_1 ∷ digit_2 ∷ digit_5 ∷ []

abbrev pub same_set : Octets → Octets → Bool
same_set f g = eqb (set_number f) (set_number g)

numbered : (f : Octets) → get_or all_sets (set_number f) ALPHA ≡ f
numbered ALPHA = refl
numbered DIGIT = refl
numbered HEXDIG = refl
numbered unreserved = refl
numbered sub_delims = refl
numbered colon = refl
numbered slash = refl
numbered question = refl
numbered hash = refl
numbered bracket = refl
numbered end_bracket = refl
numbered at = refl
numbered percent = refl
numbered dot = refl
numbered plus = refl
numbered hyphen = refl
numbered vee = refl
numbered from_1_to_9 = refl
numbered from_0_to_4 = refl
numbered from_0_to_5 = refl
numbered digit_1 = refl
numbered digit_2 = refl
numbered digit_5 = refl

pub same_set_lem : (f g : Octets) → same_set f g ≡ true → f ≡ g
same_set_lem f g e =
    sym (numbered f) ∙ ap (λ n. get_or all_sets n ALPHA) (eqb-true (set_number f) (set_number g) e) ∙ numbered g
