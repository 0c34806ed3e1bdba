-- A text encodes one list of numbers at most: a number, and the text behind it, are computed from the text. Assumes nothing.
use Prim.Native.Nat.{ℕ, ◌+◌, ◌*◌, ◌/◌, ◌%◌}
use native.Mathlib.Omega.{arith}
use mathlib.Core.Path.{◌≡◌, refl, sym, ap, ◌∙◌}
use mathlib.Core.Bool.{cond}
use mathlib.Core.List.{List, [], ◌++◌, cons-ne-nil}
use lib.Dec.{leb}
use lib.ListN.{get_or, drop}
use borrow.Author.Tests.{le-leb, lt-leb}
use Rattle.utf8.specs.Numbers.{InOctets, in_one, in_two, in_three, in_four, EncodesAll, none, and_one}
use Rattle.utf8.proofs.Encoded.{of_two, of_three, of_four}

-- by the first octet: how many there are
abbrev count : ℕ → ℕ
count a = cond (leb a 0x7F) 1 (cond (leb a 0xDF) 2 (cond (leb a 0xEF) 3 4))

-- and which number they make
abbrev made : ℕ → ℕ → ℕ → ℕ → ℕ
made a b c d = cond (leb a 0x7F) a (cond (leb a 0xDF) (of_two a b) (cond (leb a 0xEF) (of_three a b c) (of_four a b c d)))

abbrev number : List ℕ → ℕ
number w = made (get_or w 0 0) (get_or w 1 0) (get_or w 2 0) (get_or w 3 0)

abbrev rest : List ℕ → List ℕ
rest w = drop (count (get_or w 0 0)) w

number_back : (n k : ℕ) (u : List ℕ) → InOctets n k u → (w : List ℕ) → number (u ++ w) ≡ n
number_back n k u (in_one h) w = rw (le-leb n 0x7F (omega arith)) refl
number_back n k u (in_two h) w =
    let a : ℕ = 0xC0 + n / 0x40 in rw (lt-leb a 0x7F (omega arith), le-leb a 0xDF (omega arith)) (omega arith)
number_back n k u (in_three h) w =
    let a : ℕ = 0xE0 + n / 0x1000 in
    rw (lt-leb a 0x7F (omega arith), lt-leb a 0xDF (omega arith), le-leb a 0xEF (omega arith)) (omega arith)
number_back n k u (in_four h) w =
    let a : ℕ = 0xF0 + n / 0x40000 in
    let third : n / 0x40 ≡ 0x40 * (n / 0x1000) + n / 0x40 % 0x40 = omega arith in
    let second : n / 0x1000 ≡ 0x40 * (n / 0x40000) + n / 0x1000 % 0x40 = omega arith in
    rw (lt-leb a 0x7F (omega arith), lt-leb a 0xDF (omega arith), lt-leb a 0xEF (omega arith)) (omega arith)

rest_back : (n k : ℕ) (u : List ℕ) → InOctets n k u → (w : List ℕ) → rest (u ++ w) ≡ w
rest_back n k u (in_one h) w = rw (le-leb n 0x7F (omega arith)) refl
rest_back n k u (in_two h) w =
    let a : ℕ = 0xC0 + n / 0x40 in rw (lt-leb a 0x7F (omega arith), le-leb a 0xDF (omega arith)) refl
rest_back n k u (in_three h) w =
    let a : ℕ = 0xE0 + n / 0x1000 in
    rw (lt-leb a 0x7F (omega arith), lt-leb a 0xDF (omega arith), le-leb a 0xEF (omega arith)) refl
rest_back n k u (in_four h) w =
    let a : ℕ = 0xF0 + n / 0x40000 in
    rw (lt-leb a 0x7F (omega arith), lt-leb a 0xDF (omega arith), lt-leb a 0xEF (omega arith)) refl

not_empty : (n k : ℕ) (u : List ℕ) → InOctets n k u → (w : List ℕ) → u ++ w ≡ [] → ⊥
not_empty n k u (in_one h) w e = cons-ne-nil _ _ e
not_empty n k u (in_two h) w e = cons-ne-nil _ _ e
not_empty n k u (in_three h) w e = cons-ne-nil _ _ e
not_empty n k u (in_four h) w e = cons-ne-nil _ _ e

pub one_list : {ns ms w z : List ℕ} → EncodesAll ns w → EncodesAll ms z → w ≡ z → ns ≡ ms
one_list none none q = refl
one_list none (and_one {n = m} {u = v} {ns = ms} {w = z} f more) q = absurd (not_empty m f.count v f.form z (sym q))
one_list (and_one {n} {u} {ns} {w} e all) none q = absurd (not_empty n e.count u e.form w q)
one_list (and_one {n} {u} {ns} {w} e all) (and_one {n = m} {u = v} {ns = ms} {w = z} f more) q =
    let same_number : n ≡ m =
    sym (number_back n e.count u e.form w) ∙ ap number q ∙ number_back m f.count v f.form z
    in
    let same_rest : w ≡ z = sym (rest_back n e.count u e.form w) ∙ ap rest q ∙ rest_back m f.count v f.form z in
    rw (same_number, one_list all more same_rest) refl
