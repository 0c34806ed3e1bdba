-- What is kept of a link's parameters with one more behind them, and that it is no more than there are.
use Prim.Native.Nat.{ℕ, suc, ◌+◌, ◌≤◌}
use native.Mathlib.Omega.{arith}
use mathlib.Core.Path.{◌≡◌, refl, sym, ap, ◌∙◌}
use mathlib.Core.Bool.{Bool, true, false, cond, ◌&&◌}
use mathlib.Core.List.{List, [], ◌∷◌, ◌++◌, map, reverse, reverse_aux, reverse-cons, reverse-reverse}
use lib.ListN.{length, length-append}
use Rattle.grammar.specs.Link.{Param}
use Rattle.grammar.specs.Kept.{name_of, among, is_once, unless, keep_after}
use Rattle.grammar.proofs.Raise.{map_reverse_aux}

-- keeping a list in two parts
pub keep_append : (s : List ℕ) (e : List (List ℕ)) (xs ys : List Param)
    → keep_after s e (xs ++ ys) ≡ keep_after s e xs ++ keep_after s (reverse_aux (map (name_of s) xs) e) ys
keep_append s e [] ys = refl
keep_append s e (x ∷ xs) ys =
    ap (unless b x) (keep_append s (name_of s x ∷ e) xs ys)
    ∙ go b (keep_after s (name_of s x ∷ e) xs) (keep_after s (reverse_aux (map (name_of s) xs) (name_of s x ∷ e)) ys)
  where
    b : Bool
    b = is_once (name_of s x) && among e (name_of s x)

    go : (b : Bool) (us vs : List Param) → unless b x (us ++ vs) ≡ unless b x us ++ vs
    go true us vs = refl
    go false us vs = refl

-- a parameter of a name kept once, and that stood among those before
abbrev pub is_again : List ℕ → Param → List Param → Bool
is_again s p qs = is_once (name_of s p) && among (map (name_of s) qs) (name_of s p)

-- one parameter more, told by those before it, the last first
pub keep_more : (s : List ℕ) (p : Param) (qs : List Param)
    → keep_after s [] (reverse (p ∷ qs)) ≡ keep_after s [] (reverse qs) ++ unless (is_again s p qs) p []
keep_more s p qs =
    ap (keep_after s []) (reverse-cons p qs) ∙ keep_append s [] (reverse qs) (p ∷ [])
    ∙ ap
    (λ (e : List (List ℕ)). keep_after s [] (reverse qs) ++ unless (is_once (name_of s p) && among e (name_of s p)) p [])
    (map_reverse_aux (name_of s) (reverse qs) [] ∙ ap (map (name_of s)) (reverse-reverse qs))

pub kept_more : (s : List ℕ) (p : Param) (qs : List Param) {n m : ℕ} {b : Bool} → n ≡ length (keep_after s [] (reverse qs))
    → b ≡ is_again s p qs → m ≡ n + cond b 0 1
    → m ≡ length (keep_after s [] (reverse (p ∷ qs)))
kept_more s p qs {n} {m} {b} e f g =
    g ∙ ap (λ (x : ℕ). x + cond b 0 1) e ∙ ap (λ (x : ℕ). length (keep_after s [] (reverse qs)) + x) (sym (one b))
    ∙ sym (length-append (keep_after s [] (reverse qs)) (unless b p []))
    ∙ ap (λ (c : Bool). length (keep_after s [] (reverse qs) ++ unless c p [])) f ∙ ap length (sym (keep_more s p qs))
  where
    one : (b : Bool) → length (unless b p []) ≡ cond b 0 1
    one true = refl
    one false = refl

pub keep_fewer : (s : List ℕ) (e : List (List ℕ)) (ps : List Param) → length (keep_after s e ps) ≤ length ps
keep_fewer s e [] = omega arith
keep_fewer s e (p ∷ ps) = go (is_once (name_of s p) && among e (name_of s p)) (keep_fewer s (name_of s p ∷ e) ps)
  where
    go : (b : Bool) → length (keep_after s (name_of s p ∷ e) ps) ≤ length ps
        → length (unless b p (keep_after s (name_of s p ∷ e) ps)) ≤ suc (length ps)
    go true h = omega arith
    go false h = omega arith
