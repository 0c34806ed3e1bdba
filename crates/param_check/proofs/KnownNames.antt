-- A known name, in whatever case of letters, is a token.
use Prim.Native.Nat.{ℕ, zero, suc, ◌+◌, ◌-◌, ◌≤◌, ◌<◌}
use native.Mathlib.Omega.{arith}
use native.Mathlib.Nat.{eq-or-lt_of_le}
use mathlib.Core.Path.{◌≡◌, refl, sym, ap, subst, ◌∙◌}
use mathlib.Core.Bool.{Bool, true, false}
use mathlib.Core.Logic.{⊎_elim}
use mathlib.Core.List.{List, [], ◌∷◌}
use lib.ListN.{length, get_or}
use lib.Seq.{slice, slice-cons, slice_empty}
use Rattle.octets.specs.Sets.{all, between, is_letter, is_digit, is_token}
use Rattle.octets.specs.Fold.{fold, folded}
use Rattle.octets.proofs.Octets.{both, every_at, within, between_octets}
use Rattle.octets.proofs.Laws.{fold_other}
use Rattle.grammar.specs.Grammar.{Run, run_end, run_more, Token}
use Rattle.grammar.specs.Kept.{known_names, code_of}
use Rattle.grammar.proofs.Codes.{codes}
use Rattle.tables.specs.Good.{InText}
use Rattle.part_check.proofs.Tokens.{split}

unfold_token : (c : ℕ) → is_token (fold c) ≡ true → is_token c ≡ true
unfolding is_token is_letter is_digit
unfold_token c h = go (between 65 90 c) refl
  where
    go : (b : Bool) → between 65 90 c ≡ b → is_token c ≡ true
    go true e = within (between 65 90) is_token (between_octets 65 90 (omega arith)) refl c e
    go false e = rw (fold_other c e) at h

all_unfolded : (n : List ℕ) → all is_token (folded n) ≡ true → all is_token n ≡ true
all_unfolded [] h = refl
all_unfolded (c ∷ n) h =
    let x = both (is_token (fold c)) (all is_token (folded n)) h in
    rw (unfold_token c x.0, all_unfolded n x.1)

-- the known names are tokens, computed over the list
known_tokens : (n : List ℕ) → 0 < code_of n → all is_token n ≡ true
unfolding is_token is_letter is_digit
known_tokens n h =
    let k = codes.known n (λ z. omega arith) in
    subst (λ (m : List ℕ). all is_token m ≡ true) (sym k.1)
    (every_at (λ i. all is_token (get_or known_names i [])) 8 refl (code_of n - 1) (omega (arith, k.0)))

-- octets of the set from place a on, n of them
run_of : (s : List ℕ) (f : ℕ → Bool) (n a e : ℕ) → a + n ≡ e → e ≤ length s → all f (slice a e s) ≡ true → Run s f a e
run_of s f zero a e q l h = let same : a ≡ e = omega arith in subst (Run s f a) same run_end
run_of s f (suc n) a e q l h =
    let x = both (f (get_or s a 0)) (all f (slice (suc a) e s)) (rw (slice-cons a e s 0 (omega arith) l) at h) in
    run_more {i = a} (record { inside = omega arith; is = x.0 }) (run_of s f n (suc a) e (omega arith) l x.1)

pub known_token : (s : List ℕ) {a e k : ℕ} → InText s a e → k ≡ code_of (folded (slice a e s)) → 0 < k → Token s a e
unfolding code_of
known_token s {a} {e} {k} t q l = ⊎_elim none some (eq-or-lt_of_le t.ordered)
  where
    none : a ≡ e → Token s a e
    none z =
        let zero : k ≡ 0 = q ∙ ap (λ (i : ℕ). code_of (folded (slice i e s))) z ∙ ap (λ (n : List ℕ). code_of (folded n)) (slice_empty e s) in
        absurd (omega arith)

    some : a < e → Token s a e
    some m =
        split m
        (run_of s is_token (e - a) a e (omega arith) t.inside
        (all_unfolded (slice a e s) (known_tokens (folded (slice a e s)) (rw q at l))))
