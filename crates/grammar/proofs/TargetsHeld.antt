-- The targets that the machine holds as closed, and the one that is open: what holds of them as the machine goes on.
use Prim.Native.Nat.{ℕ, suc}
use native.Mathlib.Omega.{arith}
use mathlib.Core.Path.{◌≡◌, refl, sym, subst, ◌∙◌}
use mathlib.Core.Bool.{Bool, true, false, cond, true≢false}
use mathlib.Core.Logic.{◌⊎◌, inl, inr}
use mathlib.Core.List.{List, [], ◌∷◌, reverse, reverse_aux}
use mathlib.Core.Option.{none, some}
use lib.Dec.{eqb}
use borrow.Author.Tests.{eqb-true}
use Rattle.octets.specs.Sets.{is_blank, is_token, is_plain, is_escapable, is_target, is_hex}
use Rattle.grammar.specs.Link.{Link}
use Rattle.grammar.specs.Grammar.{Extra, is_bare}
use Rattle.grammar.specs.Targets.{EachTarget, HasTarget}
use Rattle.grammar.specs.Machine.{
  State,
  gap,
  target,
  percent,
  hex,
  after,
  semi,
  name,
  named,
  equals,
  bare,
  wide,
  quote,
  escape,
  dead,
  Open,
  next,
  name_end,
}
use Rattle.grammar.specs.Machine.{step, run, settle, add, flag, param, close}
use Rattle.grammar.proofs.Prefix.{is_dead, is_dead_lem, run_dead}

pub never : {A : Type 0} {ls : List Link} → none ≡ some ls → A
never e =
    let z : ◌≡◌ {A = ℕ} 0 1 = cc in
    absurd (omega arith)

-- ---- lists of links

module _ (P : ℕ → ℕ → Type 0) where
  each_reverse : (ls ms : List Link) → EachTarget P ls → EachTarget P ms → EachTarget P (reverse_aux ls ms)
  each_reverse [] ms a b = b
  each_reverse (l ∷ ls) ms a b = each_reverse ls (l ∷ ms) a.1 (a.0, b)

  pub each_reversed : (ls : List Link) → EachTarget P ls → EachTarget P (reverse ls)
  each_reversed ls a = each_reverse ls [] a tt

  pub each_has : (ls : List Link) (a k : ℕ) → EachTarget P ls → HasTarget ls a k → P a k
  each_has [] a k e h = absurd h
  each_has (l ∷ ls) a k e (inl (x, y)) = subst (λ (n : ℕ). P n k) x (subst (P l.target_from) y e.0)
  each_has (l ∷ ls) a k e (inr h) = each_has ls a k e.1 h

has_reverse : (ls ms : List Link) (a k : ℕ) → HasTarget ls a k ⊎ HasTarget ms a k → HasTarget (reverse_aux ls ms) a k
has_reverse [] ms a k (inl z) = absurd z
has_reverse [] ms a k (inr h) = h
has_reverse (l ∷ ls) ms a k (inl (inl e)) = has_reverse ls (l ∷ ms) a k (inr (inl e))
has_reverse (l ∷ ls) ms a k (inl (inr h)) = has_reverse ls (l ∷ ms) a k (inl h)
has_reverse (l ∷ ls) ms a k (inr h) = has_reverse ls (l ∷ ms) a k (inr (inr h))

pub has_reversed : (ls : List Link) (a k : ℕ) → HasTarget ls a k → HasTarget (reverse ls) a k
has_reversed ls a k h = has_reverse ls [] a k (inl h)

-- ---- what the machine holds

-- the links whose targets are closed, last first
abbrev pub closed_in : State → List Link
closed_in (gap ls) = ls
closed_in (target ls a) = ls
closed_in (percent ls a) = ls
closed_in (hex ls a) = ls
closed_in (after o) = close o
closed_in (semi o) = close o
closed_in (name o n) = close o
closed_in (named o n e) = close o
closed_in (equals o n e) = close o
closed_in (bare o n e v) = close o
closed_in (wide o n e v) = close o
closed_in (quote o n e v) = close o
closed_in (escape o n e v) = close o
closed_in dead = []

-- an open target begins where P holds
abbrev pub OpenFrom : (ℕ → Type 0) → State → Type 0
OpenFrom P (gap ls) = Unit
OpenFrom P (target ls a) = P a
OpenFrom P (percent ls a) = P a
OpenFrom P (hex ls a) = P a
OpenFrom P (after o) = Unit
OpenFrom P (semi o) = Unit
OpenFrom P (name o n) = Unit
OpenFrom P (named o n e) = Unit
OpenFrom P (equals o n e) = Unit
OpenFrom P (bare o n e v) = Unit
OpenFrom P (wide o n e v) = Unit
OpenFrom P (quote o n e v) = Unit
OpenFrom P (escape o n e v) = Unit
OpenFrom P dead = Unit

-- what holds of both is held by the choice
choose : (F : State → Type 0) (b : Bool) {x y : State} → F x → F y → F (cond b x y)
choose F true p q = p
choose F false p q = q

-- ---- one octet more

-- what holds of every closed target goes on to hold, if it holds of the one that the octet closes
module _ (extra : Extra) (P : ℕ → ℕ → Type 0) where
  abbrev Each : State → Type 0
  Each st = EachTarget P (closed_in st)

  each_next : (o : Open) (c : ℕ) → EachTarget P (close o) → Each (next o c)
  each_next o c h = choose Each (is_blank c) h (choose Each (eqb c 59) h (choose Each (eqb c 44) h tt))

  each_name : (o : Open) (n e c : ℕ) → EachTarget P (close o) → Each (name_end o n e c)
  each_name o n e c h = choose Each (is_blank c) h (choose Each (eqb c 61) h (each_next (add (flag n e) o) c h))

  pub each_step : (st : State) (i c : ℕ) → Each st → ((ls : List Link) (a : ℕ) → st ≡ target ls a → c ≡ 62 → P a i)
      → Each (step extra st i c)
  each_step (gap ls) i c h f = choose Each (is_blank c) h (choose Each (eqb c 44) h (choose Each (eqb c 60) h tt))
  each_step (target ls a) i c h f = choose Each (is_target c) h (choose Each (eqb c 37) h (go (eqb c 62) refl))
    where
      go : (b : Bool) → eqb c 62 ≡ b → Each (cond b (after (record { done = ls; target_from = a; target_to = i; params = [] })) dead)
      go true e = (f ls a refl (eqb-true c 62 e), h)
      go false e = tt
  each_step (percent ls a) i c h f = choose Each (is_hex c) h tt
  each_step (hex ls a) i c h f = choose Each (is_hex c) h tt
  each_step (after o) i c h f = each_next o c h
  each_step (semi o) i c h f = choose Each (is_blank c) h (choose Each (is_token c) h tt)
  each_step (name o n) i c h f = choose Each (is_token c) h (each_name o n i c h)
  each_step (named o n e) i c h f = each_name o n e c h
  each_step (equals o n e) i c h f =
      choose Each (is_blank c) h (choose Each (eqb c 34) h (choose Each (is_token c) h (choose Each (extra c) h tt)))
  each_step (bare o n e v) i c h f =
      choose Each (is_token c) h (choose Each (extra c) h (each_next (add (param n e v i 1) o) c h))
  each_step (wide o n e v) i c h f = choose Each (is_bare extra c) h (each_next (add (param n e v i 3) o) c h)
  each_step (quote o n e v) i c h f = choose Each (eqb c 34) h (choose Each (eqb c 92) h (choose Each (is_plain c) h tt))
  each_step (escape o n e v) i c h f = choose Each (is_escapable c) h tt
  each_step dead i c h f = tt

-- a closed target stays, as long as the machine lives
module _ (extra : Extra) (a k : ℕ) where
  abbrev Has : State → Type 0
  Has st = (is_dead st ≡ true) ⊎ HasTarget (closed_in st) a k

  has_next : (o : Open) (c : ℕ) → HasTarget (close o) a k → Has (next o c)
  has_next o c h =
      choose Has (is_blank c) (inr h) (choose Has (eqb c 59) (inr h) (choose Has (eqb c 44) (inr h) (inl refl)))

  has_name : (o : Open) (n e c : ℕ) → HasTarget (close o) a k → Has (name_end o n e c)
  has_name o n e c h = choose Has (is_blank c) (inr h) (choose Has (eqb c 61) (inr h) (has_next (add (flag n e) o) c h))

  has_step : (st : State) (i c : ℕ) → HasTarget (closed_in st) a k → Has (step extra st i c)
  has_step (gap ls) i c h =
      choose Has (is_blank c) (inr h) (choose Has (eqb c 44) (inr h) (choose Has (eqb c 60) (inr h) (inl refl)))
  has_step (target ls b) i c h =
      choose Has (is_target c) (inr h) (choose Has (eqb c 37) (inr h) (choose Has (eqb c 62) (inr (inr h)) (inl refl)))
  has_step (percent ls b) i c h = choose Has (is_hex c) (inr h) (inl refl)
  has_step (hex ls b) i c h = choose Has (is_hex c) (inr h) (inl refl)
  has_step (after o) i c h = has_next o c h
  has_step (semi o) i c h = choose Has (is_blank c) (inr h) (choose Has (is_token c) (inr h) (inl refl))
  has_step (name o n) i c h = choose Has (is_token c) (inr h) (has_name o n i c h)
  has_step (named o n e) i c h = has_name o n e c h
  has_step (equals o n e) i c h =
      choose Has (is_blank c) (inr h)
      (choose Has (eqb c 34) (inr h) (choose Has (is_token c) (inr h) (choose Has (extra c) (inr h) (inl refl))))
  has_step (bare o n e v) i c h =
      choose Has (is_token c) (inr h) (choose Has (extra c) (inr h) (has_next (add (param n e v i 1) o) c h))
  has_step (wide o n e v) i c h = choose Has (is_bare extra c) (inr h) (has_next (add (param n e v i 3) o) c h)
  has_step (quote o n e v) i c h =
      choose Has (eqb c 34) (inr h) (choose Has (eqb c 92) (inr h) (choose Has (is_plain c) (inr h) (inl refl)))
  has_step (escape o n e v) i c h = choose Has (is_escapable c) (inr h) (inl refl)
  has_step dead i c h = inl refl

  pub has_run : (t : List ℕ) (st : State) (i : ℕ) → HasTarget (closed_in st) a k → is_dead (run extra st i t) ≡ false
      → HasTarget (closed_in (run extra st i t)) a k
  has_run [] st i h alive = h
  has_run (c ∷ t) st i h alive = go (has_step st i c h) (has_run t (step extra st i c) (suc i))
    where
      go : Has (step extra st i c)
          → (HasTarget (closed_in (step extra st i c)) a k → is_dead (run extra (step extra st i c) (suc i) t) ≡ false
          → HasTarget (closed_in (run extra (step extra st i c) (suc i) t)) a k)
          → HasTarget (closed_in (run extra (step extra st i c) (suc i) t)) a k
      go (inl e) more =
          absurd
          (true≢false
          (sym
          (subst (λ (x : State). is_dead (run extra x (suc i) t) ≡ true) (sym (is_dead_lem (step extra st i c) e))
          (subst (λ (x : State). is_dead x ≡ true) (sym (run_dead extra t (suc i))) refl))
          ∙ alive))
      go (inr g) more = more g alive

-- where P holds of what stands behind each place, an open target goes on to begin where it holds
module _ (extra : Extra) (P : ℕ → Type 0) where
  abbrev Opens : State → Type 0
  Opens st = OpenFrom P st

  opens_next : (o : Open) (c : ℕ) → Opens (next o c)
  opens_next o c = choose Opens (is_blank c) tt (choose Opens (eqb c 59) tt (choose Opens (eqb c 44) tt tt))

  opens_name : (o : Open) (n e c : ℕ) → Opens (name_end o n e c)
  opens_name o n e c = choose Opens (is_blank c) tt (choose Opens (eqb c 61) tt (opens_next (add (flag n e) o) c))

  pub opens_step : (st : State) (i c : ℕ) → Opens st → P (suc i) → Opens (step extra st i c)
  opens_step (gap ls) i c h p = choose Opens (is_blank c) tt (choose Opens (eqb c 44) tt (choose Opens (eqb c 60) p tt))
  opens_step (target ls a) i c h p = choose Opens (is_target c) h (choose Opens (eqb c 37) h (choose Opens (eqb c 62) tt tt))
  opens_step (percent ls a) i c h p = choose Opens (is_hex c) h tt
  opens_step (hex ls a) i c h p = choose Opens (is_hex c) h tt
  opens_step (after o) i c h p = opens_next o c
  opens_step (semi o) i c h p = choose Opens (is_blank c) tt (choose Opens (is_token c) tt tt)
  opens_step (name o n) i c h p = choose Opens (is_token c) tt (opens_name o n i c)
  opens_step (named o n e) i c h p = opens_name o n e c
  opens_step (equals o n e) i c h p =
      choose Opens (is_blank c) tt (choose Opens (eqb c 34) tt (choose Opens (is_token c) tt (choose Opens (extra c) tt tt)))
  opens_step (bare o n e v) i c h p =
      choose Opens (is_token c) tt (choose Opens (extra c) tt (opens_next (add (param n e v i 1) o) c))
  opens_step (wide o n e v) i c h p = choose Opens (is_bare extra c) tt (opens_next (add (param n e v i 3) o) c)
  opens_step (quote o n e v) i c h p = choose Opens (eqb c 34) tt (choose Opens (eqb c 92) tt (choose Opens (is_plain c) tt tt))
  opens_step (escape o n e v) i c h p = choose Opens (is_escapable c) tt tt
  opens_step dead i c h p = tt

-- ---- where the header may end

pub settled_alive : (st : State) (i : ℕ) {ls : List Link} → settle st i ≡ some ls → is_dead st ≡ false
settled_alive (gap ks) i e = refl
settled_alive (target ks a) i e = refl
settled_alive (percent ks a) i e = refl
settled_alive (hex ks a) i e = refl
settled_alive (after o) i e = refl
settled_alive (semi o) i e = refl
settled_alive (name o n) i e = refl
settled_alive (named o n k) i e = refl
settled_alive (equals o n k) i e = refl
settled_alive (bare o n k v) i e = refl
settled_alive (wide o n k v) i e = refl
settled_alive (quote o n k v) i e = refl
settled_alive (escape o n k v) i e = refl
settled_alive dead i e = never e

module _ (P : ℕ → ℕ → Type 0) where
  pub each_settled : (st : State) (i : ℕ) {ls : List Link} → settle st i ≡ some ls → EachTarget P (closed_in st) → EachTarget P ls
  each_settled (gap ks) i {ls} e h = let q : ks ≡ ls = cc in subst (EachTarget P) q h
  each_settled (target ks a) i e h = never e
  each_settled (percent ks a) i e h = never e
  each_settled (hex ks a) i e h = never e
  each_settled (after o) i {ls} e h = let q : close o ≡ ls = cc in subst (EachTarget P) q h
  each_settled (semi o) i e h = never e
  each_settled (name o n) i {ls} e h = let q : close (add (flag n i) o) ≡ ls = cc in subst (EachTarget P) q h
  each_settled (named o n k) i {ls} e h = let q : close (add (flag n k) o) ≡ ls = cc in subst (EachTarget P) q h
  each_settled (equals o n k) i e h = never e
  each_settled (bare o n k v) i {ls} e h = let q : close (add (param n k v i 1) o) ≡ ls = cc in subst (EachTarget P) q h
  each_settled (wide o n k v) i {ls} e h = let q : close (add (param n k v i 3) o) ≡ ls = cc in subst (EachTarget P) q h
  each_settled (quote o n k v) i e h = never e
  each_settled (escape o n k v) i e h = never e
  each_settled dead i e h = never e

  -- and the other way round
  pub each_unsettled : (st : State) (i : ℕ) {ls : List Link} → settle st i ≡ some ls → EachTarget P ls → EachTarget P (closed_in st)
  each_unsettled (gap ks) i {ls} e h = let q : ls ≡ ks = cc in subst (EachTarget P) q h
  each_unsettled (target ks a) i e h = never e
  each_unsettled (percent ks a) i e h = never e
  each_unsettled (hex ks a) i e h = never e
  each_unsettled (after o) i {ls} e h = let q : ls ≡ close o = cc in subst (EachTarget P) q h
  each_unsettled (semi o) i e h = never e
  each_unsettled (name o n) i {ls} e h = let q : ls ≡ close (add (flag n i) o) = cc in subst (EachTarget P) q h
  each_unsettled (named o n k) i {ls} e h = let q : ls ≡ close (add (flag n k) o) = cc in subst (EachTarget P) q h
  each_unsettled (equals o n k) i e h = never e
  each_unsettled (bare o n k v) i {ls} e h = let q : ls ≡ close (add (param n k v i 1) o) = cc in subst (EachTarget P) q h
  each_unsettled (wide o n k v) i {ls} e h = let q : ls ≡ close (add (param n k v i 3) o) = cc in subst (EachTarget P) q h
  each_unsettled (quote o n k v) i e h = never e
  each_unsettled (escape o n k v) i e h = never e
  each_unsettled dead i e h = never e

pub has_settled : (st : State) (i : ℕ) {ls : List Link} (a k : ℕ) → settle st i ≡ some ls → HasTarget (closed_in st) a k
    → HasTarget ls a k
has_settled (gap ks) i {ls} a k e h = let q : ks ≡ ls = cc in subst (λ (x : List Link). HasTarget x a k) q h
has_settled (target ks b) i a k e h = never e
has_settled (percent ks b) i a k e h = never e
has_settled (hex ks b) i a k e h = never e
has_settled (after o) i {ls} a k e h = let q : close o ≡ ls = cc in subst (λ (x : List Link). HasTarget x a k) q h
has_settled (semi o) i a k e h = never e
has_settled (name o n) i {ls} a k e h =
    let q : close (add (flag n i) o) ≡ ls = cc in subst (λ (x : List Link). HasTarget x a k) q h
has_settled (named o n m) i {ls} a k e h =
    let q : close (add (flag n m) o) ≡ ls = cc in subst (λ (x : List Link). HasTarget x a k) q h
has_settled (equals o n m) i a k e h = never e
has_settled (bare o n m v) i {ls} a k e h =
    let q : close (add (param n m v i 1) o) ≡ ls = cc in subst (λ (x : List Link). HasTarget x a k) q h
has_settled (wide o n m v) i {ls} a k e h =
    let q : close (add (param n m v i 3) o) ≡ ls = cc in subst (λ (x : List Link). HasTarget x a k) q h
has_settled (quote o n m v) i a k e h = never e
has_settled (escape o n m v) i a k e h = never e
has_settled dead i a k e h = never e
