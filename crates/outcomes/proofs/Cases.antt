-- Cases that exclude each other, tested one after another, settle an outcome.
use Prim.Native.Nat.{ℕ, ◌≤◌, ◌<◌}
use native.Mathlib.Omega.{arith}
use native.Mathlib.Decide.{dec_le}
use mathlib.Core.Path.{◌≡◌}
use mathlib.Core.Logic.{◌⊎◌, inl, inr}
use mathlib.Core.List.{List}
use Rattle.rules.specs.Rule.{Rule, Derives}
use Rattle.rules.proofs.Lefts.{derived_or_not}
use Rattle.references.specs.Octets.{Octets, has}
use Rattle.outcomes.specs.Laws.{Settled}

-- q is told by X where P holds, and by Y where N does
pub data Branch {A : Type 0} (P : Type 0) (X : P → A → Type 0) (N : Type 0) (Y : A → Type 0) (q : A) : Type 0 where
  this : (p : P) → X p q → Branch P X N Y q
  that : N → Y q → Branch P X N Y q

-- by X where m is at most n, and else by Y
abbrev pub Order : {A : Type 0} → ℕ → ℕ → (A → Type 0) → (A → Type 0) → A → Type 0
Order m n X Y = Branch (m ≤ n) (λ h. X) (n < m) Y

-- by X where the rule r of references derives w, and else by Y
abbrev pub Derived : {A : Type 0} → Rule Octets → List ℕ → (A → Type 0) → (A → Type 0) → A → Type 0
Derived r w X Y = Branch (Derives has r w) (λ d. X) (Derives has r w → ⊥) Y

-- an outcome, and no other that Y tells
abbrev pub Settles : {A : Type 0} → (A → Type 0) → (A → Type 0) → Type 0
Settles {A} Out Y = (o : A) × Out o × ((q : A) → Y q → q ≡ o)

pub le_or_lt : (m n : ℕ) → (m ≤ n) ⊎ (n < m)
le_or_lt m n = go (dec_le m n)
  where
    go : Dec (m ≤ n) → (m ≤ n) ⊎ (n < m)
    go (yes h) = inl h
    go (no h) = inr (omega arith)

module _ {A : Type 0} {Out : A → Type 0} where
  pub only : {a : A} → Out a → Settles Out (λ q. q ≡ a)
  only {a} o = (a, o, λ q e. e)

  -- one of P and N holds, not both; what X tells is the same for every proof of P
  pub branch : {P N : Type 0} {X : P → A → Type 0} {Y : A → Type 0} → P ⊎ N → (P → N → ⊥)
      → ((p r : P) (q : A) → X r q → X p q) → ((p : P) → Settles Out (X p)) → (N → Settles Out Y)
      → Settles Out (Branch P X N Y)
  branch {P} {N} {X} {Y} (inl p) apart same f g = ((f p).0, (f p).1, go)
    where
      go : (q : A) → Branch P X N Y q → q ≡ (f p).0
      go q (this r x) = (f p).2 q (same p r q x)
      go q (that n y) = absurd (apart p n)
  branch {P} {N} {X} {Y} (inr n) apart same f g = ((g n).0, (g n).1, go)
    where
      go : (q : A) → Branch P X N Y q → q ≡ (g n).0
      go q (this p x) = absurd (apart p n)
      go q (that m y) = (g n).2 q y

  pub order : {m n : ℕ} {X Y : A → Type 0} → (m ≤ n → Settles Out X) → (n < m → Settles Out Y)
      → Settles Out (Order m n X Y)
  order {m} {n} f g = branch (le_or_lt m n) (λ h l. omega arith) (λ h l q x. x) f g

  -- by whether the rule derives w
  pub derived : (r : Rule Octets) (w : List ℕ) {X Y : A → Type 0} → (Derives has r w → Settles Out X)
      → ((Derives has r w → ⊥) → Settles Out Y) → Settles Out (Derived r w X Y)
  derived r w f g = branch (derived_or_not has r w) (λ d n. n d) (λ d e q x. x) f g

  -- as X settles it
  pub as_settled : {X : A → Type 0} → ((q : A) → X q → Out q) → Settled X → Settles Out X
  as_settled gives (o, x, one) = (o, gives o x, one)

  -- where Y tells every outcome
  pub settled : {Y : A → Type 0} → ((q : A) → Out q → Y q) → Settles Out Y → Settled Out
  settled tells (o, out, one) = (o, out, λ q d. one q (tells q d))
