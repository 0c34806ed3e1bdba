-- Which targets are closed: those at whose `>` the machine stands in them. They come one behind the other.
use Prim.Native.Nat.{ℕ, zero, suc, ◌+◌, ◌-◌, ◌≤◌, ◌<◌}
use native.Mathlib.Omega.{arith}
use mathlib.Core.Path.{◌≡◌, refl, sym, ap, subst, ◌∙◌}
use mathlib.Core.Bool.{Bool, true, false}
use mathlib.Core.Logic.{◌⊎◌, inl, inr}
use mathlib.Core.List.{List, [], ◌∷◌, ◌++◌, reverse, append-nil}
use mathlib.Core.Option.{Option, none, some}
use lib.Dec.{eqb}
use lib.ListN.{length, take, drop, get_or, take-append-drop, length-append, get_or-append}
use lib.Seq.{take-suc, take-add, take-length, take-append-le, length-take-le}
use borrow.Author.Tests.{eqb-true, eq-eqb}
use Rattle.octets.specs.Sets.{is_target}
use Rattle.grammar.specs.Link.{Link}
use Rattle.grammar.specs.Grammar.{Extra, Admissible, Field}
use Rattle.grammar.specs.Targets.{ReferenceAt, EachTarget, References, HasTarget}
use Rattle.grammar.specs.Place.{Closed}
use Rattle.grammar.specs.Machine.{
  State,
  gap,
  target,
  percent,
  hex,
  after,
  semi,
  name,
  named,
  equals,
  bare,
  wide,
  quote,
  escape,
  dead,
  step,
  run,
  settle,
}
use Rattle.grammar.specs.Machine.{opened, close, links_in_order, finish}
use Rattle.grammar.proofs.Exact.{derived_read, read_derived}
use Rattle.grammar.proofs.Prefix.{run_append, is_dead}
use Rattle.grammar.proofs.TargetsHeld.{
  never,
  closed_in,
  OpenFrom,
  each_reversed,
  each_has,
  has_reversed,
  each_step,
  has_run,
  opens_step,
  each_settled,
}

-- the start of a target in which the machine stands, behind no `%`
open_start : State → Option ℕ
open_start (gap ls) = none
open_start (target ls a) = some a
open_start (percent ls a) = none
open_start (hex ls a) = none
open_start (after o) = none
open_start (semi o) = none
open_start (name o n) = none
open_start (named o n e) = none
open_start (equals o n e) = none
open_start (bare o n e v) = none
open_start (wide o n e v) = none
open_start (quote o n e v) = none
open_start (escape o n e v) = none
open_start dead = none

module _ (extra : Extra) where
  -- the state after the first i octets
  abbrev pub state_at : List ℕ → ℕ → State
  state_at s i = run extra (gap []) 0 (take i s)

  -- at place k the machine stands in the target that begins at a, and a `>` stands there
  pub record Shut (s : List ℕ) (a k : ℕ) : Type 0 where
    pub inside : k < length s
    pub octet : get_or s k 0 ≡ 62
    pub held : List Link
    pub stands : state_at s k ≡ target held a

  pub state_step : (s : List ℕ) (i : ℕ) → i < length s → state_at s (suc i) ≡ step extra (state_at s i) i (get_or s i 0)
  state_step s i h =
      let n : 0 + length (take i s) ≡ i = omega (arith, length-take-le i s (omega arith)) in
      ap (run extra (gap []) 0) (take-suc s i 0 h)
      ∙ run_append extra (take i s) (get_or s i 0 ∷ []) (gap []) 0
      ∙ ap (λ (k : ℕ). step extra (state_at s i) k (get_or s i 0)) n

  pub state_from : (s : List ℕ) (i j : ℕ) → i ≤ j → j ≤ length s
      → state_at s j ≡ run extra (state_at s i) i (take (j - i) (drop i s))
  state_from s i j h l =
      let apart_by : j ≡ i + (j - i) = omega arith in
      let n : 0 + length (take i s) ≡ i = omega (arith, length-take-le i s (omega arith)) in
      ap (λ (m : ℕ). run extra (gap []) 0 (take m s)) apart_by
      ∙ ap (run extra (gap []) 0) (take-add i (j - i) s)
      ∙ run_append extra (take i s) (take (j - i) (drop i s)) (gap []) 0
      ∙ ap (λ (k : ℕ). run extra (state_at s i) k (take (j - i) (drop i s))) n

  pub state_end : (s : List ℕ) → state_at s (length s) ≡ run extra (gap []) 0 s
  state_end s = ap (run extra (gap []) 0) (take-length s)

  -- behind the `>` the link is open
  pub shut_after : {s : List ℕ} {a k : ℕ} (h : Shut s a k) → state_at s (suc k) ≡ after (opened h.held a k)
  unfolding is_target
  shut_after {s} {a} {k} h =
      state_step s k h.inside
      ∙ ap (λ (c : ℕ). step extra (state_at s k) k c) h.octet
      ∙ ap (λ (x : State). step extra x k 62) h.stands

  -- ---- more octets behind the `>` change nothing

  pub shut_append : {u : List ℕ} (v : List ℕ) {a k : ℕ} → Shut u a k → Shut (u ++ v) a k
  shut_append {u} v {a} {k} h =
      record {
        inside = omega (arith, h.inside, length-append u v);
        octet = get_or-append u v 0 k h.inside ∙ h.octet;
        held = h.held;
        stands = ap (run extra (gap []) 0) (take-append-le k u v (omega (arith, h.inside))) ∙ h.stands;
      }

  pub shut_front : (u v : List ℕ) {a k : ℕ} → k < length u → Shut (u ++ v) a k → Shut u a k
  shut_front u v {a} {k} l h =
      record {
        inside = l;
        octet = sym (get_or-append u v 0 k l) ∙ h.octet;
        held = h.held;
        stands = ap (run extra (gap []) 0) (sym (take-append-le k u v (omega arith))) ∙ h.stands;
      }

  -- ---- what the machine holds was closed

  each_shut : (s : List ℕ) (i : ℕ) → i ≤ length s → EachTarget (Shut s) (closed_in (state_at s i))
  each_shut s zero h = tt
  each_shut s (suc i) h =
      subst (λ (x : State). EachTarget (Shut s) (closed_in x)) (sym (state_step s i h))
      (each_step extra (Shut s) (state_at s i) i (get_or s i 0) (each_shut s i (omega arith))
      (λ ls a e q. record { inside = h; octet = q; held = ls; stands = e }))

  module _ (apart : Admissible extra) where
    -- a derived header's links, last first, as the machine holds them
    pub settled : (s : List ℕ) {R : List Link} → Field extra s R
        → (ls : List Link) × (settle (run extra (gap []) 0 s) (length s) ≡ some ls) × (reverse ls ≡ R)
    settled s {R} f = go (settle (run extra (gap []) 0 s) (length s)) refl (derived_read extra apart s f)
      where
        go : (x : Option (List Link)) → settle (run extra (gap []) 0 s) (length s) ≡ x → links_in_order x ≡ some R
            → (ls : List Link) × (settle (run extra (gap []) 0 s) (length s) ≡ some ls) × (reverse ls ≡ R)
        go none q e = never e
        go (some ls) q e = (ls, q, cc)

    -- so were the targets of a derived header
    pub derived_shut : (s : List ℕ) {R : List Link} → Field extra s R → EachTarget (Shut s) R
    derived_shut s {R} f =
        let (ls, q, r) = settled s f in
        subst (EachTarget (Shut s)) r
        (each_reversed (Shut s) ls
        (each_settled (Shut s) (run extra (gap []) 0 s) (length s) q
        (subst (λ (x : State). EachTarget (Shut s) (closed_in x)) (state_end s) (each_shut s (length s) (omega arith)))))

    pub closed_shut : {s : List ℕ} {a k : ℕ} → Closed extra s a k → Shut s a k
    closed_shut {s} {a} {k} c =
        let u = take (suc k) s in
        let l : k < length u = omega (arith, c.inside, length-take-le (suc k) s c.inside) in
        let whole : Shut (u ++ c.rest) a k =
        each_has (Shut (u ++ c.rest)) c.links a k (derived_shut (u ++ c.rest) c.derived) c.target
        in
        subst (λ (x : List ℕ). Shut x a k) (take-append-drop (suc k) s)
        (shut_append (drop (suc k) s) (shut_front u c.rest l whole))

    pub shut_closed : {s : List ℕ} {a k : ℕ} → Shut s a k → Closed extra s a k
    shut_closed {s} {a} {k} h =
        let o = opened h.held a k in
        record {
          inside = h.inside;
          rest = [];
          links = reverse (close o);
          derived =
              read_derived extra apart (take (suc k) s ++ [])
              (ap (λ (x : List ℕ). finish (run extra (gap []) 0 x) (length (take (suc k) s ++ []))) (append-nil (take (suc k) s))
              ∙ ap (λ (x : State). finish x (length (take (suc k) s ++ []))) (shut_after h));
          target = has_reversed (close o) a k (inl (refl, refl));
        }

  -- ---- one behind the other

  -- a target begins no later than it ends
  pub starts_before : (s : List ℕ) (i k : ℕ) → i ≤ k → k ≤ length s → OpenFrom (λ (x : ℕ). x ≤ k) (state_at s i)
  starts_before s zero k h l = tt
  starts_before s (suc i) k h l =
      subst (OpenFrom (λ (x : ℕ). x ≤ k)) (sym (state_step s i (omega arith)))
      (opens_step extra (λ (x : ℕ). x ≤ k) (state_at s i) i (get_or s i 0) (starts_before s i k (omega arith) l) h)

  pub shut_ordered : {s : List ℕ} {a k : ℕ} → Shut s a k → a ≤ k
  shut_ordered {s} {a} {k} h =
      subst (OpenFrom (λ (x : ℕ). x ≤ k)) h.stands (starts_before s k k (omega arith) (omega (arith, h.inside)))

  -- one that is open later began later
  opens_later : {s : List ℕ} {a k : ℕ} → Shut s a k → (d : ℕ) → suc k + d ≤ length s
      → OpenFrom (λ (x : ℕ). suc k ≤ x) (state_at s (suc k + d))
  opens_later {s} {a} {k} h zero l =
      let e : suc k + 0 ≡ suc k = omega arith in
      subst (OpenFrom (λ (x : ℕ). suc k ≤ x)) (sym (ap (state_at s) e ∙ shut_after h)) tt
  opens_later {s} {a} {k} h (suc d) l =
      let e : suc k + suc d ≡ suc (suc k + d) = omega arith in
      subst (λ (n : ℕ). OpenFrom (λ (x : ℕ). suc k ≤ x) (state_at s n)) (sym e)
      (subst (OpenFrom (λ (x : ℕ). suc k ≤ x)) (sym (state_step s (suc k + d) (omega arith)))
      (opens_step extra (λ (x : ℕ). suc k ≤ x) (state_at s (suc k + d)) (suc k + d) (get_or s (suc k + d) 0)
      (opens_later h d (omega arith)) (omega arith)))

  pub shut_later : {s : List ℕ} {a k b j : ℕ} → Shut s a k → Shut s b j → k < j → k < b
  shut_later {s} {a} {k} {b} {j} h g l =
      let e : suc k + (j - suc k) ≡ j = omega arith in
      subst (OpenFrom (λ (x : ℕ). suc k ≤ x)) (ap (state_at s) e ∙ g.stands)
      (opens_later h (j - suc k) (omega (arith, g.inside)))

  pub shut_same : {s : List ℕ} {a b k : ℕ} → Shut s a k → Shut s b k → a ≡ b
  unfolding open_start
  shut_same {s} {a} {b} {k} h g =
      let e : some a ≡ some b = sym (ap open_start h.stands) ∙ ap open_start g.stands in
      cc

  -- ---- targets that are held later

  pub shut_held : {s : List ℕ} {a k : ℕ} → Shut s a k → (i : ℕ) → k < i → i ≤ length s → is_dead (state_at s i) ≡ false
      → HasTarget (closed_in (state_at s i)) a k
  shut_held {s} {a} {k} h i l m alive =
      let e = state_from s (suc k) i l m ∙ ap (λ (x : State). run extra x (suc k) (take (i - suc k) (drop (suc k) s))) (shut_after h) in
      subst (λ (x : State). HasTarget (closed_in x) a k) (sym e)
      (has_run extra a k (take (i - suc k) (drop (suc k) s)) (after (opened h.held a k)) (suc k) (inl (refl, refl))
      (sym (ap is_dead e) ∙ alive))

  -- every target that was closed before place i is a reference
  abbrev pub CleanTo : List ℕ → ℕ → Type 0
  CleanTo s i = (b j : ℕ) → Shut s b j → j < i → ReferenceAt s b j

  -- as far as the machine lives, those that it holds tell it
  pub clean : {s : List ℕ} (i : ℕ) → i ≤ length s → is_dead (state_at s i) ≡ false → References s (closed_in (state_at s i))
      → CleanTo s i
  clean {s} i m alive r b j h l = each_has (ReferenceAt s) (closed_in (state_at s i)) b j r (shut_held h i l m alive)

  -- ---- whether a target is closed at a place

  pub closing : (s : List ℕ) (i : ℕ) → i < length s → ((a : ℕ) × Shut s a i) ⊎ ((a : ℕ) → Shut s a i → ⊥)
  unfolding open_start
  closing s i h = go (state_at s i) refl (eqb (get_or s i 0) 62) refl
    where
      other : (st : State) → state_at s i ≡ st → open_start st ≡ none → (a : ℕ) → Shut s a i → ⊥
      other st e n a x =
          let z : none ≡ some a = sym n ∙ ap open_start (sym e ∙ x.stands) in
          let y : ◌≡◌ {A = ℕ} 0 1 = cc in
          omega arith

      go : (st : State) → state_at s i ≡ st → (b : Bool) → eqb (get_or s i 0) 62 ≡ b
          → ((a : ℕ) × Shut s a i) ⊎ ((a : ℕ) → Shut s a i → ⊥)
      go (target ls a) e true q =
          inl (a, record { inside = h; octet = eqb-true (get_or s i 0) 62 q; held = ls; stands = e })
      go (target ls a) e false q =
          inr (λ b x. let z : true ≡ false = sym (eq-eqb (get_or s i 0) 62 x.octet) ∙ q in let y : ◌≡◌ {A = ℕ} 0 1 = cc in omega arith)
      go (gap ls) e b q = inr (other (gap ls) e refl)
      go (percent ls a) e b q = inr (other (percent ls a) e refl)
      go (hex ls a) e b q = inr (other (hex ls a) e refl)
      go (after o) e b q = inr (other (after o) e refl)
      go (semi o) e b q = inr (other (semi o) e refl)
      go (name o n) e b q = inr (other (name o n) e refl)
      go (named o n k) e b q = inr (other (named o n k) e refl)
      go (equals o n k) e b q = inr (other (equals o n k) e refl)
      go (bare o n k v) e b q = inr (other (bare o n k v) e refl)
      go (wide o n k v) e b q = inr (other (wide o n k v) e refl)
      go (quote o n k v) e b q = inr (other (quote o n k v) e refl)
      go (escape o n k v) e b q = inr (other (escape o n k v) e refl)
      go dead e b q = inr (other dead e refl)
