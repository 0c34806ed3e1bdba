-- Which texts begin a derivable header, and how long the longest prefix is that does.
use Prim.Native.Nat.{ℕ, suc, ◌+◌, ◌-◌, ◌≤◌, ◌<◌}
use native.Mathlib.Omega.{arith}
use mathlib.Core.Path.{◌≡◌, refl, sym, ap, subst, ◌∙◌}
use mathlib.Core.Bool.{Bool, true, false, true≢false, false≢true}
use mathlib.Core.Logic.{◌⊎◌, inl, inr}
use mathlib.Core.List.{List, [], ◌∷◌, ◌++◌}
use mathlib.Core.Option.{none, some}
use lib.Dec.{ltb}
use borrow.Author.Tests.{ltb-true, ltb-false}
use lib.ListN.{length, take, drop}
use lib.Seq.{take-add}
use Rattle.octets.specs.Sets.{is_blank, is_token, is_target, is_hex, is_escapable}
use Rattle.grammar.specs.Link.{Link}
use Rattle.grammar.specs.Grammar.{Extra, Admissible}
use Rattle.grammar.specs.Place.{Begins, Longest}
use Rattle.grammar.specs.Machine.{
  State,
  gap,
  target,
  percent,
  hex,
  after,
  semi,
  name,
  named,
  equals,
  bare,
  wide,
  quote,
  escape,
  dead,
  step,
  run,
  finish,
}
use Rattle.grammar.proofs.Exact.{derived_read, read_derived}

abbrev pub is_dead : State → Bool
is_dead (gap ls) = false
is_dead (target ls a) = false
is_dead (percent ls a) = false
is_dead (hex ls a) = false
is_dead (after o) = false
is_dead (semi o) = false
is_dead (name o n) = false
is_dead (named o n e) = false
is_dead (equals o n e) = false
is_dead (bare o n e v) = false
is_dead (wide o n e v) = false
is_dead (quote o n e v) = false
is_dead (escape o n e v) = false
is_dead dead = true

pub is_dead_lem : (st : State) → is_dead st ≡ true → st ≡ dead
is_dead_lem (gap ls) e = absurd (false≢true e)
is_dead_lem (target ls a) e = absurd (false≢true e)
is_dead_lem (percent ls a) e = absurd (false≢true e)
is_dead_lem (hex ls a) e = absurd (false≢true e)
is_dead_lem (after o) e = absurd (false≢true e)
is_dead_lem (semi o) e = absurd (false≢true e)
is_dead_lem (name o n) e = absurd (false≢true e)
is_dead_lem (named o n k) e = absurd (false≢true e)
is_dead_lem (equals o n k) e = absurd (false≢true e)
is_dead_lem (bare o n k v) e = absurd (false≢true e)
is_dead_lem (wide o n k v) e = absurd (false≢true e)
is_dead_lem (quote o n k v) e = absurd (false≢true e)
is_dead_lem (escape o n k v) e = absurd (false≢true e)
is_dead_lem dead e = refl

-- octets after which a header may end
completion : State → List ℕ
completion (gap ls) = []
completion (target ls a) = 62 ∷ []
completion (percent ls a) = 48 ∷ 48 ∷ 62 ∷ []
completion (hex ls a) = 48 ∷ 62 ∷ []
completion (after o) = []
completion (semi o) = 97 ∷ []
completion (name o n) = []
completion (named o n e) = []
completion (equals o n e) = 97 ∷ []
completion (bare o n e v) = []
completion (wide o n e v) = []
completion (quote o n e v) = 34 ∷ []
completion (escape o n e v) = 34 ∷ 34 ∷ []
completion dead = []

module _ (extra : Extra) where
  pub run_append : (a b : List ℕ) (st : State) (i : ℕ) → run extra st i (a ++ b) ≡ run extra (run extra st i a) (i + length a) b
  run_append [] b st i = ap (λ (n : ℕ). run extra st n b) (omega arith)
  run_append (c ∷ a) b st i =
      run_append a b (step extra st i c) (suc i)
      ∙ ap (λ (n : ℕ). run extra (run extra (step extra st i c) (suc i) a) n b) (omega arith)

  pub run_dead : (t : List ℕ) (i : ℕ) → run extra dead i t ≡ dead
  run_dead [] i = refl
  run_dead (c ∷ t) i = run_dead t (suc i)

  completes : (st : State) (i n : ℕ) → is_dead st ≡ false → (R : List Link) × (finish (run extra st i (completion st)) n ≡ some R)
  unfolding completion is_blank is_token is_target is_hex is_escapable
  completes (gap ls) i n e = (_, refl)
  completes (target ls a) i n e = (_, refl)
  completes (percent ls a) i n e = (_, refl)
  completes (hex ls a) i n e = (_, refl)
  completes (after o) i n e = (_, refl)
  completes (semi o) i n e = (_, refl)
  completes (name o m) i n e = (_, refl)
  completes (named o m k) i n e = (_, refl)
  completes (equals o m k) i n e = (_, refl)
  completes (bare o m k v) i n e = (_, refl)
  completes (wide o m k v) i n e = (_, refl)
  completes (quote o m k v) i n e = (_, refl)
  completes (escape o m k v) i n e = (_, refl)
  completes dead i n e = absurd (true≢false e)

module _ (extra : Extra) (apart : Admissible extra) where
  -- the state after a text
  abbrev pub up_to : List ℕ → State
  up_to u = run extra (gap []) 0 u

  pub alive_begins : (u : List ℕ) → is_dead (up_to u) ≡ false → Begins extra u
  alive_begins u alive =
      let t = completion (up_to u) in
      let (R, e) = completes extra (up_to u) (0 + length u) (length (u ++ t)) alive in
      record {
        rest = t;
        links = R;
        derived =
            read_derived extra apart (u ++ t)
            (ap (λ (x : State). finish x (length (u ++ t))) (run_append extra u t (gap []) 0) ∙ e);
      }

  -- a text after which the machine is dead begins nothing, and is not mended by more octets
  dead_on : (u t : List ℕ) → is_dead (up_to u) ≡ true → up_to (u ++ t) ≡ dead
  dead_on u t e =
      run_append extra u t (gap []) 0 ∙ ap (λ (x : State). run extra x (0 + length u) t) (is_dead_lem (up_to u) e)
      ∙ run_dead extra t (0 + length u)

  pub begins_alive : (u : List ℕ) → Begins extra u → is_dead (up_to u) ≡ false
  begins_alive u b = go (is_dead (up_to u)) refl
    where
      go : (x : Bool) → is_dead (up_to u) ≡ x → is_dead (up_to u) ≡ false
      go false e = e
      go true e =
          let read : finish (up_to (u ++ b.rest)) (length (u ++ b.rest)) ≡ some b.links =
          derived_read extra apart (u ++ b.rest) b.derived
          in
          let none_read : none ≡ some b.links =
          subst (λ (x : State). finish x (length (u ++ b.rest)) ≡ some b.links) (dead_on u b.rest e) read
          in
          let z : ◌≡◌ {A = ℕ} 0 1 = cc in
          absurd (omega arith)

  pub dead_later : (s : List ℕ) (i j : ℕ) → i ≤ j → is_dead (up_to (take i s)) ≡ true → is_dead (up_to (take j s)) ≡ true
  dead_later s i j h e =
      let apart_by : j ≡ i + (j - i) = omega arith in
      let split : take j s ≡ take i s ++ take (j - i) (drop i s) =
      ap (λ (n : ℕ). take n s) apart_by ∙ take-add i (j - i) s
      in
      ap (λ (u : List ℕ). is_dead (up_to u)) split ∙ ap is_dead (dead_on (take i s) (take (j - i) (drop i s)) e)

  -- the longest prefix ends where the machine lives and, unless the header ends there, dies at the next octet
  pub longest_at : (s : List ℕ) (k : ℕ) → k ≤ length s → is_dead (up_to (take k s)) ≡ false
      → (k ≡ length s) ⊎ (is_dead (up_to (take (suc k) s)) ≡ true) → Longest extra s k
  longest_at s k h alive d = record { within = h; begins = alive_begins (take k s) alive; longest = longest d }
    where
      longest : (k ≡ length s) ⊎ (is_dead (up_to (take (suc k) s)) ≡ true)
          → (j : ℕ) → k < j → j ≤ length s → Begins extra (take j s) → ⊥
      longest (inl e) j lt le b = omega arith
      longest (inr e) j lt le b = true≢false (sym (dead_later s (suc k) j lt e) ∙ begins_alive (take j s) b)

  pub same_longest : (s : List ℕ) (j k : ℕ) → Longest extra s j → Longest extra s k → j ≡ k
  same_longest s j k p q = go (ltb j k) refl (ltb k j) refl
    where
      go : (x : Bool) → ltb j k ≡ x → (y : Bool) → ltb k j ≡ y → j ≡ k
      go true e y f = absurd (p.longest k (ltb-true j k e) q.within q.begins)
      go false e true f = absurd (q.longest j (ltb-true k j f) p.within p.begins)
      go false e false f = omega (arith, ltb-false j k e, ltb-false k j f)
