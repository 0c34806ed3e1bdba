-- Derivations over a text that spells given octets from a place on: each hands back where it ended, and what is left.
use Prim.Native.Nat.{ℕ, suc, ◌≤◌, ◌<◌}
use native.Mathlib.Omega.{arith}
use mathlib.Core.Path.{◌≡◌, refl, sym, ap, subst, ◌∙◌}
use mathlib.Core.Bool.{Bool, true, false, cond, ◌&&◌, ◌||◌, false≢true}
use mathlib.Core.List.{List, [], ◌∷◌, ◌++◌}
use lib.Dec.{eqb}
use lib.ListN.{length, drop, get_or}
use lib.Seq.{slice, slice_empty, slice-cons}
use borrow.Author.Tests.{eqb-true}
use Rattle.octets.specs.Sets.{all, is_escapable, is_plain, is_target, is_hex}
use Rattle.octets.proofs.Laws.{escapable_plain}
use Rattle.octets.proofs.Octets.{both}
use Rattle.grammar.specs.Grammar.{
  In,
  At,
  Run,
  run_end,
  run_more,
  Some,
  Inside,
  inside_end,
  plain,
  pair,
  Target,
  target_end,
  octet,
  triple,
}
use Rattle.grammar.proofs.Exact.{left_some}
use Rattle.tables.specs.Written.{escape, escape_octet}
use Rattle.tables.proofs.Texts.{TargetText, target_none, target_octet, target_triple}

-- From place i the octets xs are derived as D says, and ys are left behind them.
pub record Spells (t : List ℕ) (D : ℕ → ℕ → Type 0) (i : ℕ) (xs ys : List ℕ) : Type 0 where
  pub stop : ℕ
  pub derived : D i stop
  pub forward : i ≤ stop
  pub inside : stop ≤ length t
  pub spelt : slice i stop t ≡ xs
  pub left : drop stop t ≡ ys

module _ (t : List ℕ) where
  -- what is left at place i is the octet c and then ys
  pub record Head (i c : ℕ) (ys : List ℕ) : Type 0 where
    pub inside : i < length t
    pub is : get_or t i 0 ≡ c
    pub left : drop (suc i) t ≡ ys

  pub head : {i c : ℕ} {ys : List ℕ} → drop i t ≡ c ∷ ys → Head i c ys
  head {i} {c} {ys} e = let x = left_some t i c ys e in record { inside = x.0; is = x.1; left = x.2 }

  pub at : {i c : ℕ} {ys : List ℕ} → Head i c ys → At t i c
  at h = record { inside = h.inside; is = h.is }

  pub is_in_lem : {f : ℕ → Bool} {i c : ℕ} {ys : List ℕ} → Head i c ys → f c ≡ true → In t f i
  is_in_lem {f} h e = record { inside = h.inside; is = ap f h.is ∙ e }

  ends : {D : ℕ → ℕ → Type 0} {i : ℕ} {ys : List ℕ} → D i i → i ≤ length t → drop i t ≡ ys → Spells t D i [] ys
  ends {i = i} d h e =
      record { stop = i; derived = d; forward = omega arith; inside = h; spelt = slice_empty i t; left = e }

  -- one octet more in front
  more : {D E : ℕ → ℕ → Type 0} {i c : ℕ} {zs xs ys : List ℕ} → Head i c zs → ((j : ℕ) → D (suc i) j → E i j)
      → Spells t D (suc i) xs ys → Spells t E i (c ∷ xs) ys
  more {i = i} {c = c} h f s =
      record {
        stop = s.stop;
        derived = f s.stop s.derived;
        forward = omega (arith, s.forward);
        inside = s.inside;
        spelt = slice-cons i s.stop t 0 s.forward s.inside ∙ ap (λ (x : ℕ). x ∷ slice (suc i) s.stop t) h.is
            ∙ ap (λ (x : List ℕ). c ∷ x) s.spelt;
        left = s.left;
      }

  pub run_spells : {f : ℕ → Bool} (xs ys : List ℕ) (i : ℕ) → all f xs ≡ true → i ≤ length t → drop i t ≡ xs ++ ys
      → Spells t (Run t f) i xs ys
  run_spells [] ys i a h e = ends run_end h e
  run_spells {f} (c ∷ xs) ys i a h e =
      let x = both (f c) (all f xs) a in
      let d : Head i c (xs ++ ys) = head e in
      more d (λ j r. run_more (is_in_lem d x.0) r) (run_spells xs ys (suc i) x.1 d.inside d.left)

  pub some_spells : {f : ℕ → Bool} {c : ℕ} (xs ys : List ℕ) (i : ℕ) → all f (c ∷ xs) ≡ true → drop i t ≡ c ∷ (xs ++ ys)
      → Spells t (Some t f) i (c ∷ xs) ys
  some_spells {f} {c} xs ys i a e =
      let x = both (f c) (all f xs) a in
      let d : Head i c (xs ++ ys) = head e in
      more d (λ j r. record { first = is_in_lem d x.0; rest = r }) (run_spells xs ys (suc i) x.1 d.inside d.left)

  pub target_spells : {xs : List ℕ} (ys : List ℕ) (i : ℕ) → TargetText xs → i ≤ length t → drop i t ≡ xs ++ ys
      → Spells t (Target t) i xs ys
  target_spells ys i target_none h e = ends target_end h e
  target_spells ys i (target_octet {c = c} {cs = cs} o r) h e =
      let d : Head i c (cs ++ ys) = head e in
      more d (λ j x. octet (is_in_lem d o) x) (target_spells ys (suc i) r d.inside d.left)
  target_spells ys i (target_triple {a = a} {b = b} {cs = cs} p q r) h e =
      let d : Head i 37 (a ∷ b ∷ (cs ++ ys)) = head e in
      let d₁ : Head (suc i) a (b ∷ (cs ++ ys)) = head d.left in
      let d₂ : Head (suc (suc i)) b (cs ++ ys) = head d₁.left in
      more {D = λ (_ : ℕ) (j : ℕ). Target t (suc (suc (suc i))) j} d (λ j x. triple (at d) (is_in_lem d₁ p) (is_in_lem d₂ q) x)
      (more {D = λ (_ : ℕ) (j : ℕ). Target t (suc (suc (suc i))) j} d₁ (λ j x. x)
      (more d₂ (λ j x. x) (target_spells ys (suc (suc (suc i))) r d₂.inside d₂.left)))

  -- an octet written behind a backslash, or plainly
  pub inside_spells : (v ys : List ℕ) (i : ℕ) → all is_escapable v ≡ true → i ≤ length t → drop i t ≡ escape v ++ ys
      → Spells t (Inside t) i (escape v) ys
  inside_spells [] ys i a h e = ends inside_end h e
  inside_spells (c ∷ v) ys i a h e = go (eqb c 34) refl (eqb c 92) refl e (inside_spells v ys)
    where
      ok : (is_escapable c ≡ true) × (all is_escapable v ≡ true)
      ok = both (is_escapable c) (all is_escapable v) a

      escaped : drop i t ≡ 92 ∷ c ∷ (escape v ++ ys)
          → ((j : ℕ) → all is_escapable v ≡ true → j ≤ length t → drop j t ≡ escape v ++ ys → Spells t (Inside t) j (escape v) ys)
          → Spells t (Inside t) i (92 ∷ c ∷ escape v) ys
      escaped e rest =
          let d : Head i 92 (c ∷ (escape v ++ ys)) = head e in
          let d₁ : Head (suc i) c (escape v ++ ys) = head d.left in
          more {D = λ (_ : ℕ) (j : ℕ). Inside t (suc (suc i)) j} d (λ j x. pair (at d) (is_in_lem d₁ ok.0) x)
          (more d₁ (λ j x. x) (rest (suc (suc i)) ok.1 d₁.inside d₁.left))

      go : (x : Bool) → eqb c 34 ≡ x → (y : Bool) → eqb c 92 ≡ y → drop i t ≡ cond (x || y) (92 ∷ c ∷ escape v) (c ∷ escape v) ++ ys
          → ((j : ℕ) → all is_escapable v ≡ true → j ≤ length t → drop j t ≡ escape v ++ ys → Spells t (Inside t) j (escape v) ys)
          → Spells t (Inside t) i (cond (x || y) (92 ∷ c ∷ escape v) (c ∷ escape v)) ys
      go true p y q e rest = escaped e rest
      go false p true q e rest = escaped e rest
      go false p false q e rest =
          let d : Head i c (escape v ++ ys) = head e in
          more d (λ j x. plain (is_in_lem d (escapable_plain c ok.0 p q)) x) (rest (suc i) ok.1 d.inside d.left)
