-- Behind octets that begin a header, an octet leads from their spot to the spot behind it, or closes a target that is no reference.
use Prim.Native.Nat.{ℕ, suc, ◌+◌, ◌≤◌}
use native.Mathlib.Omega.{arith}
use mathlib.Core.Path.{◌≡◌, refl, sym, ap, subst, ◌∙◌}
use mathlib.Core.Bool.{Bool, true, false, cond, true≢false}
use mathlib.Core.Logic.{◌⊎◌, inl, inr}
use mathlib.Core.List.{List, [], ◌∷◌, ◌++◌}
use mathlib.Core.Option.{none, some}
use lib.Dec.{eqb}
use lib.ListN.{length, drop, length-append}
use lib.Seq.{drop-append-le, drop-length}
use borrow.Author.Tests.{eqb-true, eq-eqb}
use Rattle.octets.specs.Sets.{is_blank, is_token, is_plain, is_escapable, is_target, is_hex}
use Rattle.reference_steps.specs.Machine as judge
use Rattle.grammar.specs.Link.{Link}
use Rattle.grammar.specs.Grammar.{Extra, Admissible, is_bare}
use Rattle.grammar.specs.Machine.{
  State,
  gap,
  target,
  percent,
  hex,
  after,
  semi,
  name,
  named,
  equals,
  bare,
  wide,
  quote,
  escape,
  dead,
  Open,
  next,
  name_end,
}
use Rattle.grammar.specs.Machine.{step, phase_of, open_at, add, flag, param}
use Rattle.grammar.proofs.TargetsHeld.{OpenFrom}
use Rattle.outcomes.specs.Feeding.{start_of, judged_of}
use Rattle.phases.specs.declared.spot.Spot.{Spot}
use Rattle.phases.specs.Steps.{stuck, step_in}
use Rattle.phases.specs.Spots.{unfit, spot, is_open, behind_target, onward}
use Rattle.phases.proofs.Steps.{phase_step}

-- the spot of a state behind the octets `fed`
abbrev pub spot_in : List ℕ → State → Spot
spot_in fed st = spot (phase_of st) (start_of (open_at st)) (judged_of fed (open_at st))

-- ---- judging goes along

pub run_append : (u v : List ℕ) (q : ℕ) → judge.run q (u ++ v) ≡ judge.run (judge.run q u) v
run_append [] v q = refl
run_append (c ∷ u) v q = run_append u v (judge.step q c)

judged_more : (fed : List ℕ) (a c : ℕ) → a ≤ length fed
    → judge.run 0 (drop a (fed ++ c ∷ [])) ≡ judge.step (judge.run 0 (drop a fed)) c
judged_more fed a c h =
    ap (judge.run 0) (drop-append-le a fed (c ∷ []) h) ∙ run_append (drop a fed) (c ∷ []) 0

judged_new : (fed : List ℕ) (c : ℕ) → judge.run 0 (drop (suc (length fed)) (fed ++ c ∷ [])) ≡ 0
judged_new fed c =
    let e : suc (length fed) ≡ length (fed ++ c ∷ []) = omega (arith, length-append fed (c ∷ [])) in
    ap (judge.run 0) (ap (λ (n : ℕ). drop n (fed ++ c ∷ [])) e ∙ drop-length (fed ++ c ∷ []))

-- ---- from outside a target

-- outside targets too, or in a target that begins behind place i
abbrev Fresh : ℕ → State → Type 0
Fresh i x = ((open_at x ≡ none) × (eqb (phase_of x) 1 ≡ false)) ⊎ ((ls : List Link) × (x ≡ target ls (suc i)))

choose : (F : State → Type 0) (b : Bool) {x y : State} → F x → F y → F (cond b x y)
choose F true p q = p
choose F false p q = q

module _ (extra : Extra) (i c : ℕ) where
  fresh_next : (o : Open) → Fresh i (next o c)
  fresh_next o =
      choose (Fresh i) (is_blank c) (inl (refl, refl))
      (choose (Fresh i) (eqb c 59) (inl (refl, refl)) (choose (Fresh i) (eqb c 44) (inl (refl, refl)) (inl (refl, refl))))

  fresh_name : (o : Open) (n e : ℕ) → Fresh i (name_end o n e c)
  fresh_name o n e =
      choose (Fresh i) (is_blank c) (inl (refl, refl)) (choose (Fresh i) (eqb c 61) (inl (refl, refl)) (fresh_next (add (flag n e) o)))

  fresh_step : (st : State) → is_open (phase_of st) ≡ false → Fresh i (step extra st i c)
  fresh_step (gap ls) e =
      choose (Fresh i) (is_blank c) (inl (refl, refl))
      (choose (Fresh i) (eqb c 44) (inl (refl, refl)) (choose (Fresh i) (eqb c 60) (inr (ls, refl)) (inl (refl, refl))))
  fresh_step (target ls a) e = absurd (true≢false e)
  fresh_step (percent ls a) e = absurd (true≢false e)
  fresh_step (hex ls a) e = absurd (true≢false e)
  fresh_step (after o) e = fresh_next o
  fresh_step (semi o) e = choose (Fresh i) (is_blank c) (inl (refl, refl)) (choose (Fresh i) (is_token c) (inl (refl, refl)) (inl (refl, refl)))
  fresh_step (name o n) e = choose (Fresh i) (is_token c) (inl (refl, refl)) (fresh_name o n i)
  fresh_step (named o n k) e = fresh_name o n k
  fresh_step (equals o n k) e =
      choose (Fresh i) (is_blank c) (inl (refl, refl))
      (choose (Fresh i) (eqb c 34) (inl (refl, refl))
      (choose (Fresh i) (is_token c) (inl (refl, refl)) (choose (Fresh i) (extra c) (inl (refl, refl)) (inl (refl, refl)))))
  fresh_step (bare o n k v) e =
      choose (Fresh i) (is_token c) (inl (refl, refl))
      (choose (Fresh i) (extra c) (inl (refl, refl)) (fresh_next (add (param n k v i 1) o)))
  fresh_step (wide o n k v) e = choose (Fresh i) (is_bare extra c) (inl (refl, refl)) (fresh_next (add (param n k v i 3) o))
  fresh_step (quote o n k v) e =
      choose (Fresh i) (eqb c 34) (inl (refl, refl))
      (choose (Fresh i) (eqb c 92) (inl (refl, refl)) (choose (Fresh i) (is_plain c) (inl (refl, refl)) (inl (refl, refl))))
  fresh_step (escape o n k v) e = choose (Fresh i) (is_escapable c) (inl (refl, refl)) (inl (refl, refl))
  fresh_step dead e = inl (refl, refl)

-- ---- one octet more

-- behind the octets `fed`, where the machine stands at st, the octet c
pub record Told (extra : Extra) (fed : List ℕ) (st : State) (c : ℕ) : Type 0 where
  pub phase : (onward extra (spot_in fed st) (suc (length fed)) c).phase ≡ phase_of (step extra st (length fed) c)
  pub spot_on : (phase_of (step extra st (length fed) c) ≡ stuck → ⊥)
      → onward extra (spot_in fed st) (suc (length fed)) c ≡ spot_in (fed ++ c ∷ []) (step extra st (length fed) c)
  pub accepted : (ls : List Link) (a : ℕ) → st ≡ target ls a → c ≡ 62 → judge.accepts (judge.run 0 (drop a fed)) ≡ true

-- it closes a target that is no reference
pub record Refused (extra : Extra) (fed : List ℕ) (st : State) (c : ℕ) : Type 0 where
  pub held : List Link
  pub start : ℕ
  pub stands : st ≡ target held start
  pub closes : c ≡ 62
  pub refused : judge.accepts (judge.run 0 (drop start fed)) ≡ false
  pub spot_then : onward extra (spot_in fed st) (suc (length fed)) c ≡ spot unfit start 0

module _ {extra : Extra} (apart : Admissible extra) (fed : List ℕ) (c : ℕ) where
  -- from outside a target
  outside : (st : State) → is_open (phase_of st) ≡ false → Told extra fed st c
  unfolding onward
  outside st e = go (fresh_step extra (length fed) c st e)
    where
      n : step_in extra (phase_of st) c ≡ phase_of (step extra st (length fed) c)
      n = phase_step extra apart st (length fed) c

      never : (ls : List Link) (a : ℕ) → st ≡ target ls a → c ≡ 62 → judge.accepts (judge.run 0 (drop a fed)) ≡ true
      never ls a z q = absurd (true≢false (sym (ap (λ (x : State). is_open (phase_of x)) z) ∙ e))

      go : Fresh (length fed) (step extra st (length fed) c) → Told extra fed st c
      go (inl (p, q)) =
          record {
            phase = rw (e, n, q);
            spot_on = λ _. rw (e, n, q, p);
            accepted = never;
          }
      go (inr (ls, z)) =
          record {
            phase = rw (e, n, z);
            spot_on = λ _. rw (e, n, z, judged_new fed c);
            accepted = never;
          }

  -- in a target that goes on
  inside : (st new : State) (a : ℕ) → a ≤ length fed → is_open (phase_of st) ≡ true → open_at st ≡ some a → step extra st (length fed) c ≡ new
      → eqb (phase_of new) 4 ≡ false → ((phase_of new ≡ stuck → ⊥) → open_at new ≡ some a)
      → ((ls : List Link) (b : ℕ) → st ≡ target ls b → c ≡ 62 → ⊥) → Told extra fed st c
  unfolding onward behind_target
  inside st new a h o s e f k apart_from =
      record {
        phase = rw (o, n, f, e);
        spot_on = λ l. rw (o, n, f, s, e, k (subst (λ (x : State). phase_of x ≡ stuck → ⊥) e l), judged_more fed a c h);
        accepted = λ ls b z q. absurd (apart_from ls b z q);
      }
    where
      n : step_in extra (phase_of st) c ≡ phase_of new
      n = phase_step extra apart st (length fed) c ∙ ap phase_of e

  -- the `>` of a target
  closing : (ls : List Link) (a : ℕ) → c ≡ 62 → Told extra fed (target ls a) c ⊎ Refused extra fed (target ls a) c
  unfolding onward behind_target is_target
  closing ls a z = go (judge.accepts (judge.run 0 (drop a fed))) refl
    where
      n : step_in extra 1 c ≡ 4
      n = phase_step extra apart (target ls a) (length fed) c ∙ rw z

      go : (b : Bool) → judge.accepts (judge.run 0 (drop a fed)) ≡ b → Told extra fed (target ls a) c ⊎ Refused extra fed (target ls a) c
      go true q =
          inl
          (record {
            phase = rw (n, q, z);
            spot_on = λ _. rw (n, q, z);
            accepted = λ ks b e _. subst (λ (x : ℕ). judge.accepts (judge.run 0 (drop x fed)) ≡ true) (same e) q;
          })
        where
          same : {ks : List Link} {b : ℕ} → target ls a ≡ target ks b → a ≡ b
          same e = cc
      go false q =
          inr
          (record { held = ls; start = a; stands = refl; closes = z; refused = q; spot_then = rw (n, q) })

  plain_octet : is_target c ≡ true → c ≡ 62 → ⊥
  unfolding is_target
  plain_octet e z = true≢false (sym e ∙ ap is_target z)

  pub told : (st : State) → OpenFrom (λ (a : ℕ). a ≤ length fed) st → Told extra fed st c ⊎ Refused extra fed st c
  told (gap ls) h = inl (outside (gap ls) refl)
  told (target ls a) h = go (is_target c) refl (eqb c 37) refl (eqb c 62) refl
    where
      go : (x : Bool) → is_target c ≡ x → (y : Bool) → eqb c 37 ≡ y → (w : Bool) → eqb c 62 ≡ w
          → Told extra fed (target ls a) c ⊎ Refused extra fed (target ls a) c
      go true e y f w g =
          inl (inside (target ls a) (target ls a) a h refl refl (rw e) refl (λ _. refl) (λ ks b _ z. plain_octet e z))
      go false e true f w g =
          inl
          (inside (target ls a) (percent ls a) a h refl refl (rw (e, f)) refl (λ _. refl)
          (λ ks b _ z. omega (arith, eqb-true c 37 f)))
      go false e false f true g = closing ls a (eqb-true c 62 g)
      go false e false f false g =
          inl
          (inside (target ls a) dead a h refl refl (rw (e, f, g)) refl (λ l. absurd (l refl))
          (λ ks b _ z. true≢false (sym (eq-eqb c 62 z) ∙ g)))
  told (percent ls a) h = inl (go (is_hex c) refl)
    where
      other : {ks : List Link} {b : ℕ} → percent ls a ≡ target ks b → c ≡ 62 → ⊥
      other e _ = let z : ◌≡◌ {A = ℕ} 0 1 = cc in omega arith

      go : (x : Bool) → is_hex c ≡ x → Told extra fed (percent ls a) c
      go true e = inside (percent ls a) (hex ls a) a h refl refl (rw e) refl (λ _. refl) (λ ks b. other)
      go false e = inside (percent ls a) dead a h refl refl (rw e) refl (λ l. absurd (l refl)) (λ ks b. other)
  told (hex ls a) h = inl (go (is_hex c) refl)
    where
      other : {ks : List Link} {b : ℕ} → hex ls a ≡ target ks b → c ≡ 62 → ⊥
      other e _ = let z : ◌≡◌ {A = ℕ} 0 1 = cc in omega arith

      go : (x : Bool) → is_hex c ≡ x → Told extra fed (hex ls a) c
      go true e = inside (hex ls a) (target ls a) a h refl refl (rw e) refl (λ _. refl) (λ ks b. other)
      go false e = inside (hex ls a) dead a h refl refl (rw e) refl (λ l. absurd (l refl)) (λ ks b. other)
  told (after o) h = inl (outside (after o) refl)
  told (semi o) h = inl (outside (semi o) refl)
  told (name o n) h = inl (outside (name o n) refl)
  told (named o n e) h = inl (outside (named o n e) refl)
  told (equals o n e) h = inl (outside (equals o n e) refl)
  told (bare o n e v) h = inl (outside (bare o n e v) refl)
  told (wide o n e v) h = inl (outside (wide o n e v) refl)
  told (quote o n e v) h = inl (outside (quote o n e v) refl)
  told (escape o n e v) h = inl (outside (escape o n e v) refl)
  told dead h = inl (outside dead refl)
