-- A target that is open where a header of a join ends is closed by nothing that stands behind it there: not by blanks, and not by a
-- comma and derivable headers, whose first `<` no target holds. So every target that is closed behind the header begins there too.
use Prim.Native.Nat.{ℕ, suc, ◌+◌, ◌-◌, ◌≤◌, ◌<◌}
use native.Mathlib.Omega.{arith}
use mathlib.Core.Path.{◌≡◌, refl, sym, ap, subst, ◌∙◌}
use mathlib.Core.Bool.{Bool, true, false, ◌||◌, false≢true, true≢false}
use mathlib.Core.Logic.{◌⊎◌, inl, inr}
use mathlib.Core.List.{List, [], ◌∷◌, ◌++◌}
use lib.Dec.{eqb}
use lib.ListN.{length, take, drop, get_or, length-append}
use lib.Seq.{split_at, take-append-add, get_or-append-add}
use borrow.Author.Tests.{eqb-true}
use Rattle.octets.specs.Sets.{all, is_blank, is_target, is_hex}
use Rattle.octets.proofs.Octets.{both}
use Rattle.grammar.specs.Link.{Link}
use Rattle.grammar.specs.Grammar.{Extra, Admissible, Field}
use Rattle.grammar.specs.Join.{join, Readable}
use Rattle.grammar.specs.Machine.{
  State,
  gap,
  target,
  percent,
  hex,
  after,
  semi,
  name,
  named,
  equals,
  bare,
  wide,
  quote,
  escape,
  dead,
  step,
  run,
  settle,
}
use Rattle.grammar.proofs.Prefix.{is_dead, run_append, run_dead}
use Rattle.grammar.proofs.TargetsHeld.{never, OpenFrom, opens_step}
use Rattle.grammar.proofs.Closing.{state_at, Shut, settled}
use Rattle.grammar.proofs.Joined.{joined_all, joined_derived}
use Rattle.laws.proofs.Beside.{Targeted, in_target_lem, no_target, Waiting, waits, over, lost, waiting_run}
use Rattle.laws.proofs.Front.{tail, pads_of}

-- inside a target
data Within : State → Type 0 where
  in_octets : {ls : List Link} {a : ℕ} → Within (target ls a)
  in_percent : {ls : List Link} {a : ℕ} → Within (percent ls a)
  in_hex : {ls : List Link} {a : ℕ} → Within (hex ls a)

within_or_none : (st : State) → Within st ⊎ ((P : ℕ → Type 0) → OpenFrom P st)
within_or_none (gap ls) = inr (λ P. tt)
within_or_none (target ls a) = inl in_octets
within_or_none (percent ls a) = inl in_percent
within_or_none (hex ls a) = inl in_hex
within_or_none (after o) = inr (λ P. tt)
within_or_none (semi o) = inr (λ P. tt)
within_or_none (name o n) = inr (λ P. tt)
within_or_none (named o n e) = inr (λ P. tt)
within_or_none (equals o n e) = inr (λ P. tt)
within_or_none (bare o n e v) = inr (λ P. tt)
within_or_none (wide o n e v) = inr (λ P. tt)
within_or_none (quote o n e v) = inr (λ P. tt)
within_or_none (escape o n e v) = inr (λ P. tt)
within_or_none dead = inr (λ P. tt)

no_blank : is_blank 62 ≡ false
unfolding is_blank
no_blank = refl

lives : {st : State} {ls : List Link} {r : ℕ} → st ≡ dead → st ≡ target ls r → ⊥
lives d e = true≢false (ap is_dead (sym d ∙ e))

module _ (extra : Extra) (apart : Admissible extra) (back : extra 92 ≡ false) where
  -- a target that is opened from here on begins from here on
  open_run : (p : ℕ) (u : List ℕ) (st : State) (i : ℕ) → p ≤ suc i → OpenFrom (λ (x : ℕ). p ≤ x) st
      → OpenFrom (λ (x : ℕ). p ≤ x) (run extra st i u)
  open_run p [] st i l o = o
  open_run p (c ∷ u) st i l o =
      open_run p u (step extra st i c) (suc i) (omega arith) (opens_step extra (λ (x : ℕ). p ≤ x) st i c o l)

  within_either : {st : State} → Within st → (i : ℕ) → (step extra st i 32 ≡ dead) × (step extra st i 9 ≡ dead)
  unfolding is_target is_hex
  within_either in_octets i = (refl, refl)
  within_either in_percent i = (refl, refl)
  within_either in_hex i = (refl, refl)

  within_blank : {st : State} → Within st → (i c : ℕ) → is_blank c ≡ true → step extra st i c ≡ dead
  unfolding is_blank
  within_blank {st} w i c b = go (eqb c 32) refl (eqb c 9) refl b
    where
      go : (x : Bool) → eqb c 32 ≡ x → (y : Bool) → eqb c 9 ≡ y → (x || (y || false)) ≡ true → step extra st i c ≡ dead
      go true e y f r = ap (step extra st i) (eqb-true c 32 e) ∙ (within_either w i).0
      go false e true f r = ap (step extra st i) (eqb-true c 9 f) ∙ (within_either w i).1
      go false e false f r = absurd (false≢true r)

  within_comma : {st : State} → Within st → (i : ℕ) → Targeted (step extra st i 44)
  unfolding is_target is_hex
  within_comma in_octets i = in_target_lem
  within_comma in_percent i = no_target
  within_comma in_hex i = no_target

  no_close : (ls : List Link) (i : ℕ) → step extra (gap ls) i 62 ≡ dead
  unfolding is_blank
  no_close ls i = refl

  -- the machine that reads a derived header doesn't die
  alive_through : (u v : List ℕ) {R : List Link} → Field extra (u ++ 62 ∷ v) R → (x : State) → run extra (gap []) 0 u ≡ x
      → step extra x (0 + length u) 62 ≡ dead → ⊥
  alive_through u v f x e d =
      let (ls, q, _) = settled extra apart (u ++ 62 ∷ v) f in
      let died : run extra (gap []) 0 (u ++ 62 ∷ v) ≡ dead =
      run_append extra u (62 ∷ v) (gap []) 0
      ∙ ap (λ (y : State). run extra (step extra y (0 + length u) 62) (suc (0 + length u)) v) e
      ∙ ap (λ (y : State). run extra y (suc (0 + length u)) v) d
      ∙ run_dead extra v (suc (0 + length u))
      in
      never (sym (ap (λ (y : State). settle y (length (u ++ 62 ∷ v))) died) ∙ q)

  -- a target that is open before a derivable header isn't closed in it
  waiting_closed : (u v : List ℕ) {R : List Link} → Field extra (u ++ 62 ∷ v) R → {y : State} → Targeted y
      → (i : ℕ) (ls : List Link) (r : ℕ) → run extra y i u ≡ target ls r → ⊥
  waiting_closed u v f {y} t i ls r e = go (waiting_run extra apart back u {x = gap []} (waits refl t) 0 i)
    where
      go : Waiting (run extra (gap []) 0 u) (run extra y i u) → ⊥
      go (waits {ls = ks} g _) = alive_through u v f (gap ks) g (no_close ks (0 + length u))
      go (over d) = lives d e
      go (lost d) = alive_through u v f dead d refl

  -- nor in what else may stand behind a header of a join
  caught : (right : List ℕ) → all is_blank right ≡ true → (gs : List (Readable extra)) {st : State} → Within st → (m : ℕ) (u v : List ℕ)
      → right ++ tail (pads_of extra apart gs) ≡ u ++ 62 ∷ v → (ls : List Link) (r : ℕ) → run extra st m u ≡ target ls r → ⊥
  caught (c ∷ rs) b gs w m [] v e ls r q =
      let h : c ≡ 62 = cc in
      false≢true (sym no_blank ∙ ap is_blank (sym h) ∙ (both (is_blank c) (all is_blank rs) b).0)
  caught (c ∷ rs) b gs {st} w m (d ∷ u) v e ls r q =
      let h : d ≡ c = cc in
      let died = ap (step extra st m) h ∙ within_blank w m c (both (is_blank c) (all is_blank rs) b).0 in
      lives (ap (λ (x : State). run extra x (suc m) u) died ∙ run_dead extra u (suc m)) q
  caught [] b [] w m u v e ls r q = omega (arith, ap length e, length-append u (62 ∷ v))
  caught [] b (g ∷ gs) w m [] v e ls r q = let h : ◌≡◌ {A = ℕ} 44 62 = cc in omega arith
  caught [] b (g ∷ gs) {st} w m (d ∷ u) v e ls r q =
      let h : d ≡ 44 = cc in
      let k : join (pads_of extra apart (g ∷ gs)) ≡ u ++ 62 ∷ v = cc in
      let f = subst (λ (x : List ℕ). Field extra x (joined_all extra apart 0 (g ∷ gs))) k (joined_derived extra apart (g ∷ gs)) in
      waiting_closed u v f (within_comma w m) (suc m) ls r (ap (λ (x : ℕ). run extra (step extra st m x) (suc m) u) (sym h) ∙ q)

  -- behind the octets W, where one of a join's headers ends, a closed target begins behind them
  pub begins_later : (W right : List ℕ) → all is_blank right ≡ true → (gs : List (Readable extra)) {r j : ℕ}
      → Shut extra (W ++ (right ++ tail (pads_of extra apart gs))) r j → length W ≤ j → length W ≤ r
  begins_later W right b gs {r} {j} h l =
      go (within_or_none st)
    where
      st : State
      st = run extra (gap []) 0 W

      B : List ℕ
      B = right ++ tail (pads_of extra apart gs)

      n : ℕ
      n = j - length W

      at : j ≡ length W + n
      at = omega arith

      inside : n < length B
      inside = omega (arith, h.inside, length-append W B)

      octet : get_or B n 0 ≡ 62
      octet = sym (get_or-append-add W B n 0) ∙ ap (λ (i : ℕ). get_or (W ++ B) i 0) (sym at) ∙ h.octet

      parted : B ≡ take n B ++ 62 ∷ drop (suc n) B
      parted = split_at B n 0 inside ∙ ap (λ (c : ℕ). take n B ++ c ∷ drop (suc n) B) octet

      stands : run extra st (0 + length W) (take n B) ≡ target h.held r
      stands =
          sym
          (ap (state_at extra (W ++ B)) at
          ∙ ap (run extra (gap []) 0) (take-append-add W B n)
          ∙ run_append extra W (take n B) (gap []) 0)
          ∙ h.stands

      go : Within st ⊎ ((P : ℕ → Type 0) → OpenFrom P st) → length W ≤ r
      go (inl w) = absurd (caught right b gs w (0 + length W) (take n B) (drop (suc n) B) parted h.held r stands)
      go (inr none) =
          subst (OpenFrom (λ (x : ℕ). length W ≤ x)) stands
          (open_run (length W) (take n B) st (0 + length W) (omega arith) (none (λ (x : ℕ). length W ≤ x)))
