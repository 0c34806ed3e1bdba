-- What was read so far is part of the header's reading, so that there is room for it.
use Prim.Native.Nat.{ℕ, zero, suc, ◌+◌, ◌≤◌, ◌<◌}
use native.Mathlib.Omega.{arith}
use native.Mathlib.Decide.{dec_le}
use mathlib.Core.Path.{◌≡◌, refl, sym, ap, subst, ◌∙◌}
use mathlib.Core.Logic.{◌⊎◌, inl, inr}
use mathlib.Core.Bool.{Bool, true, false, cond, true≢false}
use mathlib.Core.List.{List, [], ◌∷◌, map, reverse, reverse_aux, reverse_aux-eq}
use lib.Dec.{eqb}
use lib.ListN.{length, take, get_or, length-append, length-reverse_aux}
use borrow.Author.Tests.{eqb-true}
use Rattle.octets.specs.Sets.{is_blank}
use Rattle.grammar.specs.Link.{Link, Param}
use Rattle.grammar.specs.Grammar.{Extra, Admissible, At, Field}
use Rattle.grammar.specs.Kept.{name_of, keep_after, kept_link}
use Rattle.grammar.specs.Records.{count_params}
use Rattle.grammar.specs.Machine.{State, gap, after, semi, dead, run, step, Open, close}
use Rattle.grammar.proofs.Rest.{
  whole,
  Rest,
  r_gap,
  r_target,
  r_percent,
  r_hex,
  r_after,
  r_semi,
  r_name,
  r_named,
  r_equals,
  r_bare,
  r_wide,
  r_quote,
  r_escape,
}
use Rattle.grammar.proofs.Prefix.{is_dead}
use Rattle.grammar.proofs.Forward.{forward}
use Rattle.grammar.proofs.Readings.{one_derived}
use Rattle.grammar.proofs.Raise.{map_reverse_aux}
use Rattle.scan_parts.specs.Stands.{Stands, Ready}
use Rattle.scan_parts.proofs.Standing.{stands_step, finishes}
use Rattle.scanner.proofs.KeptMore.{keep_append}
use Rattle.scanner.proofs.BetweenLinks.{count_reverse}

-- nothing is asked of a dead machine
pub rest_alive : {extra : Extra} {s : List ℕ} {st : State} {i : ℕ} {R : List Link} → Rest extra s st i R → is_dead st ≡ false
rest_alive (r_gap g) = refl
rest_alive (r_target t k a) = refl
rest_alive (r_percent x y t k a) = refl
rest_alive (r_hex y t k a) = refl
rest_alive (r_after a) = refl
rest_alive (r_semi b p a) = refl
rest_alive (r_name r n a) = refl
rest_alive (r_named n a) = refl
rest_alive (r_equals b v a) = refl
rest_alive (r_bare t a) = refl
rest_alive (r_wide r a) = refl
rest_alive (r_quote t k a) = refl
rest_alive (r_escape x t k a) = refl

-- a header of these links and more has as many links and kept parameters at least
module _ (s : List ℕ) (o : Open) (ps : List Param) (Q : List Link) where
  whole_links : suc (length o.done) ≤ length (whole o ps Q)
  whole_links = omega (arith, length-reverse_aux o.done (record { target_from = o.target_from; target_to = o.target_to; params = reverse_aux o.params ps } ∷ Q))

  whole_params : count_params (map (kept_link s) o.done) + length (keep_after s [] (reverse o.params))
      ≤ count_params (map (kept_link s) (whole o ps Q))
  whole_params =
      let l : Link = record { target_from = o.target_from; target_to = o.target_to; params = reverse_aux o.params ps } in
      let e : count_params (map (kept_link s) (whole o ps Q))
      ≡ count_params (map (kept_link s) o.done) + count_params (map (kept_link s) (l ∷ Q)) =
      ap count_params (sym (map_reverse_aux (kept_link s) o.done (l ∷ Q)))
      ∙ count_reverse (map (kept_link s) o.done) (map (kept_link s) (l ∷ Q))
      in
      let k : length (keep_after s [] (reverse_aux o.params ps))
      ≡ length (keep_after s [] (reverse o.params))
      + length (keep_after s (reverse_aux (map (name_of s) (reverse o.params)) []) ps) =
      ap (λ (x : List Param). length (keep_after s [] x)) (reverse_aux-eq o.params ps)
      ∙ ap length (keep_append s [] (reverse o.params) ps) ∙ length-append (keep_after s [] (reverse o.params)) _
      in
      omega (arith, e, k)

module _ {extra : Extra} {s : List ℕ} {R : List Link} (f : Field extra s R) where
  rest_at : Admissible extra → (i : ℕ) → i ≤ length s → Rest extra s (run extra (gap []) 0 (take i s)) i R
  rest_at a zero h =
      r_gap
      (record {
        start = f.start;
        stop = f.stop;
        end = f.end;
        before = f.before;
        items = f.items;
        after = f.after;
        complete = f.whole;
      })
  rest_at a (suc i) h =
      let here : Stands extra s (run extra (gap []) 0 (take i s)) i = record { apart = a; inside = omega arith; is = refl } in
      subst (λ (x : State). Rest extra s x (suc i) R) (sym (stands_step here h).is)
      (forward extra a s h (rest_at a i (omega arith)))

  -- what the grammar still asks where the machine stands
  pub stands_rest : {st : State} {i : ℕ} → Stands extra s st i → Rest extra s st i R
  stands_rest {i = i} p = subst (λ (x : State). Rest extra s x i R) p.is (rest_at p.apart i p.inside)

  -- the open link, with more parameters behind, is one of the header's
  ready_whole : {o : Open} {i : ℕ} → Ready extra s o i → (ps : List Param) × (Q : List Link) × (R ≡ whole o ps Q)
  ready_whole {o} {i} r = test (dec_le (length s) i)
    where
      go : {Z : List Link} {j : ℕ} (x y z : Bool)
          → Rest extra s (cond x (after o) (cond y (semi o) (cond z (gap (close o)) dead))) j Z
          → (ps : List Param) × (Q : List Link) × (Z ≡ whole o ps Q)
      go true y z (r_after {ps = ps} {R = Q} a) = (ps, Q, refl)
      go false true z (r_semi {p = p} {ps = ps} {R = Q} b q a) = (p ∷ ps, Q, refl)
      go false false true (r_gap {R = Q} g) = ([], Q, refl)
      go {Z = Z} {j = j} false false false x4 = elim x4 [ ]

      test : Dec (length s ≤ i) → (ps : List Param) × (Q : List Link) × (R ≡ whole o ps Q)
      test (yes h) = ([], [], one_derived extra r.stands.apart s f (finishes r.stands h r.settles))
      test (no h) =
          let l : i < length s = omega arith in
          go (is_blank (get_or s i 0)) (eqb (get_or s i 0) 59) (eqb (get_or s i 0) 44)
          (subst (λ (x : State). Rest extra s x (suc i) R) (r.steps l) (stands_rest (stands_step r.stands l)))

  -- so the links and the kept parameters counted so far are no more than the header's
  pub part_links : {o : Open} {i : ℕ} → Ready extra s o i → suc (length o.done) ≤ length R
  part_links {o} r =
      let (ps, Q, e) = ready_whole r in
      subst (λ (X : List Link). suc (length o.done) ≤ length X) (sym e) (whole_links s o ps Q)

  pub part_params : {o : Open} {i : ℕ} → Ready extra s o i
      → count_params (map (kept_link s) o.done) + length (keep_after s [] (reverse o.params))
      ≤ count_params (map (kept_link s) R)
  part_params {o} r =
      let (ps, Q, e) = ready_whole r in
      subst
      (λ (X : List Link).
      count_params (map (kept_link s) o.done) + length (keep_after s [] (reverse o.params))
      ≤ count_params (map (kept_link s) X))
      (sym e) (whole_params s o ps Q)

  -- behind blanks, where no further parameter begins, the link ends
  pub ready_ends : {o : Open} {i : ℕ} → Ready extra s o i → (i < length s → is_blank (get_or s i 0) ≡ false)
      → (i < length s → eqb (get_or s i 0) 59 ≡ false) → (length s ≤ i) ⊎ At s i 44
  ready_ends {o} {i} r b q = test (dec_le (length s) i)
    where
      test : Dec (length s ≤ i) → (length s ≤ i) ⊎ At s i 44
      test (yes h) = inl h
      test (no h) = go (eqb (get_or s i 0) 44) refl (stands_rest (stands_step r.stands l))
        where
          l : i < length s
          l = omega arith

          go : (z : Bool) → eqb (get_or s i 0) 44 ≡ z → Rest extra s (step extra r.state i (get_or s i 0)) (suc i) R
              → (length s ≤ i) ⊎ At s i 44
          go true e w = inr (record { inside = l; is = eqb-true (get_or s i 0) 44 e })
          go false e w =
              let died : step extra r.state i (get_or s i 0) ≡ dead = r.steps l ∙ rw (b l, q l, e) in
              absurd (true≢false (rest_alive (subst (λ (x : State). Rest extra s x (suc i) R) died w)))
