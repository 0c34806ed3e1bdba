-- Feeds judge a target when its `>` is fed, and not before.
use Prim.Native.Nat.{ℕ, suc, ◌+◌, ◌-◌, ◌≤◌, ◌<◌}
use native.Mathlib.Omega.{arith}
use mathlib.Core.Path.{◌≡◌, refl, sym, ap, subst, ◌∙◌}
use mathlib.Core.Logic.{◌⊎◌, inl, inr}
use mathlib.Core.List.{List, [], ◌∷◌, ◌++◌}
use lib.ListN.{length, take, drop, take-append-drop, length-take}
use lib.Seq.{take-add}
use Rattle.octets.specs.Sets.{is_blank, is_digit, is_letter, is_target, is_hex}
use Rattle.octets.specs.Text.{octets}
use Rattle.octets.specs.Editions.{number_of, further}
use Rattle.octets.specs.declared.editions.Edition.{Edition}
use Rattle.octets.specs.declared.editions.Edition.TheVariants.{Rfc8288, Rfc5988}
use Rattle.grammar.specs.Place.{Begins, Begun, Faulty, Place}
use Rattle.grammar.specs.Targets.{ReferenceAt}
use Rattle.grammar.proofs.Closing.{CleanTo}
use Rattle.grammar.proofs.Editions.{apart}
use Rattle.grammar.proofs.Growing.{begins_front, faulty_append}
use Rattle.grammar.proofs.Places.{judged, shut_faulty, faulty_shut, first_target}
use Rattle.outcomes.specs.Number.{limit, done, malformed_header_number}
use Rattle.outcomes.specs.Feed.{FeedOut, unstored, FeedIn, small_buffer, too_long, wrong_so_far, right_so_far}
use Rattle.outcomes.specs.Feeding.{Feeding, Feeds}
use Rattle.outcomes.proofs.FeedSettled.{feed_in}
use Rattle.laws.specs.Feedings.{whole, HandedOut, FirstFaulty, TargetsTold}
use Rattle.laws.proofs.Stopped.{unfit_first}
use Rattle.laws.proofs.HandedRight.{handed_right}
use Rattle.laws.proofs.Feedings.{feed_answers_in}

module _ (e : Edition) where
  -- within the limit 0 is answered of octets with which nothing is wrong
  untold : {octets part buffer : List ℕ} {o : FeedOut} → limit ≤ length buffer → length (octets ++ part) ≤ limit
      → Begun (further e) (octets ++ part) → FeedIn e octets part buffer o → o.number ≡ done
  untold h s b (small_buffer l) = absurd (omega arith)
  untold h s b (too_long _ l) = absurd (omega arith)
  untold h s b (wrong_so_far _ _ n k) = absurd (n b)
  untold h s b (right_so_far _ _ _) = refl

  -- nothing is wrong with the octets in front of a first faulty target's `>`
  begun_before : (s : List ℕ) {a k : ℕ} → FirstFaulty e s a k → (n : ℕ) → n ≤ k → Begun (further e) (take n s)
  begun_before s {a} {k} f n h =
      let c = f.faulty.closed in
      let parts : suc k ≡ n + (suc k - n) = omega arith in
      let split : take (suc k) s ≡ take n s ++ take (suc k - n) (drop n s) =
      ap (λ (m : ℕ). take m s) parts ∙ take-add n (suc k - n) s
      in
      record {
        begins =
            begins_front (further e) (take n s) (take (suc k - n) (drop n s))
            (subst (Begins (further e)) split (record { rest = c.rest; links = c.links; derived = c.derived }));
        references =
            λ b j g. f.first b j (inside b j g)
            (subst (λ (x : List ℕ). Faulty (further e) x b j) (take-append-drop n s) (faulty_append (apart e) (take n s) (drop n s) g));
      }
    where
      inside : (b j : ℕ) → Faulty (further e) (take n s) b j → j < k
      inside b j g = omega (arith, g.closed.inside, length-take n s)

  -- the place is where that target starts
  first_place : {s : List ℕ} {a k : ℕ} → FirstFaulty e s a k → Place (further e) s a
  first_place {s} {a} {k} f =
      first_target (further e) (apart e) (faulty_shut (further e) (apart e) f.faulty) f.faulty.no_reference clean
    where
      clean : CleanTo (further e) s k
      clean b j h l = go (judged s b j)
        where
          go : ReferenceAt s b j ⊎ (ReferenceAt s b j → ⊥) → ReferenceAt s b j
          go (inl r) = r
          go (inr n) = absurd (f.first b j l (shut_faulty (further e) (apart e) h n))

  before_told : (ps : List (List ℕ)) (part buffer : List ℕ) (st next : Feeding) (o : FeedOut) → HandedOut (number_of e) ps buffer st
      → Feeds st part buffer o next → length (whole ps ++ part) ≤ limit → (header : List ℕ) (a k n : ℕ) → FirstFaulty e header a k
      → n ≤ k → whole ps ++ part ≡ take n header → o.number ≡ done
  before_told ps part buffer st next o d f s header a k n w h q =
      untold (handed_right e d).room s (subst (Begun (further e)) (sym q) (begun_before header w n h)) (feed_answers_in e d f)

  closed_told : (ps : List (List ℕ)) (part buffer : List ℕ) (st next : Feeding) (o : FeedOut) → HandedOut (number_of e) ps buffer st
      → Feeds st part buffer o next → length (whole ps ++ part) ≤ limit → (a k : ℕ) → FirstFaulty e (whole ps ++ part) a k
      → o ≡ unstored buffer malformed_header_number a
  closed_told ps part buffer st next o d f s a k w =
      let one = (feed_in e (whole ps) part buffer).2 in
      one o (feed_answers_in e d f)
      ∙ sym (one _ (wrong_so_far (handed_right e d).room s (λ b. b.references a k w.faulty) (first_place w)))

-- the case
first_of_it : (e : Edition) → FirstFaulty e (octets "<1:a>") 1 4
unfolding is_blank is_digit is_letter is_target is_hex
first_of_it Rfc8288 = unfit_first Rfc8288 (octets "<1:a>") 1 4 refl
first_of_it Rfc5988 = unfit_first Rfc5988 (octets "<1:a>") 1 4 refl

pub targets_told : (e : Edition) → TargetsTold e
targets_told e =
    record {
      still_open =
          λ ps part buffer st next o d f s b n.
          untold e (handed_right e d).room s (record { begins = b; references = n }) (feed_answers_in e d f);
      before = before_told e;
      closed = closed_told e;
      two_parts =
          λ buffer st next o d f.
          before_told e (octets "<1" ∷ []) (octets ":a") buffer st next o d f (omega arith) (octets "<1:a>") 1 4 4 (first_of_it e) (omega arith) refl;
      three_parts =
          λ buffer st next o d f.
          closed_told e (octets "<1" ∷ octets ":a" ∷ []) (octets ">") buffer st next o d f (omega arith) 1 4 (first_of_it e);
    }
