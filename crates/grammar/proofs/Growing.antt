-- Of which texts nothing is wrong so far, and their places, as octets are added.
use Prim.Native.Nat.{ℕ, suc, ◌+◌, ◌-◌, ◌≤◌, ◌<◌}
use native.Mathlib.Omega.{arith}
use native.Mathlib.Decide.{dec_le, dec_lt}
use mathlib.Core.Path.{◌≡◌, sym, ap, subst, ◌∙◌}
use mathlib.Core.List.{List, ◌++◌, append_assoc}
use lib.ListN.{length, take, length-append}
use lib.Seq.{take-append-le, take-append-add, take-length}
use Rattle.references.specs.AppendixA.{IsReference}
use Rattle.grammar.specs.Grammar.{Extra, Admissible, Field}
use Rattle.grammar.specs.Place.{Begins, Longest, Faulty, NoneFaulty, Place, at_target, at_longest, Begun}
use Rattle.grammar.proofs.Closing.{shut_append, shut_front, shut_ordered, shut_later}
use Rattle.grammar.proofs.Places.{shut_faulty, faulty_shut}
use Rattle.grammar.proofs.TargetsRaised.{slice_front}

-- what a beginning begins with
pub begins_front : (extra : Extra) (u v : List ℕ) → Begins extra (u ++ v) → Begins extra u
begins_front extra u v b =
    record {
      rest = v ++ b.rest;
      links = b.links;
      derived = subst (λ (x : List ℕ). Field extra x b.links) (append_assoc u v b.rest) b.derived;
    }

module _ {extra : Extra} (apart : Admissible extra) where
  -- a faulty target stays so
  pub faulty_append : (u v : List ℕ) {a k : ℕ} → Faulty extra u a k → Faulty extra (u ++ v) a k
  faulty_append u v {a} {k} f =
      shut_faulty extra apart (shut_append extra v (faulty_shut extra apart f))
      (λ r. f.no_reference (subst IsReference (slice_front u v a k (omega (arith, f.closed.inside))) r))

  pub faulty_front : (u v : List ℕ) {a k : ℕ} → k < length u → Faulty extra (u ++ v) a k → Faulty extra u a k
  faulty_front u v {a} {k} l f =
      shut_faulty extra apart (shut_front extra u v l (faulty_shut extra apart f))
      (λ r. f.no_reference (subst IsReference (sym (slice_front u v a k (omega arith))) r))

  pub begun_front : (u v : List ℕ) → Begun extra (u ++ v) → Begun extra u
  begun_front u v b =
      record {
        begins = begins_front extra u v b.begins;
        references = λ a k f. b.references a k (faulty_append u v f);
      }

  module _ {fed : List ℕ} (none : Begun extra fed → ⊥) where
    longest_before : {k : ℕ} → NoneFaulty extra fed → Longest extra fed k → k < length fed
    longest_before {k} n p = go (dec_le (length fed) k)
      where
        go : Dec (length fed ≤ k) → k < length fed
        go (no h) = omega arith
        go (yes h) =
            let e : k ≡ length fed = omega (arith, p.within) in
            absurd
            (none
            (record {
              begins = subst (Begins extra) (ap (λ (n : ℕ). take n fed) e ∙ take-length fed) p.begins;
              references = n;
            }))

    -- the place of octets of which something is wrong lies before their end
    pub before_end : {k : ℕ} → Place extra fed k → k < length fed
    before_end (at_target f least) =
        omega (arith, shut_ordered extra (faulty_shut extra apart f), f.closed.inside)
    before_end (at_longest n p) = longest_before n p

    -- and stays where it is
    module _ (part : List ℕ) where
      longest_stays : {k : ℕ} → NoneFaulty extra fed → Longest extra fed k → (j : ℕ) → k < j → j ≤ length (fed ++ part)
          → Begins extra (take j (fed ++ part)) → ⊥
      longest_stays {k} n p j lt le b = go (dec_le j (length fed))
        where
          go : Dec (j ≤ length fed) → ⊥
          go (yes h) = p.longest j lt h (subst (Begins extra) (take-append-le j fed part h) b)
          go (no h) =
              let m : j ≡ length fed + (j - length fed) = omega arith in
              let e : take j (fed ++ part) ≡ fed ++ take (j - length fed) part =
              ap (λ (x : ℕ). take x (fed ++ part)) m ∙ take-append-add fed part (j - length fed)
              in
              none
              (record {
                begins = begins_front extra fed (take (j - length fed) part) (subst (Begins extra) e b);
                references = n;
              })

      pub still_stuck : {k : ℕ} → Place extra fed k → Place extra (fed ++ part) k
      still_stuck (at_target {a = a} {k = k} f least) = at_target (faulty_append fed part f) (λ b j g. go b j g (dec_lt j (length fed)))
        where
          go : (b j : ℕ) → Faulty extra (fed ++ part) b j → Dec (j < length fed) → a ≤ b
          go b j g (yes h) = least b j (faulty_front fed part h g)
          go b j g (no h) =
              let x = faulty_shut extra apart f in
              omega (
                arith,
                shut_ordered extra x,
                f.closed.inside,
                shut_later extra (shut_append extra part x) (faulty_shut extra apart g) (omega (arith, f.closed.inside)),
              )
      still_stuck (at_longest {k = k} n p) =
          at_longest {k = k} (λ a j f. n a j (faulty_front fed part (before a j f (dec_lt j (length fed))) f))
          (record {
            within = omega (arith, p.within, length-append fed part);
            begins = subst (Begins extra) (sym (take-append-le k fed part p.within)) p.begins;
            longest = longest_stays n p;
          })
        where
          before : (a j : ℕ) → Faulty extra (fed ++ part) a j → Dec (j < length fed) → j < length fed
          before a j f (yes h) = h
          before a j f (no h) =
              absurd
              (longest_stays n p (suc j) (omega (arith, longest_before n p)) f.closed.inside
              (record { rest = f.closed.rest; links = f.closed.links; derived = f.closed.derived }))

-- a place before the end of a text: something is wrong with it
pub place_before : {extra : Extra} (u : List ℕ) {k : ℕ} → Place extra u k → k < length u → Begun extra u → ⊥
place_before u (at_target f least) h b = b.references _ _ f
place_before {extra} u (at_longest n p) h b =
    p.longest (length u) h (omega arith) (subst (Begins extra) (sym (take-length u)) b.begins)
