-- A search that shows a machine exact for a rule: it walks the machine's states beside the lists of rules that are left, and asks of each
-- pair that it meets whether the text may end by both or by neither. If it ends well, the machine accepts just what the rule derives.
-- One octet of each kind is tried, where octets of one kind are in the same sets. Assumes nothing.
use Prim.Native.Nat.{ℕ, zero, suc}
use mathlib.Core.Path.{◌≡◌, refl, sym, ap, subst, ◌∙◌}
use mathlib.Core.Bool.{Bool, true, false, cond, not, ◌&&◌, ◌||◌, false≢true}
use mathlib.Core.List.{List, [], ◌∷◌, ◌++◌, map}
use mathlib.Core.Logic.{◌⊎◌, inl, inr, ⊎_elim}
use lib.Dec.{eqb}
use borrow.Author.Tests.{eqb-true}
use Rattle.rules.specs.Rule.{Rule, nothing, one, ◌then◌, ◌or◌, many}
use Rattle.rules.specs.Left.{may_be_empty, onto, any_empty, left, lefts, tried}
use Rattle.rules.proofs.Lefts.{both, either}

-- a state of the machine, and the rules of which one must derive the rest
pub record Pair (S : Type 0) : Type 0 where
  pub state : ℕ
  pub rules : List (Rule S)

-- x is in the list
abbrev pub Among : {A : Type 0} → A → List A → Type 0
Among x [] = ⊥
Among x (y ∷ ys) = (x ≡ y) ⊎ Among x ys

-- the tests agree
abbrev pub alike : Bool → Bool → Bool
alike true b = b
alike false b = not b

module _ {S : Type 0} (same_set : S → S → Bool) where
  abbrev pub same_rule : Rule S → Rule S → Bool
  same_rule nothing nothing = true
  same_rule nothing (one f') = false
  same_rule nothing (a' then b') = false
  same_rule nothing (a' or b') = false
  same_rule nothing (many a') = false
  same_rule (one f) nothing = false
  same_rule (one f) (one f') = same_set f f'
  same_rule (one f) (a' then b') = false
  same_rule (one f) (a' or b') = false
  same_rule (one f) (many a') = false
  same_rule (a then b) nothing = false
  same_rule (a then b) (one f') = false
  same_rule (a then b) (a' then b') = same_rule a a' && same_rule b b'
  same_rule (a then b) (a' or b') = false
  same_rule (a then b) (many a') = false
  same_rule (a or b) nothing = false
  same_rule (a or b) (one f') = false
  same_rule (a or b) (a' then b') = false
  same_rule (a or b) (a' or b') = same_rule a a' && same_rule b b'
  same_rule (a or b) (many a') = false
  same_rule (many a) nothing = false
  same_rule (many a) (one f') = false
  same_rule (many a) (a' then b') = false
  same_rule (many a) (a' or b') = false
  same_rule (many a) (many a') = same_rule a a'

  abbrev pub same_rules : List (Rule S) → List (Rule S) → Bool
  same_rules [] [] = true
  same_rules [] (r ∷ rs) = false
  same_rules (r ∷ rs) [] = false
  same_rules (r ∷ rs) (q ∷ qs) = same_rule r q && same_rules rs qs

  abbrev pub same_pair : Pair S → Pair S → Bool
  same_pair p q = eqb p.state q.state && same_rules p.rules q.rules

  abbrev pub seen_in : Pair S → List (Pair S) → Bool
  seen_in p [] = false
  seen_in p (q ∷ qs) = same_pair p q || seen_in p qs

-- both may end, or neither
abbrev pub ends : {S : Type 0} → (ℕ → Bool) → Pair S → Bool
ends accepts p = alike (accepts p.state) (any_empty p.rules)

-- the state behind a text
abbrev pub runs : (ℕ → ℕ → ℕ) → ℕ → List ℕ → ℕ
runs step q [] = q
runs step q (c ∷ w) = runs step (step q c) w

module _ {S : Type 0} (has : S → ℕ → Bool) (step : ℕ → ℕ → ℕ) where
  -- the pair behind the octet c
  abbrev pub behind : Pair S → ℕ → Pair S
  behind p c = record { state = step p.state c; rules = lefts has c p.rules }

module _ {S : Type 0} (has : S → ℕ → Bool) (same_set : S → S → Bool) (step : ℕ → ℕ → ℕ) (accepts : ℕ → Bool)
    (samples : List ℕ) where
  -- the pair `known`, at which most octets end, is looked for first
  abbrev pub search : Pair S → ℕ → List (Pair S) → List (Pair S) → Bool
  search known zero seen todo = false
  search known (suc n) seen [] = true
  search known (suc n) seen (p ∷ todo) =
      cond (same_pair same_set p known || seen_in same_set p seen) (search known n seen todo)
      (ends accepts p && search known n (p ∷ seen) (map (behind has step p) samples ++ todo))

-- ---- what equal answers mean

alike_same : (a b : Bool) → alike a b ≡ true → a ≡ b
alike_same true true e = refl
alike_same true false e = absurd (false≢true e)
alike_same false true e = absurd (false≢true e)
alike_same false false e = refl

among_first : {A : Type 0} (xs ys : List A) (x : A) → Among x xs → Among x (xs ++ ys)
among_first [] ys x a = absurd a
among_first (y ∷ xs) ys x (inl e) = inl e
among_first (y ∷ xs) ys x (inr a) = inr (among_first xs ys x a)

among_second : {A : Type 0} (xs ys : List A) (x : A) → Among x ys → Among x (xs ++ ys)
among_second [] ys x a = a
among_second (y ∷ xs) ys x a = inr (among_second xs ys x a)

among_map : {A B : Type 0} (f : A → B) (xs : List A) (x : A) → Among x xs → Among (f x) (map f xs)
among_map f [] x a = absurd a
among_map f (y ∷ xs) x (inl e) = inl (ap f e)
among_map f (y ∷ xs) x (inr a) = inr (among_map f xs x a)

module _ {S : Type 0} (same_set : S → S → Bool) (same_set_lem : (f g : S) → same_set f g ≡ true → f ≡ g) where
  pub same_rule_lem : (r q : Rule S) → same_rule same_set r q ≡ true → r ≡ q
  same_rule_lem nothing nothing e = refl
  same_rule_lem nothing (one f') e = absurd (false≢true e)
  same_rule_lem nothing (a' then b') e = absurd (false≢true e)
  same_rule_lem nothing (a' or b') e = absurd (false≢true e)
  same_rule_lem nothing (many a') e = absurd (false≢true e)
  same_rule_lem (one f) nothing e = absurd (false≢true e)
  same_rule_lem (one f) (one f') e = ap one (same_set_lem f f' e)
  same_rule_lem (one f) (a' then b') e = absurd (false≢true e)
  same_rule_lem (one f) (a' or b') e = absurd (false≢true e)
  same_rule_lem (one f) (many a') e = absurd (false≢true e)
  same_rule_lem (a then b) nothing e = absurd (false≢true e)
  same_rule_lem (a then b) (one f') e = absurd (false≢true e)
  same_rule_lem (a then b) (a' then b') e =
      let p = both (same_rule same_set a a') (same_rule same_set b b') e in rw (same_rule_lem a a' p.0, same_rule_lem b b' p.1)
  same_rule_lem (a then b) (a' or b') e = absurd (false≢true e)
  same_rule_lem (a then b) (many a') e = absurd (false≢true e)
  same_rule_lem (a or b) nothing e = absurd (false≢true e)
  same_rule_lem (a or b) (one f') e = absurd (false≢true e)
  same_rule_lem (a or b) (a' then b') e = absurd (false≢true e)
  same_rule_lem (a or b) (a' or b') e =
      let p = both (same_rule same_set a a') (same_rule same_set b b') e in rw (same_rule_lem a a' p.0, same_rule_lem b b' p.1)
  same_rule_lem (a or b) (many a') e = absurd (false≢true e)
  same_rule_lem (many a) nothing e = absurd (false≢true e)
  same_rule_lem (many a) (one f') e = absurd (false≢true e)
  same_rule_lem (many a) (a' then b') e = absurd (false≢true e)
  same_rule_lem (many a) (a' or b') e = absurd (false≢true e)
  same_rule_lem (many a) (many a') e = ap many (same_rule_lem a a' e)

  same_rules_lem : (rs qs : List (Rule S)) → same_rules same_set rs qs ≡ true → rs ≡ qs
  same_rules_lem [] [] e = refl
  same_rules_lem [] (q ∷ qs) e = absurd (false≢true e)
  same_rules_lem (r ∷ rs) [] e = absurd (false≢true e)
  same_rules_lem (r ∷ rs) (q ∷ qs) e =
      let p = both (same_rule same_set r q) (same_rules same_set rs qs) e in rw (same_rule_lem r q p.0, same_rules_lem rs qs p.1)

  same_pair_lem : (p q : Pair S) → same_pair same_set p q ≡ true → p ≡ q
  same_pair_lem p q e =
      let b = both (eqb p.state q.state) (same_rules same_set p.rules q.rules) e in
      λ i.
      record { state = eqb-true p.state q.state b.0 i; rules = same_rules_lem p.rules q.rules b.1 i }

  seen_among : (p : Pair S) (qs : List (Pair S)) → seen_in same_set p qs ≡ true → Among p qs
  seen_among p [] e = absurd (false≢true e)
  seen_among p (q ∷ qs) e =
      ⊎_elim (λ h. inl (same_pair_lem p q h)) (λ h. inr (seen_among p qs h)) (either (same_pair same_set p q) (seen_in same_set p qs) e)

module _ {S : Type 0} (has : S → ℕ → Bool) (same_set : S → S → Bool) (same_set_lem : (f g : S) → same_set f g ≡ true → f ≡ g)
    (step : ℕ → ℕ → ℕ) (accepts : ℕ → Bool) (samples : List ℕ) (known : Pair S) where
  -- ---- what the search has shown

  -- the pair is the known one, or among those of the list
  abbrev pub Inside : List (Pair S) → Pair S → Type 0
  Inside all p = (p ≡ known) ⊎ Among p all

  -- a pair that may end as its rules do, behind which all pairs are inside
  pub record Goes (all : List (Pair S)) (p : Pair S) : Type 0 where
    pub ending : ends accepts p ≡ true
    pub behind_it : (x : Pair S) → Among x (map (behind has step p) samples) → Inside all x

  -- a list that holds what was seen and what was to do, and that nothing leads out of
  record Closed (seen todo : List (Pair S)) : Type 0 where
    all : List (Pair S)
    holds_seen : (p : Pair S) → Among p seen → Among p all
    holds_todo : (p : Pair S) → Among p todo → Inside all p
    goes : (p : Pair S) → Among p all → Among p seen ⊎ Goes all p

  search_closes : (n : ℕ) (seen todo : List (Pair S)) → search has same_set step accepts samples known n seen todo ≡ true
      → Closed seen todo
  search_closes zero seen todo e = absurd (false≢true e)
  search_closes (suc n) seen [] e =
      record { all = seen; holds_seen = λ p a. a; holds_todo = λ p a. absurd a; goes = λ p a. inl a }
  search_closes (suc n) seen (p ∷ todo) e =
      go (same_pair same_set p known || seen_in same_set p seen) refl e (search_closes n seen todo)
      (search_closes n (p ∷ seen) (map (behind has step p) samples ++ todo))
    where
      nexts : List (Pair S)
      nexts = map (behind has step p) samples

      go : (b : Bool) → (same_pair same_set p known || seen_in same_set p seen) ≡ b
          → cond b (search has same_set step accepts samples known n seen todo)
          (ends accepts p
          && search has same_set step accepts samples known n (p ∷ seen)
          (map (behind has step p) samples ++ todo))
          ≡ true
          → (search has same_set step accepts samples known n seen todo ≡ true → Closed seen todo)
          → (search has same_set step accepts samples known n (p ∷ seen)
          (map (behind has step p) samples ++ todo) ≡ true
          → Closed (p ∷ seen) (map (behind has step p) samples ++ todo))
          → Closed seen (p ∷ todo)
      go true b e less more =
          let c = less e in
          record {
            all = c.all;
            holds_seen = c.holds_seen;
            holds_todo =
                λ x a.
                ⊎_elim
                (λ q.
                subst (Inside c.all) (sym q)
                (⊎_elim (λ h. inl (same_pair_lem same_set same_set_lem p known h))
                (λ h. inr (c.holds_seen p (seen_among same_set same_set_lem p seen h)))
                (either (same_pair same_set p known) (seen_in same_set p seen) b)))
                (λ m. c.holds_todo x m) a;
            goes = c.goes;
          }
      go false b e less more =
          let h = both (ends accepts p) _ e in
          let c = more h.1 in
          let inside : Among p c.all = c.holds_seen p (inl refl) in
          record {
            all = c.all;
            holds_seen = λ x a. c.holds_seen x (inr a);
            holds_todo =
                λ x a.
                ⊎_elim (λ q. inr (subst (λ y. Among y c.all) (sym q) inside))
                (λ m. c.holds_todo x (among_second nexts todo x m)) a;
            goes =
                λ x a.
                ⊎_elim
                (λ s.
                ⊎_elim
                (λ q.
                inr
                (subst (Goes c.all) (sym q)
                (record { ending = h.0; behind_it = λ y m. c.holds_todo y (among_first nexts todo y m) })))
                (λ m. inl m) s)
                (λ g. inr g) (c.goes x a);
          }

  -- ---- exactness

  module _ (sample : ℕ → ℕ) (sampled : (c : ℕ) → Among (sample c) samples)
      (step_alike : (q c : ℕ) → step q c ≡ step q (sample c)) (has_alike : (f : S) (c : ℕ) → has f c ≡ has f (sample c))
      (known-goes : Goes [] known) where
    left_alike : (r : Rule S) (c : ℕ) → left has c r ≡ left has (sample c) r
    left_alike nothing c = refl
    left_alike (one f) c = ap (λ b. cond b (nothing ∷ []) []) (has_alike f c)
    left_alike (a then b) c =
        ap (λ x. map (onto b) x ++ cond (may_be_empty a) (left has c b) []) (left_alike a c)
        ∙ ap (λ x. map (onto b) (left has (sample c) a) ++ cond (may_be_empty a) x []) (left_alike b c)
    left_alike (a or b) c =
        ap (λ x. x ++ left has c b) (left_alike a c) ∙ ap (λ x. left has (sample c) a ++ x) (left_alike b c)
    left_alike (many a) c = ap (map (onto (many a))) (left_alike a c)

    lefts_alike : (rs : List (Rule S)) (c : ℕ) → lefts has c rs ≡ lefts has (sample c) rs
    lefts_alike [] c = refl
    lefts_alike (r ∷ rs) c =
        ap (λ x. x ++ lefts has c rs) (left_alike r c) ∙ ap (λ x. left has (sample c) r ++ x) (lefts_alike rs c)

    module _ (all : List (Pair S)) (goes : (p : Pair S) → Among p all → Goes all p) where
      goes_on : (p : Pair S) → Inside all p → Goes all p
      goes_on p (inl e) =
          subst (Goes all) (sym e)
          (record {
            ending = known-goes.ending;
            behind_it = λ x m. ⊎_elim (λ q. inl q) (λ z. absurd z) (known-goes.behind_it x m);
          })
      goes_on p (inr a) = goes p a

      agree : (w : List ℕ) (p : Pair S) → Inside all p → accepts (runs step p.state w) ≡ tried has p.rules w
      agree [] p i = alike_same (accepts p.state) (any_empty p.rules) (goes_on p i).ending
      agree (c ∷ w) p i =
          let next = behind has step p (sample c) in
          let inside : Inside all next =
          (goes_on p i).behind_it next (among_map (behind has step p) samples (sample c) (sampled c))
          in
          ap (λ q. accepts (runs step q w)) (step_alike p.state c)
          ∙ agree w next inside
          ∙ ap (λ rs. tried has rs w) (sym (lefts_alike p.rules c))

    -- each pair that the search began with: the machine, from its state on, accepts just the texts that one of its rules derives
    pub searched : (n : ℕ) (todo : List (Pair S)) → search has same_set step accepts samples known n [] todo ≡ true
        → (p : Pair S) → Among p todo → (w : List ℕ) → accepts (runs step p.state w) ≡ tried has p.rules w
    searched n todo e p a w =
        let c = search_closes n [] todo e in
        agree c.all (λ x m. ⊎_elim (λ z. absurd z) (λ g. g) (c.goes x m)) w p (c.holds_todo p a)
