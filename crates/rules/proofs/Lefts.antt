-- What is left of a rule behind an octet derives just the rests of the texts that the rule derives. Assumes nothing.
use Prim.Native.Nat.{ℕ}
use mathlib.Core.Path.{◌≡◌, refl, sym, ap, ◌∙◌}
use mathlib.Core.Bool.{Bool, true, false, cond, ◌&&◌, ◌||◌, false≢true}
use mathlib.Core.List.{List, [], ◌∷◌, ◌++◌, map, cons-ne-nil}
use mathlib.Core.Logic.{◌⊎◌, inl, inr, ⊎_elim}
use Rattle.rules.specs.Rule.{Rule, nothing, one, ◌then◌, ◌or◌, many, Single, Then, Many, no_more, and_one, Derives}
use Rattle.rules.specs.Laws.{MatchesExact}
use Rattle.rules.specs.Left.{may_be_empty, onto, any_empty, left, lefts, tried, matches}

pub both : (a b : Bool) → (a && b) ≡ true → (a ≡ true) × (b ≡ true)
both true b e = (refl, e)
both false b e = absurd (false≢true e)

pub either : (a b : Bool) → (a || b) ≡ true → (a ≡ true) ⊎ (b ≡ true)
either true b e = inl refl
either false b e = inr e

pub or_right : (a b : Bool) → b ≡ true → (a || b) ≡ true
or_right true b e = refl
or_right false b e = e

or_left : (a b : Bool) → a ≡ true → (a || b) ≡ true
or_left true b e = refl
or_left false b e = absurd (false≢true e)

module _ {S : Type 0} (has : S → ℕ → Bool) where
  -- ---- the empty text

  pub empty_derived : (r : Rule S) → may_be_empty r ≡ true → Derives has r []
  empty_derived nothing e = refl
  empty_derived (one f) e = absurd (false≢true e)
  empty_derived (a then b) e =
      record {
        left = [];
        right = [];
        whole = refl;
        first = empty_derived a (both (may_be_empty a) (may_be_empty b) e).0;
        second = empty_derived b (both (may_be_empty a) (may_be_empty b) e).1;
      }
  empty_derived (a or b) e =
      ⊎_elim (λ p. inl (empty_derived a p)) (λ q. inr (empty_derived b q)) (either (may_be_empty a) (may_be_empty b) e)
  empty_derived (many a) e = no_more refl

  pub derived_empty : (r : Rule S) → Derives has r [] → may_be_empty r ≡ true
  derived_empty nothing d = refl
  derived_empty (one f) d = absurd (cons-ne-nil d.octet [] (sym d.is))
  derived_empty (a then b) d = go d.left d.right d.whole d.first d.second (derived_empty a) (derived_empty b)
    where
      go : (u v : List ℕ) → [] ≡ u ++ v → Derives has a u → Derives has b v → (Derives has a [] → may_be_empty a ≡ true)
          → (Derives has b [] → may_be_empty b ≡ true) → (may_be_empty a && may_be_empty b) ≡ true
      go [] [] e p q f g = rw (f p) (g q)
      go [] (x ∷ v) e p q f g = absurd (cons-ne-nil x v (sym e))
      go (x ∷ u) v e p q f g = absurd (cons-ne-nil x (u ++ v) (sym e))
  derived_empty (a or b) (inl p) = or_left (may_be_empty a) (may_be_empty b) (derived_empty a p)
  derived_empty (a or b) (inr q) = or_right (may_be_empty a) (may_be_empty b) (derived_empty b q)
  derived_empty (many a) d = refl

  -- ---- a rule behind another

  then_onto : (b a : Rule S) (w : List ℕ) → Derives has (onto b a) w → Then (Derives has a) (Derives has b) w
  then_onto b nothing w d = record { left = []; right = w; whole = refl; first = refl; second = d }
  then_onto b (one f) w d = d
  then_onto b (a then k) w d = d
  then_onto b (a or k) w d = d
  then_onto b (many a) w d = d

  onto_then : (b a : Rule S) (w : List ℕ) → Then (Derives has a) (Derives has b) w → Derives has (onto b a) w
  onto_then b nothing w t = go t.left t.first t.whole
    where
      go : (u : List ℕ) → u ≡ [] → w ≡ u ++ t.right → Derives has b w
      go u e q = rw (q, e) t.second
  onto_then b (one f) w t = t
  onto_then b (a then k) w t = t
  onto_then b (a or k) w t = t
  onto_then b (many a) w t = t

  -- ---- a list of rules

  -- one of the rules derives w
  abbrev pub Any : List (Rule S) → List ℕ → Type 0
  Any [] w = ⊥
  Any (r ∷ rs) w = Derives has r w ⊎ Any rs w

  any_first : (rs qs : List (Rule S)) (w : List ℕ) → Any rs w → Any (rs ++ qs) w
  any_first [] qs w a = absurd a
  any_first (r ∷ rs) qs w (inl d) = inl d
  any_first (r ∷ rs) qs w (inr a) = inr (any_first rs qs w a)

  any_second : (rs qs : List (Rule S)) (w : List ℕ) → Any qs w → Any (rs ++ qs) w
  any_second [] qs w a = a
  any_second (r ∷ rs) qs w a = inr (any_second rs qs w a)

  any_either : (rs qs : List (Rule S)) (w : List ℕ) → Any (rs ++ qs) w → Any rs w ⊎ Any qs w
  any_either [] qs w a = inr a
  any_either (r ∷ rs) qs w (inl d) = inl (inl d)
  any_either (r ∷ rs) qs w (inr a) = ⊎_elim (λ p. inl (inr p)) (λ q. inr q) (any_either rs qs w a)

  any_onto : (b : Rule S) (rs : List (Rule S)) (w : List ℕ) → Then (Any rs) (Derives has b) w → Any (map (onto b) rs) w
  any_onto b [] w t = absurd t.first
  any_onto b (r ∷ rs) w t = go t.first (any_onto b rs w)
    where
      go : Any (r ∷ rs) t.left → (Then (Any rs) (Derives has b) w → Any (map (onto b) rs) w) → Any (map (onto b) (r ∷ rs)) w
      go (inl d) more =
          inl
          (onto_then b r w (record { left = t.left; right = t.right; whole = t.whole; first = d; second = t.second }))
      go (inr a) more = inr (more (record { left = t.left; right = t.right; whole = t.whole; first = a; second = t.second }))

  onto_any : (b : Rule S) (rs : List (Rule S)) (w : List ℕ) → Any (map (onto b) rs) w → Then (Any rs) (Derives has b) w
  onto_any b [] w a = absurd a
  onto_any b (r ∷ rs) w (inl d) =
      let t = then_onto b r w d in
      record { left = t.left; right = t.right; whole = t.whole; first = inl t.first; second = t.second }
  onto_any b (r ∷ rs) w (inr a) =
      let t = onto_any b rs w a in
      record { left = t.left; right = t.right; whole = t.whole; first = inr t.first; second = t.second }

  -- ---- behind an octet

  pub left_sound : (c : ℕ) (r : Rule S) (w : List ℕ) → Any (left has c r) w → Derives has r (c ∷ w)
  left_sound c nothing w a = absurd a
  left_sound c (one f) w a = go (has f c) refl a
    where
      go : (b : Bool) → has f c ≡ b → Any (cond b (nothing ∷ []) []) w → Single (has f) (c ∷ w)
      go true e (inl d) = record { octet = c; is = ap {B = List ℕ} (λ v. c ∷ v) d; inside = e }
      go true e (inr z) = absurd z
      go false e z = absurd z
  left_sound c (a then b) w h =
      go (any_either (map (onto b) (left has c a)) (cond (may_be_empty a) (left has c b) []) w h) (left_sound c a)
      (left_sound c b w)
    where
      empty : (e : Bool) → may_be_empty a ≡ e → Any (cond e (left has c b) []) w
          → (Any (left has c b) w → Derives has b (c ∷ w)) → Then (Derives has a) (Derives has b) (c ∷ w)
      empty true e z more =
          record { left = []; right = c ∷ w; whole = refl; first = empty_derived a e; second = more z }
      empty false e z more = absurd z

      go : Any (map (onto b) (left has c a)) w ⊎ Any (cond (may_be_empty a) (left has c b) []) w
          → ((u : List ℕ) → Any (left has c a) u → Derives has a (c ∷ u)) → (Any (left has c b) w → Derives has b (c ∷ w))
          → Then (Derives has a) (Derives has b) (c ∷ w)
      go (inl p) f g =
          let t = onto_any b (left has c a) w p in
          record {
            left = c ∷ t.left;
            right = t.right;
            whole = ap {B = List ℕ} (λ v. c ∷ v) t.whole;
            first = f t.left t.first;
            second = t.second;
          }
      go (inr q) f g = empty (may_be_empty a) refl q g
  left_sound c (a or b) w h =
      ⊎_elim (λ p. inl (left_sound c a w p)) (λ q. inr (left_sound c b w q)) (any_either (left has c a) (left has c b) w h)
  left_sound c (many a) w h =
      let t = onto_any (many a) (left has c a) w h in
      and_one {u = c ∷ t.left} {v = t.right} (ap {B = List ℕ} (λ v. c ∷ v) t.whole) (left_sound c a t.left t.first)
      t.second

  -- the first of zero or more texts that isn't empty
  many_left : (c : ℕ) (a : Rule S) → ((w : List ℕ) → Derives has a (c ∷ w) → Any (left has c a) w) → (w : List ℕ) {v : List ℕ}
      → v ≡ c ∷ w → Many (Derives has a) v → Any (map (onto (many a)) (left has c a)) w
  many_left c a f w e (no_more z) = absurd (cons-ne-nil c w (sym e ∙ z))
  many_left c a f w e (and_one {w = t} {u = x} {v = y} q p m) = go x q p (λ z. many_left c a f w z m)
    where
      go : (x : List ℕ) → t ≡ x ++ y → Derives has a x → (y ≡ c ∷ w → Any (map (onto (many a)) (left has c a)) w)
          → Any (map (onto (many a)) (left has c a)) w
      go [] q p more = more (sym q ∙ e)
      go (d ∷ x) q p more =
          let k : c ∷ w ≡ d ∷ (x ++ y) = sym e ∙ q in
          let h : c ≡ d = cc in
          let l : w ≡ x ++ y = cc in
          any_onto (many a) (left has c a) w
          (record { left = x; right = y; whole = l; first = f x (rw h p); second = m })

  pub left_complete : (c : ℕ) (r : Rule S) (w : List ℕ) → Derives has r (c ∷ w) → Any (left has c r) w
  left_complete c nothing w d = absurd (cons-ne-nil c w d)
  left_complete c (one f) w d = go (has f c) refl
    where
      head : c ∷ w ≡ d.octet ∷ [] → c ≡ d.octet
      head k = cc

      tail : c ∷ w ≡ d.octet ∷ [] → w ≡ []
      tail k = cc

      go : (b : Bool) → has f c ≡ b → Any (cond b (nothing ∷ []) []) w
      go true e = inl (tail d.is)
      go false e = absurd (false≢true (sym e ∙ ap (has f) (head d.is) ∙ d.inside))
  left_complete c (a then b) w d =
      go d.left d.right d.whole d.first d.second (left_complete c a) (left_complete c b)
    where
      empty : (e : Bool) → may_be_empty a ≡ e → may_be_empty a ≡ true → Any (left has c b) w → Any (cond e (left has c b) []) w
      empty true e h z = z
      empty false e h z = absurd (false≢true (sym e ∙ h))

      go : (u v : List ℕ) → c ∷ w ≡ u ++ v → Derives has a u → Derives has b v
          → ((x : List ℕ) → Derives has a (c ∷ x) → Any (left has c a) x)
          → ((x : List ℕ) → Derives has b (c ∷ x) → Any (left has c b) x) → Any (left has c (a then b)) w
      go [] v e p q f g =
          any_second (map (onto b) (left has c a)) (cond (may_be_empty a) (left has c b) []) w
          (empty (may_be_empty a) refl (derived_empty a p) (g w (rw e q)))
      go (x ∷ u) v e p q f g =
          let h : c ≡ x = cc in
          let t : w ≡ u ++ v = cc in
          any_first (map (onto b) (left has c a)) (cond (may_be_empty a) (left has c b) []) w
          (any_onto b (left has c a) w (record { left = u; right = v; whole = t; first = f u (rw h p); second = q }))
  left_complete c (a or b) w (inl p) = any_first (left has c a) (left has c b) w (left_complete c a w p)
  left_complete c (a or b) w (inr q) = any_second (left has c a) (left has c b) w (left_complete c b w q)
  left_complete c (many a) w d = many_left c a (left_complete c a) w refl d

  lefts_sound : (c : ℕ) (rs : List (Rule S)) (w : List ℕ) → Any (lefts has c rs) w → Any rs (c ∷ w)
  lefts_sound c [] w a = absurd a
  lefts_sound c (r ∷ rs) w a =
      ⊎_elim (λ p. inl (left_sound c r w p)) (λ q. inr (lefts_sound c rs w q)) (any_either (left has c r) (lefts has c rs) w a)

  lefts_complete : (c : ℕ) (rs : List (Rule S)) (w : List ℕ) → Any rs (c ∷ w) → Any (lefts has c rs) w
  lefts_complete c [] w a = absurd a
  lefts_complete c (r ∷ rs) w (inl d) = any_first (left has c r) (lefts has c rs) w (left_complete c r w d)
  lefts_complete c (r ∷ rs) w (inr a) = any_second (left has c r) (lefts has c rs) w (lefts_complete c rs w a)

  -- ---- a whole text

  pub tried_sound : (w : List ℕ) (rs : List (Rule S)) → tried has rs w ≡ true → Any rs w
  tried_sound [] [] e = absurd (false≢true e)
  tried_sound [] (r ∷ rs) e =
      ⊎_elim (λ p. inl (empty_derived r p)) (λ q. inr (tried_sound [] rs q)) (either (may_be_empty r) (any_empty rs) e)
  tried_sound (c ∷ w) rs e = lefts_sound c rs w (tried_sound w (lefts has c rs) e)

  pub tried_complete : (w : List ℕ) (rs : List (Rule S)) → Any rs w → tried has rs w ≡ true
  tried_complete [] [] a = absurd a
  tried_complete [] (r ∷ rs) (inl d) = or_left (may_be_empty r) (any_empty rs) (derived_empty r d)
  tried_complete [] (r ∷ rs) (inr a) = or_right (may_be_empty r) (any_empty rs) (tried_complete [] rs a)
  tried_complete (c ∷ w) rs a = tried_complete w (lefts has c rs) (lefts_complete c rs w a)

  pub matches_sound : (r : Rule S) (w : List ℕ) → matches has r w ≡ true → Derives has r w
  matches_sound r w e = ⊎_elim (λ d. d) (λ z. absurd z) (tried_sound w (r ∷ []) e)

  pub matches_complete : (r : Rule S) (w : List ℕ) → Derives has r w → matches has r w ≡ true
  matches_complete r w d = tried_complete w (r ∷ []) (inl d)

  pub derived_or_not : (r : Rule S) (w : List ℕ) → Derives has r w ⊎ (Derives has r w → ⊥)
  derived_or_not r w = go (matches has r w) refl
    where
      go : (b : Bool) → matches has r w ≡ b → Derives has r w ⊎ (Derives has r w → ⊥)
      go true e = inl (matches_sound r w e)
      go false e = inr (λ d. false≢true (sym e ∙ matches_complete r w d))

pub matches_exact : (S : Type 0) → MatchesExact S
matches_exact S = record { sound = λ has. matches_sound has; complete = λ has. matches_complete has }
