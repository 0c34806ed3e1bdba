-- The records of a good table: each lies in its slots, and each is good.
use Prim.Native.Nat.{ℕ, zero, suc, ◌+◌, ◌-◌, ◌≤◌, ◌<◌}
use native.Mathlib.Nat.{zero-add, le_of_suc-le-suc}
use native.Mathlib.Omega.{arith}
use mathlib.Core.Path.{◌≡◌, refl, subst}
use mathlib.Core.Bool.{Bool, true, false}
use mathlib.Core.List.{List, ◌∷◌}
use mathlib.Core.Option.{some}
use Rattle.octets.specs.Fold.{same}
use Rattle.grammar.specs.Link.{Link, Param}
use Rattle.grammar.specs.Grammar.{Extra}
use Rattle.grammar.specs.Kept.{name_of}
use Rattle.grammar.specs.Records.{link_room_of, param_room_of}
use Rattle.tables.specs.Table.{Table, first_of, count_of, param_at, params_from, link_at, links_from}
use Rattle.tables.specs.Good.{Each, each_none, each_more, Follows, Agrees, AgreeFrom, GoodParam, GoodLink, Good}
use Rattle.tables.specs.Relation.{named}

-- ---- every record of a run of records

pub head_of : {A : Type 0} {P : A → Type 0} {x : A} {xs : List A} → Each P (x ∷ xs) → P x
head_of (each_more p r) = p

pub tail_of : {A : Type 0} {P : A → Type 0} {x : A} {xs : List A} → Each P (x ∷ xs) → Each P xs
tail_of (each_more p r) = r

pub each_param : {Q : Param → Type 0} (P : List ℕ) (i n j : ℕ) → Each Q (params_from P i n) → j < n → Q (param_at P (i + j))
each_param P i zero j r l = absurd (omega arith)
each_param {Q} P i (suc n) zero r l = let e : i ≡ i + 0 = omega arith in subst (λ (k : ℕ). Q (param_at P k)) e (head_of r)
each_param {Q} P i (suc n) (suc j) r l =
    let e : suc i + j ≡ i + suc j = omega arith in
    subst (λ (k : ℕ). Q (param_at P k)) e (each_param P (suc i) n j (tail_of r) (le_of_suc-le-suc l))

pub each_link : {Q : Link → Type 0} (L P : List ℕ) (i n j : ℕ) → Each Q (links_from L P i n) → j < n → Q (link_at L P (i + j))
each_link L P i zero j r l = absurd (omega arith)
each_link {Q} L P i (suc n) zero r l = let e : i ≡ i + 0 = omega arith in subst (λ (k : ℕ). Q (link_at L P k)) e (head_of r)
each_link {Q} L P i (suc n) (suc j) r l =
    let e : suc i + j ≡ i + suc j = omega arith in
    subst (λ (k : ℕ). Q (link_at L P k)) e (each_link L P (suc i) n j (tail_of r) (le_of_suc-le-suc l))

-- ---- parameters that follow one another

pub follows_le : (L : List ℕ) (i n at m : ℕ) → Follows L i n at m → at ≤ m
follows_le L i zero at m f = omega arith
follows_le L i (suc n) at m f = omega (arith, follows_le L (suc i) n (at + count_of L i) m f.1)

pub follows_end : (L : List ℕ) (i n at m j : ℕ) → Follows L i n at m → j < n → first_of L (i + j) + count_of L (i + j) ≤ m
follows_end L i zero at m j f l = absurd (omega arith)
follows_end L i (suc n) at m zero f l =
    let e : i ≡ i + 0 = omega arith in
    subst (λ (k : ℕ). first_of L k + count_of L k ≤ m) e
    (omega (arith, f.0, follows_le L (suc i) n (at + count_of L i) m f.1))
follows_end L i (suc n) at m (suc j) f l =
    let e : suc i + j ≡ i + suc j = omega arith in
    subst (λ (k : ℕ). first_of L k + count_of L k ≤ m) e
    (follows_end L (suc i) n (at + count_of L i) m j f.1 (le_of_suc-le-suc l))

-- ---- what each parameter is, the first of a name is

pub named_each : {Q : Param → Type 0} (s n : List ℕ) {ps : List Param} {p : Param} → Each Q ps → named s n ps ≡ some p → Q p
named_each s n each_none e = let z : ◌≡◌ {A = ℕ} 0 1 = cc in absurd (omega arith)
named_each {Q} s n {p = p} (each_more {x} {xs} q r) e = go (same (name_of s x) n) refl (named_each s n r)
  where
    go : (b : Bool) → same (name_of s x) n ≡ b → (named s n xs ≡ some p → Q p) → Q p
    go true h later =
        let here : some x ≡ some p = rw (h, named) at e in
        let first : x ≡ p = cc in
        subst Q first q
    go false h later = later (rw (h, named) at e)

-- ---- the code of each record below the count

pub agrees_at_lem : {extra : Extra} {t : Table} → Good extra t → (j : ℕ) → j < t.param_count → Agrees t.text t.param_slots j
agrees_at_lem {t = t} g j l = subst (Agrees t.text t.param_slots) (zero-add j) (g.codes j l)

-- ---- link number i of a good table, and its parameters: by the index within the link, or by the number p in the table

module _ {extra : Extra} {t : Table} (g : Good extra t) {i : ℕ} (l : i < t.link_count) where
  from_zero : 0 + i ≡ i
  from_zero = omega arith

  pub link_slots : i < link_room_of t.link_slots
  link_slots = omega (arith, g.link_room)

  pub good_link : GoodLink extra t.text (link_at t.link_slots t.param_slots i)
  good_link =
      subst (λ (k : ℕ). GoodLink extra t.text (link_at t.link_slots t.param_slots k)) from_zero
      (each_link t.link_slots t.param_slots 0 t.link_count i g.links l)

  pub params_inside : first_of t.link_slots i + count_of t.link_slots i ≤ t.param_count
  params_inside =
      subst (λ (k : ℕ). first_of t.link_slots k + count_of t.link_slots k ≤ t.param_count) from_zero
      (follows_end t.link_slots 0 t.link_count 0 t.param_count i g.follows l)

  pub params_slots : first_of t.link_slots i + count_of t.link_slots i ≤ param_room_of t.param_slots
  params_slots = omega (arith, g.param_room, params_inside)

  pub codes_agree : AgreeFrom t.text t.param_slots (first_of t.link_slots i) (count_of t.link_slots i)
  codes_agree j h = agrees_at_lem g (first_of t.link_slots i + j) (omega (arith, params_inside))

  pub good_param : {j : ℕ} → j < count_of t.link_slots i → GoodParam extra t.text (param_at t.param_slots (first_of t.link_slots i + j))
  good_param {j} h =
      each_param t.param_slots (first_of t.link_slots i) (count_of t.link_slots i) j good_link.params h

  pub good_param_at : (p : ℕ) → first_of t.link_slots i ≤ p → p < first_of t.link_slots i + count_of t.link_slots i
      → GoodParam extra t.text (param_at t.param_slots p)
  good_param_at p h k =
      let e : first_of t.link_slots i + (p - first_of t.link_slots i) ≡ p = omega arith in
      subst (λ (n : ℕ). GoodParam extra t.text (param_at t.param_slots n)) e
      (good_param {j = p - first_of t.link_slots i} (omega arith))
