-- Slots that hold the records of links give those links again.
use Prim.Native.Nat.{ℕ, zero, suc, ◌+◌, ◌*◌}
use native.Mathlib.Omega.{arith}
use native.Mathlib.Nat.{add-zero, zero-add}
use mathlib.Core.Path.{◌≡◌, refl, sym, ap, ap₂, subst, subst₂, ◌∙◌}
use mathlib.Core.List.{List, [], ◌∷◌, ◌++◌, append_assoc}
use lib.ListN.{length, get_or, length-append}
use lib.Seq.{get_or-append-add}
use Rattle.grammar.specs.Link.{Link, Param}
use Rattle.grammar.specs.Kept.{name_of, code_of}
use Rattle.grammar.specs.Records.{link_width, param_width, count_params, link_records, records_of, param_records}
use Rattle.tables.specs.Table.{param_at, params_from, first_of, count_of, link_at, links_from}
use Rattle.tables.specs.Good.{Follows, Agrees, AgreeFrom}

pub link_records_length : (n : ℕ) (ls : List Link) → length (link_records n ls) ≡ link_width * length ls
link_records_length n [] = refl
link_records_length n (l ∷ ls) = omega (arith, link_records_length (n + length l.params) ls)

pub records_length : (s : List ℕ) (ps : List Param) → length (records_of s ps) ≡ param_width * length ps
records_length s [] = refl
records_length s (p ∷ ps) = omega (arith, records_length s ps)

pub param_records_length : (s : List ℕ) (ls : List Link) → length (param_records s ls) ≡ param_width * count_params ls
param_records_length s [] = refl
param_records_length s (l ∷ ls) =
    omega (arith, length-append (records_of s l.params) (param_records s ls), records_length s l.params, param_records_length s ls)

-- what stands k slots behind a list of n
slot : (w u v : List ℕ) (n k m : ℕ) → w ≡ u ++ v → length u ≡ n → m ≡ n + k → get_or w m 0 ≡ get_or v k 0
slot w u v n k m e h q =
    let place : m ≡ length u + k = omega arith in
    ap₂ (λ (x : List ℕ) (i : ℕ). get_or x i 0) e place ∙ get_or-append-add u v k 0

-- the record of one parameter, behind those of j: the parameter
param_filled : (s w u v : List ℕ) (j : ℕ) (p : Param) → w ≡ u ++ (records_of s (p ∷ []) ++ v) → length u ≡ param_width * j → param_at w j ≡ p
param_filled s w u v j p e h =
    let r = records_of s (p ∷ []) ++ v in
    rw (
      slot w u r (param_width * j) 0 (param_width * j) e h (omega arith),
      slot w u r (param_width * j) 1 (param_width * j + 1) e h refl,
      slot w u r (param_width * j) 2 (param_width * j + 2) e h refl,
      slot w u r (param_width * j) 3 (param_width * j + 3) e h refl,
      slot w u r (param_width * j) 4 (param_width * j + 4) e h refl,
    )

-- and its code
code_filled : (s w u v : List ℕ) (j : ℕ) (p : Param) → w ≡ u ++ (records_of s (p ∷ []) ++ v) → length u ≡ param_width * j → Agrees s w j
code_filled s w u v j p e h =
    slot w u (records_of s (p ∷ []) ++ v) (param_width * j) 5 (param_width * j + 5) e h refl
    ∙ ap (λ (x : Param). code_of (name_of s x)) (sym (param_filled s w u v j p e h))

-- the same slots, with one record more before the rest
record_on : (s w u v : List ℕ) (p : Param) (ps : List Param) → w ≡ u ++ (records_of s (p ∷ ps) ++ v)
    → w ≡ u ++ records_of s (p ∷ []) ++ (records_of s ps ++ v)
record_on s w u v p ps e = e ∙ sym (append_assoc u (records_of s (p ∷ [])) (records_of s ps ++ v))

record_before : (s u : List ℕ) (j : ℕ) (p : Param) → length u ≡ param_width * j
    → length (u ++ records_of s (p ∷ [])) ≡ param_width * suc j
record_before s u j p h = omega (arith, length-append u (records_of s (p ∷ [])))

pub params_filled : (s w u v : List ℕ) (j : ℕ) (ps : List Param) → w ≡ u ++ (records_of s ps ++ v) → length u ≡ param_width * j
    → params_from w j (length ps) ≡ ps
params_filled s w u v j [] e h = refl
params_filled s w u v j (p ∷ ps) e h =
    ap₂ (λ (x : Param) (xs : List Param). x ∷ xs) (param_filled s w u (records_of s ps ++ v) j p e h)
    (params_filled s w (u ++ records_of s (p ∷ [])) v (suc j) ps (record_on s w u v p ps e) (record_before s u j p h))

codes_filled : (s w u v : List ℕ) (j : ℕ) (ps : List Param) → w ≡ u ++ (records_of s ps ++ v) → length u ≡ param_width * j
    → AgreeFrom s w j (length ps)
codes_filled s w u v j [] e h k l = absurd (omega arith)
codes_filled s w u v j (p ∷ ps) e h zero l =
    subst (Agrees s w) (sym (add-zero j)) (code_filled s w u (records_of s ps ++ v) j p e h)
codes_filled s w u v j (p ∷ ps) e h (suc k) l =
    let n : suc j + k ≡ j + suc k = omega arith in
    subst (Agrees s w) n
    (codes_filled s w (u ++ records_of s (p ∷ [])) v (suc j) ps (record_on s w u v p ps e) (record_before s u j p h) k (omega arith))

-- link records behind those of i links, with parameter records behind those of n
module _ (s w x : List ℕ) where
  record Stand (u v y z : List ℕ) (i n : ℕ) (ls : List Link) : Type 0 where
    links : w ≡ u ++ (link_records n ls ++ v)
    before : length u ≡ link_width * i
    params : x ≡ y ++ (param_records s ls ++ z)
    param_before : length y ≡ param_width * n

  first_count : {u v y z : List ℕ} {i n : ℕ} {l : Link} {ls : List Link} → Stand u v y z i n (l ∷ ls)
      → (first_of w i ≡ n) × (count_of w i ≡ length l.params)
  first_count {u} {v} {i = i} {n = n} {l = l} {ls = ls} st =
      let r = link_records n (l ∷ ls) ++ v in
      (slot w u r (link_width * i) 2 (link_width * i + 2) st.links st.before refl, slot w u r (link_width * i) 3 (link_width * i + 3) st.links st.before refl)

  -- one link further
  on : {u v y z : List ℕ} {i n : ℕ} {l : Link} {ls : List Link} → Stand u v y z i n (l ∷ ls)
      → Stand (u ++ l.target_from ∷ l.target_to ∷ n ∷ length l.params ∷ []) v (y ++ records_of s l.params) z (suc i)
      (n + length l.params) ls
  on {u} {v} {y} {z} {i} {n} {l} {ls} st =
      let front = l.target_from ∷ l.target_to ∷ n ∷ length l.params ∷ [] in
      record {
        links = st.links ∙ sym (append_assoc u front (link_records (n + length l.params) ls ++ v));
        before = omega (arith, length-append u front, st.before);
        params =
            st.params ∙ ap (λ (q : List ℕ). y ++ q) (append_assoc (records_of s l.params) (param_records s ls) z)
            ∙ sym (append_assoc y (records_of s l.params) (param_records s ls ++ z));
        param_before = omega (arith, length-append y (records_of s l.params), records_length s l.params, st.param_before);
      }

  link_filled : {u v y z : List ℕ} {i n : ℕ} {l : Link} {ls : List Link} → Stand u v y z i n (l ∷ ls) → link_at w x i ≡ l
  link_filled {u} {v} {y} {z} {i} {n} {l} {ls} st =
      let r = link_records n (l ∷ ls) ++ v in
      let f = first_count st in
      rw (
        slot w u r (link_width * i) 0 (link_width * i) st.links st.before (omega arith),
        slot w u r (link_width * i) 1 (link_width * i + 1) st.links st.before refl,
        f.0,
        f.1,
        params_filled s x y (param_records s ls ++ z) n l.params
            (st.params ∙ ap (λ (q : List ℕ). y ++ q) (append_assoc (records_of s l.params) (param_records s ls) z)) st.param_before,
      )

  links_filled : (ls : List Link) {u v y z : List ℕ} {i n : ℕ} → Stand u v y z i n ls → links_from w x i (length ls) ≡ ls
  links_filled [] st = refl
  links_filled (l ∷ ls) st = ap₂ (λ (a : Link) (b : List Link). a ∷ b) (link_filled st) (links_filled ls (on st))

  follow_filled : (ls : List Link) {u v y z : List ℕ} {i n : ℕ} → Stand u v y z i n ls
      → Follows w i (length ls) n (n + count_params ls)
  follow_filled [] {n = n} st = sym (add-zero n)
  follow_filled (l ∷ ls) {i = i} {n = n} st =
      let f = first_count st in
      let far : n + length l.params + count_params ls ≡ n + (length l.params + count_params ls) = omega arith in (
        f.0,
        subst₂ (λ (a b : ℕ). Follows w (suc i) (length ls) a b) (ap (λ (c : ℕ). n + c) (sym f.1)) far
            (follow_filled ls (on st)),
      )

from_start : (s : List ℕ) (K : List Link) (X Y : List ℕ) → Stand s (link_records 0 K ++ X) (param_records s K ++ Y) [] X [] Y 0 0 K
from_start s K X Y = record { links = refl; before = refl; params = refl; param_before = refl }

pub filled_links : (s : List ℕ) (K : List Link) (X Y : List ℕ)
    → links_from (link_records 0 K ++ X) (param_records s K ++ Y) 0 (length K) ≡ K
filled_links s K X Y = links_filled s (link_records 0 K ++ X) (param_records s K ++ Y) K (from_start s K X Y)

pub filled_follows : (K : List Link) (X : List ℕ) → Follows (link_records 0 K ++ X) 0 (length K) 0 (count_params K)
filled_follows K X =
    subst (λ (n : ℕ). Follows (link_records 0 K ++ X) 0 (length K) 0 n) (zero-add (count_params K))
    (follow_filled [] (link_records 0 K ++ X) (param_records [] K ++ []) K (from_start [] K X []))

-- the parameters of all links, in order
all_of : List Link → List Param
all_of [] = []
all_of (l ∷ ls) = l.params ++ all_of ls

pub records_append : (s : List ℕ) (ps qs : List Param) → records_of s (ps ++ qs) ≡ records_of s ps ++ records_of s qs
records_append s [] qs = refl
records_append s (p ∷ ps) qs = ap (λ (x : List ℕ). records_of s (p ∷ []) ++ x) (records_append s ps qs)

records_of_all : (s : List ℕ) (ls : List Link) → param_records s ls ≡ records_of s (all_of ls)
unfolding all_of
records_of_all s [] = refl
records_of_all s (l ∷ ls) =
    ap (λ (x : List ℕ). records_of s l.params ++ x) (records_of_all s ls) ∙ sym (records_append s l.params (all_of ls))

count_of_all : (ls : List Link) → length (all_of ls) ≡ count_params ls
unfolding all_of
count_of_all [] = refl
count_of_all (l ∷ ls) = omega (arith, length-append l.params (all_of ls), count_of_all ls)

pub filled_codes : (s : List ℕ) (K : List Link) (Y : List ℕ) → AgreeFrom s (param_records s K ++ Y) 0 (count_params K)
filled_codes s K Y j l =
    codes_filled s (param_records s K ++ Y) [] Y 0 (all_of K) (ap (λ (x : List ℕ). x ++ Y) (records_of_all s K)) refl j
    (omega (arith, count_of_all K))
