-- What is left to be written: of a link's parameters from number p on, and of a table's links from number i on.
use Prim.Native.Nat.{ℕ, suc, ◌+◌, ◌-◌, ◌≤◌, ◌<◌}
use native.Mathlib.Omega.{arith}
use mathlib.Core.Path.{◌≡◌, refl, ap}
use mathlib.Core.Bool.{true, false}
use mathlib.Core.List.{List, [], ◌∷◌, ◌++◌, append-nil}
use lib.Dec.{eqb}
use borrow.Author.Tests.{ne_eqb}
use Rattle.grammar.specs.Link.{Link}
use Rattle.records.specs.Slots.{IsLink, to_link, to_param}
use Rattle.records.specs.declared.LinkRecord.{LinkRecord}
use Rattle.records.specs.declared.ParamParts.{ParamParts}
use Rattle.outcomes.specs.Write.{written_form}
use Rattle.tables.specs.Table.{Table, param_at, params_from, link_at, links_from, links_of}
use Rattle.tables.specs.Meaning.{meanings}
use Rattle.tables.specs.Written.{written}
use Rattle.shape.specs.Forms.{param_form, params_form, params_left, link_form, parting, links_form, links_left}

-- ---- parameters from number p up to `end`

module _ (s P : List ℕ) {end p : ℕ} where
  pub params_end : end ≤ p → params_left s P end p ≡ []
  params_end l = let e : end - p ≡ 0 = omega arith in rw e

  pub params_next : p < end → {r : ParamParts} → to_param r ≡ param_at P p
      → params_left s P end p ≡ param_form s (to_param r) ++ params_left s P end (suc p)
  params_next l is = let e : end - p ≡ suc (end - suc p) = omega arith in rw (e, is)

-- a link's parameters are those from its first up to its last
pub whole_run : (s P : List ℕ) (first count : ℕ) → params_form s (params_from P first count) ≡ params_left s P (first + count) first
whole_run s P first count = let e : first + count - first ≡ count = omega arith in rw e

-- ---- links from number i up to n

link_of_lem : {L : List ℕ} (P : List ℕ) {i : ℕ} {r : LinkRecord} → IsLink L i r → link_at L P i ≡ to_link P r
link_of_lem P is = rw (is.from, is.to, is.first, is.count)

module _ (s L P : List ℕ) (n : ℕ) {i : ℕ} where
  pub links_end : n ≤ i → links_left s L P n i ≡ []
  links_end l = let e : n - i ≡ 0 = omega arith in rw e

  pub links_next : i < n → {r : LinkRecord} → IsLink L i r
      → links_left s L P n i ≡ parting (eqb i 0) ++ (link_form s (to_link P r) ++ links_left s L P n (suc i))
  links_next l is =
      let e : n - i ≡ suc (n - suc i) = omega arith in
      let z : eqb (suc i) 0 ≡ false = ne_eqb (suc i) 0 (λ q. omega arith) in
      rw (e, z) (ap (λ (x : Link). parting (eqb i 0) ++ (link_form s x ++ links_form s false (links_from L P (suc i) (n - suc i)))) (link_of_lem P is))

-- what parts two links is before the second, or behind the first
form_written : (s : List ℕ) (ls : List Link) → links_form s true ls ≡ written (meanings s ls)
form_written s [] = refl
form_written s (l ∷ []) = append-nil (link_form s l)
form_written s (l ∷ m ∷ ms) = ap (λ v. link_form s l ++ 44 ∷ 32 ∷ v) (form_written s (m ∷ ms))

pub whole_form : (t : Table) → links_left t.text t.link_slots t.param_slots t.link_count 0 ≡ written_form t
whole_form t = let e : t.link_count - 0 ≡ t.link_count = omega arith in rw e (form_written t.text (links_of t))
