-- Where codes agree with names, the first parameter of a code is the first of the name that has the code.
use Prim.Native.Nat.{ℕ, zero, suc, ◌+◌}
use native.Mathlib.Omega.{arith}
use native.Mathlib.Nat.{add-zero}
use mathlib.Core.Path.{◌≡◌, refl, sym, subst, ◌∙◌}
use mathlib.Core.Bool.{Bool, true, false}
use mathlib.Core.List.{List}
use lib.Dec.{eqb}
use borrow.Author.Tests.{eqb-true, eqb-false}
use Rattle.octets.specs.Text.{octets}
use Rattle.grammar.specs.Kept.{name_of, code_of}
use Rattle.tables.specs.Table.{param_at, code_at, params_from}
use Rattle.tables.specs.Good.{Agrees, AgreeFrom}
use Rattle.tables.specs.Relation.{named}
use Rattle.grammar.proofs.Codes.{codes, code_same, code_other}
use Rattle.records.specs.Slots.{to_link}
use Rattle.records.specs.declared.LinkRecord.{LinkRecord}
use Rattle.named.specs.First.{Listed, coded}

module _ (s P : List ℕ) where
  -- of n records from number j on
  by_code : (m : List ℕ) {k : ℕ} → code_of m ≡ k → (k ≡ 0 → ⊥) → (j n : ℕ) → AgreeFrom s P j n
      → named s m (params_from P j n) ≡ coded P k j n
  by_code m e o j zero a = refl
  by_code m {k} e o j (suc n) a =
      go (eqb (code_at P j) k) refl
      (by_code m e o (suc j) n (λ i l. let q : j + suc i ≡ suc j + i = omega arith in subst (Agrees s P) q (a (suc i) (omega arith))))
    where
      here : code_at P j ≡ code_of (name_of s (param_at P j))
      here = subst (Agrees s P) (add-zero j) (a 0 (omega arith))

      go : (b : Bool) → eqb (code_at P j) k ≡ b → named s m (params_from P (suc j) n) ≡ coded P k (suc j) n
          → named s m (params_from P j (suc n)) ≡ coded P k j (suc n)
      go true q h =
          let c : code_of (name_of s (param_at P j)) ≡ k = sym here ∙ eqb-true _ _ q in
          rw (q, code_same (name_of s (param_at P j)) m (λ z. o (sym c ∙ z)) (c ∙ sym e), named)
      go false q h = rw (q, code_other (name_of s (param_at P j)) m (λ z. eqb-false _ _ q (here ∙ z ∙ e)), named) h

  module _ {l : LinkRecord} (h : Listed s P l) where
    -- the names that are asked for
    pub by_rel : named s (octets "rel") (to_link P l).params ≡ coded P 1 l.first.0 l.count
    by_rel = by_code (octets "rel") codes.rel (λ q. omega arith) l.first.0 l.count h.codes

    pub by_anchor : named s (octets "anchor") (to_link P l).params ≡ coded P 2 l.first.0 l.count
    by_anchor = by_code (octets "anchor") codes.anchor (λ q. omega arith) l.first.0 l.count h.codes

    pub by_title : named s (octets "title") (to_link P l).params ≡ coded P 4 l.first.0 l.count
    by_title = by_code (octets "title") codes.title (λ q. omega arith) l.first.0 l.count h.codes

    pub by_title* : named s (octets "title*") (to_link P l).params ≡ coded P 5 l.first.0 l.count
    by_title* = by_code (octets "title*") codes.title* (λ q. omega arith) l.first.0 l.count h.codes
