-- An empty query, or one with an SP, is no relation of any link: relations are not empty and have no SP.
use Prim.Native.Nat.{ℕ, ◌+◌}
use native.Mathlib.Omega.{arith}
use mathlib.Core.Path.{◌≡◌, refl, sym, ap, ◌∙◌}
use mathlib.Core.Logic.{◌⊎◌, inl, inr}
use mathlib.Core.Bool.{Bool, true, false, ◌||◌, not, true≢false}
use mathlib.Core.List.{List, [], ◌∷◌, map}
use mathlib.Core.Option.{Option, none, some}
use lib.Dec.{eqb}
use lib.ListN.{length, length-map}
use borrow.Author.Tests.{eqb-true, eqb-false, eq-eqb, ne_eqb}
use Rattle.octets.specs.Text.{octets}
use Rattle.octets.specs.Sets.{between, one_of}
use Rattle.octets.specs.Fold.{fold, folded, same, same_folded}
use Rattle.octets.proofs.Laws.{fold_other, same_false}
use Rattle.octets.proofs.Octets.{between_bounds}
use Rattle.grammar.specs.Link.{Link, Param}
use Rattle.grammar.specs.Kept.{name_of}
use Rattle.tables.specs.Good.{Each, each_none, each_more}
use Rattle.tables.specs.Relation.{
  named,
  lengthen,
  split_at,
  pieces,
  non_empty,
  runs,
  runs_of,
  relations,
  any_folded,
  has_relation,
}
use Rattle.tables.specs.Meaning.{value_of, ParamMeaning, param_meaning, LinkMeaning}
use Rattle.tables.proofs.Texts.{folded_folded}
use Rattle.tables.specs.Laws.{RelationsMeant, QueryFolded, NoQuery}

-- folding makes no SP and takes none away
fold_space : (c : ℕ) → eqb 32 (fold c) ≡ eqb 32 c
unfolding fold
fold_space c = go (between 65 90 c) refl
  where
    go : (b : Bool) → between 65 90 c ≡ b → eqb 32 (fold c) ≡ eqb 32 c
    go false e = ap (eqb 32) (fold_other c e)
    go true e =
        let h = between_bounds 65 90 c e in
        rw e (ne_eqb 32 (c + 32) (λ q. omega arith) ∙ sym (ne_eqb 32 c (λ q. omega arith)))

folded_space : (w : List ℕ) → one_of (folded w) 32 ≡ one_of w 32
folded_space [] = refl
folded_space (c ∷ w) = rw (fold_space c, folded_space w)

-- a text without SP
NoSpace : List ℕ → Type 0
NoSpace w = one_of w 32 ≡ false

-- a run: not empty, and without SP
record IsRun (w : List ℕ) : Type 0 where
  filled : w ≡ [] → ⊥
  no_space : NoSpace w

clear_more : (c : ℕ) (w : List ℕ) → eqb c 32 ≡ false → NoSpace w → NoSpace (c ∷ w)
unfolding NoSpace
clear_more c w e h = rw (ne_eqb 32 c (λ q. eqb-false c 32 e (sym q)), h)

lengthened : (c : ℕ) {ws : List (List ℕ)} → eqb c 32 ≡ false → Each NoSpace ws → Each NoSpace (lengthen c ws)
unfolding NoSpace
lengthened c e each_none = each_more (clear_more c [] e refl) each_none
lengthened c e (each_more {x = w} h r) = each_more (clear_more c w e h) r

pieces_clear : (v : List ℕ) → Each NoSpace (pieces v)
unfolding NoSpace
pieces_clear [] = each_more refl each_none
pieces_clear (c ∷ v) = go (eqb c 32) refl (pieces_clear v)
  where
    go : (b : Bool) → eqb c 32 ≡ b → Each NoSpace (pieces v) → Each NoSpace (split_at c (pieces v))
    go true e r = rw (e, split_at) (each_more refl r)
    go false e r = rw (e, split_at) (lengthened c e r)

not_empty : {ws : List (List ℕ)} → Each NoSpace ws → Each IsRun (non_empty ws)
not_empty each_none = each_none
not_empty (each_more {x = w} {xs = ws} h r) = go w h (not_empty r)
  where
    go : (w : List ℕ) → NoSpace w → Each IsRun (non_empty ws) → Each IsRun (non_empty (w ∷ ws))
    go [] h r = r
    go (c ∷ w) h r = each_more {x = c ∷ w} (record { filled = λ e. omega (arith, ap length e); no_space = h }) r

runs_of_lem : (s : List ℕ) (p : Option Param) → Each IsRun (runs_of s p)
unfolding runs
runs_of_lem s none = each_none
runs_of_lem s (some p) = not_empty (pieces_clear (value_of s p))

-- a query that is no run
NoRun : List ℕ → Type 0
NoRun q = (q ≡ []) ⊎ (one_of q 32 ≡ true)

unmatched : {w : List ℕ} (q : List ℕ) → NoRun q → IsRun w → same_folded w q ≡ false
unfolding same_folded NoRun NoSpace
unmatched {w} q bad r = same_false (folded w) (folded q) (λ e. differs bad e)
  where
    differs : (q ≡ []) ⊎ (one_of q 32 ≡ true) → folded w ≡ folded q → ⊥
    differs (inl none-asked) e = r.filled (empty w (e ∙ ap folded none-asked))
      where
        empty : (w : List ℕ) → folded w ≡ [] → w ≡ []
        empty [] e = refl
        empty (c ∷ w) e = absurd (omega (arith, ap length e))
    differs (inr space) e =
        true≢false
        (sym space ∙ sym (folded_space q) ∙ ap (λ (x : List ℕ). one_of x 32) (sym e) ∙ folded_space w ∙ r.no_space)

none_matches : {ws : List (List ℕ)} (q : List ℕ) → NoRun q → Each IsRun ws → any_folded q ws ≡ false
none_matches q bad each_none = refl
none_matches q bad (each_more r rest) = rw (unmatched q bad r, none_matches q bad rest)

-- ---- relations by meaning

-- the runs in the first value of the name n
runs_in : List ℕ → List ParamMeaning → List (List ℕ)
runs_in n [] = []
runs_in n (m ∷ ms) = elim (same m.name n) [ true ↦ runs m.value | false ↦ runs_in n ms ]

runs_meant : (s n : List ℕ) (ps : List Param) → runs_of s (named s n ps) ≡ runs_in n (map (param_meaning s) ps)
unfolding runs_in
runs_meant s n [] = refl
runs_meant s n (p ∷ ps) = go (same (name_of s p) n) (runs_meant s n ps)
  where
    go : (b : Bool) → runs_of s (named s n ps) ≡ runs_in n (map (param_meaning s) ps)
        → runs_of s (elim b as (λ _. Option Param) [ true ↦ some p | false ↦ named s n ps ])
        ≡ elim b as (λ _. List (List ℕ)) [ true ↦ runs (value_of s p) | false ↦ runs_in n (map (param_meaning s) ps) ]
    go true h = refl
    go false h = h

pub relations_meant : RelationsMeant
unfolding relations
relations_meant s u l m e =
    runs_meant s (octets "rel") l.params ∙ ap (λ (x : LinkMeaning). runs_in (octets "rel") x.params) e
    ∙ sym (runs_meant u (octets "rel") m.params)

any_folded_lem : (q : List ℕ) (ws : List (List ℕ)) → any_folded (folded q) ws ≡ any_folded q ws
unfolding same_folded
any_folded_lem q [] = refl
any_folded_lem q (w ∷ ws) = rw (folded_folded q, any_folded_lem q ws)

pub query_folded : QueryFolded
unfolding has_relation
query_folded s q l = any_folded_lem q (relations s l)

pub no_query : NoQuery
unfolding has_relation relations NoRun
no_query s q l bad = none_matches q bad (runs_of_lem s (named s (octets "rel") l.params))
