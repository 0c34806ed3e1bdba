-- The spans that a derivation gives lie in the text, and a part of a text is found again where the text stands in a longer one.
use Prim.Native.Nat.{ℕ, suc, ◌+◌, ◌≤◌, ◌<◌}
use native.Mathlib.Omega.{arith}
use mathlib.Core.Path.{◌≡◌, refl, ap, ◌∙◌}
use mathlib.Core.Bool.{Bool}
use mathlib.Core.List.{List, [], ◌∷◌, ◌++◌, append_assoc}
use lib.ListN.{length, take, drop}
use lib.Seq.{slice, take-append-add, drop-append-add, take-append-le}
use Rattle.octets.specs.Sets.{is_token}
use Rattle.grammar.specs.Link.{Link, Param}
use Rattle.grammar.specs.Grammar.{
  Extra,
  Run,
  run_end,
  run_more,
  Token,
  Parameter,
  valueless,
  valued,
  Parameters,
  no_more,
  and_one,
  link,
  empty,
  one,
  Items,
  last,
  comma,
}
use Rattle.grammar.specs.Grammar.{OneLink, Item}

-- each name lies in a text of n octets
pub data NamesIn (n : ℕ) : List Param → Type 0 where
  no_names : NamesIn n []
  name_in : {p : Param} {ps : List Param} → p.name_to ≤ n → NamesIn n ps → NamesIn n (p ∷ ps)

pub data AllNamesIn (n : ℕ) : List Link → Type 0 where
  no_links : AllNamesIn n []
  link_in : {l : Link} {ls : List Link} → NamesIn n l.params → AllNamesIn n ls → AllNamesIn n (l ∷ ls)

pub run_inside : (s : List ℕ) {f : ℕ → Bool} {i j : ℕ} → i ≤ length s → Run s f i j → j ≤ length s
run_inside s h run_end = h
run_inside s h (run_more c r) = run_inside s c.inside r

module _ (extra : Extra) (s : List ℕ) where
  name_inside : {i j : ℕ} {p : Param} → Parameter extra s i j p → p.name_to ≤ length s
  name_inside (valueless n bl) = run_inside s n.first.inside n.rest
  name_inside (valued n bl q cl v) = run_inside s n.first.inside n.rest

  params_inside : {i j : ℕ} {ps : List Param} → Parameters extra s i j ps → NamesIn (length s) ps
  params_inside no_more = no_names
  params_inside (and_one a q b p ps) = name_in (name_inside p) (params_inside ps)

  pub items_inside : {i j : ℕ} {ls : List Link} → Items extra s i j ls → AllNamesIn (length s) ls
  items_inside (last empty) = no_links
  items_inside (last (one (link q t k ps))) = link_in (params_inside ps) no_links
  items_inside (comma empty a q b it) = items_inside it
  items_inside (comma (one (link q t k ps)) a c b it) = link_in (params_inside ps) (items_inside it)

-- a part of a text, found where the text stands in a longer one
pub slice_within : (u s v : List ℕ) (a b : ℕ) → b ≤ length s
    → slice (length u + a) (length u + b) (u ++ (s ++ v)) ≡ slice a b s
slice_within u s v a b h =
    ap (drop (length u + a)) (take-append-add u (s ++ v) b ∙ ap (λ (x : List ℕ). u ++ x) (take-append-le b s v h))
    ∙ drop-append-add u (take b s) a
