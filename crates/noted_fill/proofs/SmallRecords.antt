-- The numbers in a header's records are no more than its octets, or a form's or a code's: 16 bits hold them.
use Prim.Native.Nat.{ℕ, ◌+◌, ◌≤◌, ◌<◌}
use native.Mathlib.Omega.{arith}
use mathlib.Core.Path.{subst}
use mathlib.Core.List.{List, [], ◌++◌}
use lib.ListN.{length}
use Rattle.grammar.specs.Link.{Link, Param}
use Rattle.grammar.specs.Grammar.{Extra}
use Rattle.grammar.specs.Kept.{name_of, code_of, Reading}
use Rattle.grammar.specs.Records.{count_params, records_of, link_records, param_records}
use Rattle.grammar.proofs.Codes.{code_bound}
use Rattle.tables.specs.Good.{Each, each_none, each_more, no_value, token_value, quoted_value, wider_value, GoodParam, GoodValue, GoodLink}
use Rattle.tables.proofs.FromReading.{read_good}
use Rattle.notes.proofs.Copied.{Small}

small_append : {xs ys : List ℕ} → Small xs → Small ys → Small (xs ++ ys)
small_append each_none t = t
small_append (each_more h s) t = each_more h (small_append s t)

module _ {extra : Extra} {s : List ℕ} (short : length s < 65536) where
  form_bound : {p : Param} → GoodValue extra s p → p.form < 4
  form_bound (no_value e a b) = omega arith
  form_bound (token_value e t) = omega arith
  form_bound (quoted_value e t) = omega arith
  form_bound (wider_value e t) = omega arith

  params_small : {ps : List Param} → Each (GoodParam extra s) ps → Small (records_of s ps)
  params_small each_none = each_none
  params_small (each_more {x = p} g r) =
      each_more {x = p.name_from} (omega (arith, g.name_span.ordered, g.name_span.inside))
      (each_more {x = p.name_to} (omega (arith, g.name_span.inside))
      (each_more {x = p.value_from} (omega (arith, g.value_span.ordered, g.value_span.inside))
      (each_more {x = p.value_to} (omega (arith, g.value_span.inside))
      (each_more {x = p.form} (omega (arith, form_bound g.value))
      (each_more {x = code_of (name_of s p)} (omega (arith, code_bound (name_of s p))) (params_small r))))))

  links_small : (n : ℕ) {ls : List Link} → n + count_params ls ≤ length s → Each (GoodLink extra s) ls → Small (link_records n ls)
  links_small n h each_none = each_none
  links_small n h (each_more {x = l} {xs = ls} g r) =
      each_more {x = l.target_from} (omega (arith, g.target_span.ordered, g.target_span.inside))
      (each_more {x = l.target_to} (omega (arith, g.target_span.inside))
      (each_more {x = n} (omega arith)
      (each_more {x = length l.params} (omega arith) (links_small (n + length l.params) (omega arith) r))))

  all_small : {ls : List Link} → Each (GoodLink extra s) ls → Small (param_records s ls)
  all_small each_none = each_none
  all_small (each_more g r) = small_append (params_small g.params) (all_small r)

  module _ {K : List Link} (r : Reading extra s K) where
    good_links : Each (GoodLink extra s) K
    good_links =
        let t = read_good extra s K [] [] r in
        subst (Each (GoodLink extra s)) t.same_links t.good.links

    pub small_links : count_params K ≤ length s → Small (link_records 0 K)
    small_links h = links_small 0 (omega arith) good_links

    pub small_params : Small (param_records s K)
    small_params = all_small good_links
