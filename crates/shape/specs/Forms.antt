-- The written forms of records, and of the records that are left of a table.
use Rattle.std.specs.Prelude.{ℕ, ◌-◌, ◌≤◌, ◌<◌, Bool, false, cond, List, [], ◌∷◌, ◌++◌, map, eqb}
use Rattle.octets.specs.Editions.{further}
use Rattle.octets.specs.declared.editions.Edition.TheVariants.{Rfc5988}
use Rattle.grammar.specs.Link.{Link, Param}
use Rattle.grammar.specs.Records.{param_room_of}
use Rattle.tables.specs.Table.{param_at, params_from, links_from}
use Rattle.tables.specs.Good.{GoodParam}
use Rattle.tables.specs.Meaning.{param_meaning, link_meaning}
use Rattle.tables.specs.Written.{written_param, written_params, written_link}

abbrev pub param_form : List ℕ → Param → List ℕ
param_form s p = written_param (param_meaning s p)

abbrev pub params_form : List ℕ → List Param → List ℕ
params_form s ps = written_params (map (param_meaning s) ps)

-- of the parameter records up to number `end`, those from number p on
abbrev pub params_left : List ℕ → List ℕ → ℕ → ℕ → List ℕ
params_left s P end p = params_form s (params_from P p (end - p))

abbrev pub link_form : List ℕ → Link → List ℕ
link_form s l = written_link (link_meaning s l)

-- comma and one space, before every link but the first
abbrev pub parting : Bool → List ℕ
parting first = cond first [] (44 ∷ 32 ∷ [])

-- links, each behind what parts it from the link before
abbrev pub links_form : List ℕ → Bool → List Link → List ℕ
links_form s first [] = []
links_form s first (l ∷ ls) = parting first ++ (link_form s l ++ links_form s false ls)

-- of n link records, those from number i on
abbrev pub links_left : List ℕ → List ℕ → List ℕ → ℕ → ℕ → List ℕ
links_left s L P n i = links_form s (eqb i 0) (links_from L P i (n - i))

-- the parameter records from number p up to `end` have room in the slots P, and are good in the older edition, as what is good in any
-- edition is
pub record GoodRun (s P : List ℕ) (p end : ℕ) : Type 0 where
  pub ordered : p ≤ end
  pub room : end ≤ param_room_of P
  pub good : (j : ℕ) → p ≤ j → j < end → GoodParam (further Rfc5988) s (param_at P j)
