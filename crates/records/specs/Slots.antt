-- Records as they stand in slots.
use Rattle.std.specs.Prelude.{ℕ, ◌+◌, ◌*◌, ◌≡◌, List, [], ◌∷◌, get_or}
use Rattle.grammar.specs.Link.{Link, Param}
use Rattle.grammar.specs.Records.{link_width}
use Rattle.tables.specs.Table.{param_at, code_at, first_of, count_of, params_from}
use Rattle.records.specs.declared.LinkRecord.{LinkRecord}
use Rattle.records.specs.declared.ParamParts.{ParamParts}
use Rattle.records.specs.declared.ParamRecord.{ParamRecord}

-- the record r is link record number n of the slots L
pub record IsLink (L : List ℕ) (n : ℕ) (r : LinkRecord) : Type 0 where
  pub from : r.target.from.0 ≡ get_or L (link_width * n) 0
  pub to : r.target.to.0 ≡ get_or L (link_width * n + 1) 0
  pub first : r.first.0 ≡ first_of L n
  pub count : r.count ≡ count_of L n

-- the link that a record stands for, with its parameters from the slots P
abbrev pub to_link : List ℕ → LinkRecord → Link
to_link P l =
    record {
      target_from = l.target.from.0;
      target_to = l.target.to.0;
      params = params_from P l.first.0 l.count;
    }

-- the parameter of these parts
abbrev pub to_param : ParamParts → Param
to_param r =
    record {
      name_from = r.name.from.0;
      name_to = r.name.to.0;
      value_from = r.value.from.0;
      value_to = r.value.to.0;
      form = r.form;
    }

-- the record r is parameter record number n of the slots P
pub record IsParam (P : List ℕ) (n : ℕ) (r : ParamRecord) : Type 0 where
  pub parts : to_param r.parts ≡ param_at P n
  pub code : r.code ≡ code_at P n

-- the numbers of a record, as they stand in slots
abbrev pub link_numbers : LinkRecord → List ℕ
link_numbers r = r.target.from.0 ∷ r.target.to.0 ∷ r.first.0 ∷ r.count ∷ []

abbrev pub param_numbers : ParamRecord → List ℕ
param_numbers r =
    r.parts.name.from.0 ∷ r.parts.name.to.0 ∷ r.parts.value.from.0 ∷ r.parts.value.to.0 ∷ r.parts.form ∷ r.code ∷ []
