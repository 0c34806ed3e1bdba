-- The first parameter in a link whose record has a given code.
use Rattle.std.specs.Prelude.{ℕ, zero, suc, ◌+◌, ◌≤◌, ◌≡◌, cond, List, Option as Maybe, Some, None, eqb}
use Rattle.std.proofs.Math.Option.{Option, none, some}
use Rattle.octets.specs.Editions.{further}
use Rattle.octets.specs.declared.editions.Edition.TheVariants.{Rfc5988}
use Rattle.grammar.specs.Link.{Param}
use Rattle.grammar.specs.Records.{param_room_of}
use Rattle.tables.specs.Table.{param_at, code_at}
use Rattle.tables.specs.Good.{Each, GoodParam, AgreeFrom}
use Rattle.records.specs.Slots.{to_link, to_param}
use Rattle.records.specs.declared.LinkRecord.{LinkRecord}
use Rattle.records.specs.declared.ParamParts.{ParamParts}

-- the parameters of a link's record lie in the slots P, each is good in the older edition, as what is good in any edition is, and each
-- has the code of its name
pub record Listed (s P : List ℕ) (l : LinkRecord) : Type 0 where
  pub room : l.first.0 + l.count ≤ param_room_of P
  pub params : Each (GoodParam (further Rfc5988) s) (to_link P l).params
  pub codes : AgreeFrom s P l.first.0 l.count

-- of n parameter records from number j on the first with the code k
abbrev pub coded : List ℕ → ℕ → ℕ → ℕ → Option Param
coded P k j zero = none
coded P k j (suc n) = cond (eqb (code_at P j) k) (some (param_at P j)) (coded P k (suc j) n)

-- the parameter that an answer tells
abbrev pub found : Maybe ParamParts → Option Param
found (Some p) = some (to_param p)
found None = none

-- the answer r tells the first parameter with the code k in the link of the record l
abbrev pub FirstCoded : List ℕ → LinkRecord → ℕ → Maybe ParamParts → Type 0
FirstCoded P l k r = coded P k l.first.0 l.count ≡ found r
