-- A link's kept parameter of a name.
use Rattle.std.specs.Prelude.{ℕ, List}
use Rattle.std.proofs.Math.Option.{Option}
use Rattle.grammar.specs.Link.{Param}
use Rattle.tables.specs.Table.{Table, link_at}
use Rattle.tables.specs.Relation.{named}

-- the kept parameter of link number i that has the folded name n, if there is one
abbrev pub kept : Table → ℕ → List ℕ → Option Param
kept t i n = named t.text n (link_at t.link_slots t.param_slots i).params
