-- What is asked of the parameters of a link.
use Rattle.std.specs.Prelude.{ℕ, ◌≡◌, true, List}
use Rattle.grammar.specs.Link.{Param}
use Rattle.std.proofs.Math.Seq.{slice}
use Rattle.octets.specs.Fold.{folded}
use Rattle.grammar.specs.Grammar.{Extra, Token, Wider}
use Rattle.grammar.specs.Kept.{name_of, code_of}
use Rattle.tables.specs.Table.{params_from}
use Rattle.tables.specs.Good.{Each, GoodParam, AgreeFrom, once_each}
use Rattle.records.specs.Slots.{to_param}
use Rattle.records.specs.declared.ParamRecord.{ParamRecord}

-- a value of form 3, as the grammar derives it
pub record WiderValue (extra : Extra) (s : List ℕ) (p : Param) : Type 0 where
  pub form : p.form ≡ 3
  pub value : Wider extra s p.value_from p.value_to

-- the name from place a up to place e is a token, and its code is k
pub record CodedName (s : List ℕ) (a e k : ℕ) : Type 0 where
  pub token : Token s a e
  pub code : k ≡ code_of (folded (slice a e s))

-- the parameter of a record is good, and the code is that of its name
pub record CodedParam (extra : Extra) (s : List ℕ) (r : ParamRecord) : Type 0 where
  pub good : GoodParam extra s (to_param r.parts)
  pub code : r.code ≡ code_of (name_of s (to_param r.parts))

-- of the slots P, n parameter records from number j on, which follow those of the names `earlier` in a link: each parameter is good, none
-- repeats a name kept once, and each code agrees with its name
pub record GoodParams (extra : Extra) (s P : List ℕ) (earlier : List (List ℕ)) (j n : ℕ) : Type 0 where
  pub each : Each (GoodParam extra s) (params_from P j n)
  pub once : once_each s earlier (params_from P j n) ≡ true
  pub codes : AgreeFrom s P j n
