-- What a reading consists of: links, each with a target and parameters, as spans of the text.
use Rattle.std.specs.Prelude.{ℕ, List}

-- One parameter: where its name and its value stand, and the value's form. A span's end is one past its last octet.
-- Form 0 is no value (both value places are the name's end), 1 a token, 2 a quoted string (the span lies inside the quotes,
-- backslashes still there), 3 a bare value with an octet outside a token, which only an edition with further octets gives.
pub record Param : Type 0 where
  pub name_from : ℕ
  pub name_to : ℕ
  pub value_from : ℕ
  pub value_to : ℕ
  pub form : ℕ

-- One link: where its target stands, and its parameters in order.
pub record Link : Type 0 where
  pub target_from : ℕ
  pub target_to : ℕ
  pub params : List Param
