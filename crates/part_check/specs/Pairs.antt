-- A backslash and the octet behind it, in a part of the text.
use Rattle.std.specs.Prelude.{ℕ, suc, ◌≤◌, List}
use Rattle.octets.specs.Sets.{is_escapable}
use Rattle.grammar.specs.Grammar.{At, In}

-- at place i of a part that ends at e stands a backslash, and behind it, in the part, an octet that it may stand before
pub record PairAt (s : List ℕ) (i e : ℕ) : Type 0 where
  pub backslash : At s i 92
  pub next : In s is_escapable (suc i)
  pub room : suc (suc i) ≤ e
