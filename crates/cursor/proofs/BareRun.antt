-- The octets of a bare value behind its token octets, in each edition.
use Prim.Native.Nat.{ℕ}
use native.Mathlib.Omega.{arith}
use mathlib.Core.List.{List}
use Rattle.octets.specs.Sets.{is_token, is_ptoken}
use Rattle.octets.specs.Editions.{further}
use Rattle.octets.specs.declared.editions.Edition.TheVariants.{Rfc8288, Rfc5988}
use Rattle.grammar.specs.Grammar.{is_bare, run_end}
use Rattle.cursor.specs.Passed.{Passed, Ended}

module _ {s : List ℕ} {a : ℕ} where
  pub none_further : Ended is_token s a → Passed (is_bare (further Rfc8288)) s a a
  none_further h =
      record { forward = omega arith; inside = h.inside; run = run_end; stops = λ l. rw (h.stops l) }

  pub ptoken_run : {e : ℕ} → Passed is_ptoken s a e → Passed (is_bare (further Rfc5988)) s a e
  unfolding is_ptoken
  ptoken_run p = record { forward = p.forward; inside = p.inside; run = p.run; stops = p.stops }
