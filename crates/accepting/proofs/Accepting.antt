-- Reading's answer tells whether a Link value is accepted. Assumes nothing.
use Prim.Native.Nat.{ℕ, ◌≤◌, ◌<◌}
use native.Mathlib.Omega.{arith}
use mathlib.Core.Path.{◌≡◌, refl, sym, ap, subst, ◌∙◌}
use mathlib.Core.List.{List}
use lib.ListN.{length}
use borrow.Author.Tests.{eqb-false}
use Rattle.std.specs.Prelude.{Result, Ok, Err}
use Rattle.std.specs.Result.{is_ok}
use Rattle.octets.specs.Editions.{further}
use Rattle.octets.specs.declared.editions.Edition.TheVariants.{Rfc8288}
use Rattle.grammar.specs.Link.{Link}
use Rattle.grammar.specs.Kept.{Reading}
use Rattle.grammar.specs.Records.{count_params}
use Rattle.grammar.proofs.Editions.{apart}
use Rattle.grammar.proofs.Readings.{one_reading}
use Rattle.outcomes.specs.Read.{ReadOut, ReadIn, too_long, not_derived, no_link_room, no_param_room, reads}
use Rattle.kinds.specs.declared.Counts.{Counts}
use Rattle.answers.specs.Read.{read_numbers, read_out}
use Rattle.answers.specs.declared.read_answer.ReadError.{ReadError}
use Rattle.answers.specs.declared.read_answer.ReadError.TheVariants.{Malformed, Refused}
use Rattle.answers.proofs.Refusals.{no_refusal_is_done}
use Rattle.accepting.specs.Accepted.{Accepted, TellsAccepted}

pub read_accepted : {v L P : List ℕ} {o : ReadOut} → ReadIn Rfc8288 v L P o → o.number ≡ 0 → Accepted v (length L) (length P)
read_accepted (too_long l) e = absurd (omega (arith, e))
read_accepted (not_derived s m) e = absurd (omega (arith, e))
read_accepted (no_link_room s r l) e = absurd (omega (arith, e))
read_accepted (no_param_room s r l k) e = absurd (omega (arith, e))
read_accepted (reads {K = K} s r l k) e = record { links = K; short = s; reading = r; link_room = l; param_room = k }

read_refused : {v L P : List ℕ} {o : ReadOut} → ReadIn Rfc8288 v L P o → (o.number ≡ 0 → ⊥) → Accepted v (length L) (length P) → ⊥
read_refused (too_long l) n a = omega (arith, l, a.short)
read_refused (not_derived s m) n a = m.malformed a.reading.links a.reading.derived a.reading.references
read_refused {v} (no_link_room {K = K} s r l) n a =
    omega (arith, l, a.link_room, ap length (one_reading (further Rfc8288) (apart Rfc8288) v K a.links r a.reading))
read_refused {v} (no_param_room {K = K} s r l k) n a =
    omega (arith, k, a.param_room, ap count_params (one_reading (further Rfc8288) (apart Rfc8288) v K a.links r a.reading))
read_refused (reads s r l k) n a = n refl

-- the answer tells it
pub answer_tells : {v L P L' P' : List ℕ} (r : Result Counts ReadError) → ReadIn Rfc8288 v L P (read_out (read_numbers r) L' P')
    → TellsAccepted v (length L) (length P) (is_ok r)
answer_tells (Ok n) h = read_accepted h refl
answer_tells (Err (Malformed p)) h = read_refused h (λ z. omega (arith, z))
answer_tells (Err (Refused w)) h = read_refused h (eqb-false _ _ (no_refusal_is_done w))
