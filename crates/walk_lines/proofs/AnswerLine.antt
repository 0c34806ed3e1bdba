-- The line of an answer that is known. Assumes nothing.
use Prim.Native.Nat.{ℕ, ◌-◌}
use mathlib.Core.Path.{◌≡◌, sym, subst}
use mathlib.Core.List.{List}
use lib.ListN.{take, drop}
use lib.Seq.{slice}
use Rattle.std.specs.Prelude.{Result, Ok, Err}
use Rattle.octets.proofs.Laws.{slice_take_drop}
use Rattle.kinds.specs.Put.{Put}
use Rattle.kinds.specs.declared.PackNumber.{PackNumber}
use Rattle.answers.specs.Refusal.{refusal_number}
use Rattle.answers.specs.Walk.{end_of}
use Rattle.answers.specs.declared.Refusal.{Refusal}
use Rattle.answers.specs.declared.walk_answer.End.{End}
use Rattle.answers.specs.declared.walk_answer.Ended.{Ended}
use Rattle.pack_uri.specs.Uri.{UriPart}
use Rattle.walk_lines.specs.Line.{ended_line, refused_line}
use Rattle.walk_lines.specs.Put.{PutLine, refusal, ended}

module _ {text old new : List ℕ} {to : ℕ} {r : Result Ended Refusal} where
  pub refused_line_lem : {why : Refusal} → r ≡ Err why → Put old new 0 to (refused_line (refusal_number why)) → PutLine text old new to r
  refused_line_lem {why} known put = subst (PutLine text old new to) (sym known) (refusal put)

  -- the URI is a part of the text
  module _ {e : End} {p : PackNumber} {n : ℕ} (known : r ≡ Ok (record { end = e; pack = p; steps = n })) where
    pub ended_line_lem : (a b : ℕ) → UriPart text p.0 a b → Put old new 0 to (ended_line (end_of e) p.0 (take (b - a) (drop a text)) n)
        → PutLine text old new to r
    ended_line_lem a b u put =
        subst (PutLine text old new to) (sym known)
        (ended (slice a b text) u.uri
        (subst (λ (v : List ℕ). Put old new 0 to (ended_line (end_of e) p.0 v n)) (sym (slice_take_drop a b text u.part.ordered)) put))
