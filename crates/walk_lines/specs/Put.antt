-- The line of a walk's answer, put into a buffer.
use Rattle.std.specs.Prelude.{ℕ, ◌≡◌, List, Result, Ok, Err}
use Rattle.std.proofs.Math.Option.{some}
use Rattle.kinds.specs.Put.{Put}
use Rattle.kinds.specs.declared.PackNumber.{PackNumber}
use Rattle.catalogues.specs.Packs.{Pack, Room, Catalogue}
use Rattle.catalogues.specs.Steps.{pack_at}
use Rattle.answers.specs.Refusal.{refusal_number}
use Rattle.answers.specs.Walk.{end_of}
use Rattle.answers.specs.declared.Refusal.{Refusal}
use Rattle.answers.specs.declared.walk_answer.End.{End}
use Rattle.answers.specs.declared.walk_answer.Ended.{Ended}
use Rattle.walk_lines.specs.Line.{ended_line, refused_line}

-- if the text is a catalogue with a pack number n, the octets u are that pack's URI
abbrev pub UriOf : List ℕ → ℕ → List ℕ → Type 0
UriOf text n u = (room : Room) (ps : List Pack) (p : Pack) → Catalogue room text ps → pack_at ps n ≡ some p → u ≡ p.uri

-- the answer's line is put at the start of a buffer that held `old` and holds `new`, up to place `to`
pub data PutLine (text old new : List ℕ) (to : ℕ) : Result Ended Refusal → Type 0 where
  refusal : {why : Refusal} → Put old new 0 to (refused_line (refusal_number why)) → PutLine text old new to (Err why)
  ended : {e : End} {p : PackNumber} {n : ℕ} (u : List ℕ) → UriOf text p.0 u → Put old new 0 to (ended_line (end_of e) p.0 u n)
      → PutLine text old new to (Ok (record { end = e; pack = p; steps = n }))
