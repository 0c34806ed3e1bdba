-- Dot segments removed from a path's right end, octet by octet. A `..` waits for the segment that it takes away, dots are held back until
-- it is sure that they are kept, and so what is added on the left of the result stays: no buffer is needed to find its length, and none is
-- written left of the result. Law `FromTheRight` says that it comes to the same.
use Rattle.std.specs.Prelude.{ℕ, ◌+◌, ◌-◌, Bool, cond, ◌&&◌, ◌||◌, List, [], ◌∷◌, ◌++◌, eqb, ltb, length}
use Rattle.resolution.specs.declared.Walk.{Walk}

-- at the right end
abbrev pub at_end : Walk
at_end = record { pending = 0; kind = 0; kept = 0 }

-- the open segment is `.` or `..`
abbrev pub dotted : Walk → Bool
dotted b = eqb b.kind 1 || eqb b.kind 2

-- the dots that are held back
abbrev pub held : ℕ → List ℕ
held k = cond (eqb k 1) (46 ∷ []) (cond (eqb k 2) (46 ∷ 46 ∷ []) [])

-- the octet c is a dot, and may be one of a dot segment
abbrev pub holds : Walk → ℕ → Bool
holds b c = eqb c 46 && ltb b.kind 2

-- what a slash adds: a dot segment goes with its slash, but for the path's last segment, whose slash stays; any other segment goes with its
-- slash if a `..` waits for it
abbrev pub slash_gain : Walk → List ℕ
slash_gain b = cond (cond (dotted b) (eqb b.kept 0) (eqb b.pending 0)) (47 ∷ []) []

-- what the octet c adds on the left
abbrev pub gain : Walk → ℕ → List ℕ
gain b c = cond (eqb c 47) (slash_gain b) (cond (holds b c) [] (cond (eqb b.pending 0) (c ∷ held b.kind) []))

-- the `..` that wait behind a slash
abbrev pub pending_on : Walk → ℕ
pending_on b = cond (eqb b.kind 2) (b.pending + 1) (cond (eqb b.kind 1) b.pending (b.pending - 1))

-- behind the octet c
abbrev pub step : Walk → ℕ → Walk
step b c =
    record {
      pending = cond (eqb c 47) (pending_on b) b.pending;
      kind = cond (eqb c 47) 0 (cond (holds b c) (b.kind + 1) 3);
      kept = b.kept + length (gain b c);
    }

-- from b on, left of w, and what w adds
abbrev pub run : List ℕ → Walk → Walk
run [] b = b
run (c ∷ w) b = step (run w b) c

abbrev pub text : List ℕ → Walk → List ℕ
text [] b = []
text (c ∷ w) b = gain (run w b) c ++ text w b

-- a path without the dot segments that it begins with, if it doesn't begin with a slash
abbrev pub trimmed : List ℕ → List ℕ
trimmed [] = []
trimmed (a ∷ []) = cond (eqb a 46) [] (a ∷ [])
trimmed (a ∷ b ∷ []) = cond (eqb a 46 && (eqb b 46 || eqb b 47)) [] (a ∷ b ∷ [])
trimmed (a ∷ b ∷ c ∷ w) =
    cond (eqb a 46 && eqb b 47) (trimmed (c ∷ w))
    (cond (eqb a 46 && eqb b 46 && eqb c 47) (trimmed w) (a ∷ b ∷ c ∷ w))
