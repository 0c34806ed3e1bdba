-- The runs parted by SP in what is left of a value's meaning.
use Rattle.std.specs.Prelude.{ℕ, ◌≤◌, ◌<◌, ◌≡◌, Bool, true, false, ◌&&◌, List, [], ◌∷◌, ltb, eqb, length, get_or}
use Rattle.std.specs.Bool.{beq}
use Rattle.octets.specs.Fold.{fold, same_folded}
use Rattle.tables.specs.Relation.{runs}
use Rattle.values.specs.Rest.{rest}
use Rattle.runs.specs.declared.RunMatch.{RunMatch}

abbrev pub is_none : List (List ℕ) → Bool
is_none [] = true
is_none (w ∷ ws) = false

-- the octets of v before its first SP
abbrev pub word : List ℕ → List ℕ
word [] = []
word (c ∷ cs) = elim (eqb c 32) [ true ↦ [] | false ↦ c ∷ word cs ]

-- what is left of v behind the SPs in front, where b is true, or behind the octets other than SP in front, where it is false
abbrev pub behind : Bool → List ℕ → List ℕ
behind b [] = []
behind b (c ∷ cs) = elim (beq (eqb c 32) b) [ true ↦ behind b cs | false ↦ c ∷ cs ]

-- v begins with an octet other than SP
pub data AtRun : List ℕ → Type 0 where
  at_run : {c : ℕ} {cs : List ℕ} → eqb c 32 ≡ false → AtRun (c ∷ cs)

-- from place k the SPs, or the octets other than SP, end at place r; before e some octet is meant there
pub record Skipped (b : Bool) (s : List ℕ) (e k r : ℕ) : Type 0 where
  pub forward : k ≤ r
  pub inside : r ≤ e
  pub left : rest s e r ≡ behind b (rest s e k)
  pub stops : r < e → rest s e r ≡ [] → ⊥

-- from place k the next run begins at place r, or there is none and r is e
pub record NextRun (s : List ℕ) (e k r : ℕ) : Type 0 where
  pub forward : k ≤ r
  pub inside : r ≤ e
  pub same_runs : runs (rest s e k) ≡ runs (rest s e r)
  pub begins : r < e → AtRun (rest s e r)

-- the octet c compares equal to octet number i of q
abbrev pub agrees_at : List ℕ → ℕ → ℕ → Bool
agrees_at q i c = ltb i (length q) && eqb (fold c) (fold (get_or q i 0))

-- the run that begins at place k was compared with q, and the place behind it found
pub record MatchRun (s : List ℕ) (e k : ℕ) (q : List ℕ) (m : RunMatch) : Type 0 where
  pub forward : k < m.next.0
  pub inside : m.next.0 ≤ e
  pub first : runs (rest s e k) ≡ word (rest s e k) ∷ runs (rest s e m.next.0)
  pub matches : m.same ≡ same_folded (word (rest s e k)) q
