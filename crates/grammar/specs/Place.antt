-- Malformed headers, and the place that is reported of one.
use Rattle.std.specs.Prelude.{ℕ, suc, ◌≤◌, ◌<◌, List, ◌++◌, length, take}
use Rattle.grammar.specs.Link.{Link}
use Rattle.grammar.specs.Grammar.{Extra, Field}
use Rattle.grammar.specs.Targets.{ReferenceAt, References, HasTarget}

-- no derivation of the header by the grammar has references for all its targets
abbrev pub Malformed : Extra → List ℕ → Type 0
Malformed extra s = (R : List Link) → Field extra s R → References s R → ⊥

-- Some header begins with u that the grammar derives. What a target is beside its octets and triples isn't asked here: only a target
-- that is closed is judged as a reference.
pub record Begins (extra : Extra) (u : List ℕ) : Type 0 where
  pub rest : List ℕ
  pub links : List Link
  pub derived : Field extra (u ++ rest) links

-- the length of a header's longest prefix that begins so, limits of length aside
pub record Longest (extra : Extra) (s : List ℕ) (k : ℕ) : Type 0 where
  pub within : k ≤ length s
  pub begins : Begins extra (take k s)
  pub longest : (j : ℕ) → k < j → j ≤ length s → Begins extra (take j s) → ⊥

-- The target that begins at place a is closed by the `>` at place k: some header that the grammar derives begins with the octets up to
-- and with it, and has that target.
pub record Closed (extra : Extra) (s : List ℕ) (a k : ℕ) : Type 0 where
  pub inside : k < length s
  pub rest : List ℕ
  pub links : List Link
  pub derived : Field extra (take (suc k) s ++ rest) links
  pub target : HasTarget links a k

-- a closed target that is no reference
pub record Faulty (extra : Extra) (s : List ℕ) (a k : ℕ) : Type 0 where
  pub closed : Closed extra s a k
  pub no_reference : ReferenceAt s a k → ⊥

abbrev pub NoneFaulty : Extra → List ℕ → Type 0
NoneFaulty extra s = (a k : ℕ) → Faulty extra s a k → ⊥

-- The place of a header: the start of its first closed target that is no reference, or, where there is none, the length of the longest
-- prefix that begins a header. (Of a header with a reading that is its whole length; only of a malformed one is it answered.)
pub data Place (extra : Extra) (s : List ℕ) : ℕ → Type 0 where
  at_target : {a k : ℕ} → Faulty extra s a k → ((b j : ℕ) → Faulty extra s b j → a ≤ b) → Place extra s a
  at_longest : {k : ℕ} → NoneFaulty extra s → Longest extra s k → Place extra s k

-- the header is malformed, and k is its place
pub record MalformedAt (extra : Extra) (s : List ℕ) (k : ℕ) : Type 0 where
  pub malformed : Malformed extra s
  pub place : Place extra s k

-- Nothing is wrong so far: some header begins with the octets, and no target that is closed among them is faulty. This is what feeds
-- ask, so that an open target is told nothing of.
pub record Begun (extra : Extra) (u : List ℕ) : Type 0 where
  pub begins : Begins extra u
  pub references : NoneFaulty extra u
