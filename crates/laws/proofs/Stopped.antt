-- A header is malformed at a place if one computed test passes: the machine goes no further there, or a target that is no reference
-- starts there, and all targets before that are references.
use Prim.Native.Nat.{ℕ, suc}
use native.Mathlib.Omega.{arith}
use mathlib.Core.Path.{◌≡◌, refl, ap}
use mathlib.Core.Logic.{⊎_map}
use mathlib.Core.Bool.{Bool, true, false, cond, ◌&&◌, ◌||◌, not, false≢true}
use mathlib.Core.List.{List, [], ◌∷◌}
use mathlib.Core.Option.{Option, none, some}
use lib.Dec.{leb, ltb, eqb}
use lib.ListN.{length, get_or}
use borrow.Author.Tests.{leb-true, ltb-true, eqb-true, not-true}
use Rattle.octets.specs.Editions.{further}
use Rattle.octets.specs.declared.editions.Edition.{Edition}
use Rattle.octets.proofs.Octets.{both}
pub use Rattle.rules.proofs.Lefts.{either}
use Rattle.grammar.specs.Link.{Link}
use Rattle.grammar.specs.Targets.{ReferenceAt}
use Rattle.grammar.specs.Place.{Malformed, MalformedAt}
use Rattle.grammar.specs.Machine.{
  State,
  gap,
  target,
  percent,
  hex,
  after,
  semi,
  name,
  named,
  equals,
  bare,
  wide,
  quote,
  escape,
  dead,
  run,
  finish,
}
use Rattle.grammar.proofs.Editions.{apart}
use Rattle.grammar.proofs.Readings.{unread as none-derived}
use Rattle.grammar.proofs.Prefix.{is_dead}
use Rattle.grammar.proofs.TargetsHeld.{closed_in}
use Rattle.grammar.proofs.Closing.{state_at, Shut, CleanTo, clean}
use Rattle.grammar.proofs.Places.{shut_faulty, faulty_shut, halted, first_target, faulty_malformed}
use Rattle.laws.specs.Feedings.{FirstFaulty}
use Rattle.laws.proofs.References.{is_reference, are_references, no_reference, are_references_lem}

-- ---- the tests

-- the links that the machine reads
abbrev pub read : Edition → List ℕ → Option (List Link)
read ed h = finish (run (further ed) (gap []) 0 h) (length h)

abbrev pub unread : Option (List Link) → Bool
unread none = true
unread (some R) = false

-- the state stands in a target that starts at place k, behind no `%`
abbrev pub stands_in : ℕ → State → Bool
stands_in k (gap ls) = false
stands_in k (target ls a) = eqb a k
stands_in k (percent ls a) = false
stands_in k (hex ls a) = false
stands_in k (after o) = false
stands_in k (semi o) = false
stands_in k (name o n) = false
stands_in k (named o n e) = false
stands_in k (equals o n e) = false
stands_in k (bare o n e v) = false
stands_in k (wide o n e v) = false
stands_in k (quote o n e v) = false
stands_in k (escape o n e v) = false
stands_in k dead = false

-- the place of the first `>` of octets that stand from place i on
abbrev pub close_of : ℕ → List ℕ → ℕ
close_of i [] = i
close_of i (c ∷ cs) = cond (eqb c 62) i (close_of (suc i) cs)

-- the machine goes no further at place k, and all targets before it are references
abbrev pub stops : Edition → List ℕ → ℕ → Bool
stops ed h k =
    unread (read ed h) && leb k (length h) && not (is_dead (state_at (further ed) h k))
    && (eqb k (length h) || is_dead (state_at (further ed) h (suc k))) && are_references h (closed_in (state_at (further ed) h k))

-- a target that starts at place k is closed at place j and is no reference, and all targets before it are
abbrev pub unfit : Edition → List ℕ → ℕ → ℕ → Bool
unfit ed h k j =
    ltb j (length h) && eqb (get_or h j 0) 62 && stands_in k (state_at (further ed) h j) && not (is_reference h k j)
    && are_references h (closed_in (state_at (further ed) h j))

-- ---- what they show

not_read : (ed : Edition) (h : List ℕ) → unread (read ed h) ≡ true → read ed h ≡ none
not_read ed h e = go (read ed h) e
  where
    go : (x : Option (List Link)) → unread x ≡ true → x ≡ none
    go none e = refl
    go (some R) e = absurd (false≢true e)

-- what the machine doesn't read is malformed
pub unread_malformed : (ed : Edition) (h : List ℕ) → read ed h ≡ none → Malformed (further ed) h
unread_malformed ed h e R f _ = none-derived (further ed) (apart ed) h e R f

pub stops_at : (ed : Edition) (h : List ℕ) (k : ℕ) → stops ed h k ≡ true → MalformedAt (further ed) h k
stops_at ed h k e =
    let st = state_at (further ed) h k in
    let n = state_at (further ed) h (suc k) in
    let (abcd, targets) =
    both (unread (read ed h) && leb k (length h) && not (is_dead st) && (eqb k (length h) || is_dead n)) (are_references h (closed_in st)) e
    in
    let (abc, dies) = both (unread (read ed h) && leb k (length h) && not (is_dead st)) (eqb k (length h) || is_dead n) abcd in
    let (ab, lives) = both (unread (read ed h) && leb k (length h)) (not (is_dead st)) abc in
    let (none_read, within) = both (unread (read ed h)) (leb k (length h)) ab in
    let inside = leb-true k (length h) within in
    let alive = not-true (is_dead st) lives in
    record {
      malformed = unread_malformed ed h (not_read ed h none_read);
      place =
          halted (further ed) (apart ed) h k inside alive
          (⊎_map (eqb-true k (length h)) (λ d. d) (either (eqb k (length h)) (is_dead n) dies))
          (clean (further ed) k inside alive (are_references_lem h (closed_in st) targets));
    }

stands_in_lem : (k : ℕ) (st : State) → stands_in k st ≡ true → (ls : List Link) × (st ≡ target ls k)
stands_in_lem k (gap ls) e = absurd (false≢true e)
stands_in_lem k (target ls a) e = (ls, ap (target ls) (eqb-true a k e))
stands_in_lem k (percent ls a) e = absurd (false≢true e)
stands_in_lem k (hex ls a) e = absurd (false≢true e)
stands_in_lem k (after o) e = absurd (false≢true e)
stands_in_lem k (semi o) e = absurd (false≢true e)
stands_in_lem k (name o n) e = absurd (false≢true e)
stands_in_lem k (named o n v) e = absurd (false≢true e)
stands_in_lem k (equals o n v) e = absurd (false≢true e)
stands_in_lem k (bare o n v w) e = absurd (false≢true e)
stands_in_lem k (wide o n v w) e = absurd (false≢true e)
stands_in_lem k (quote o n v w) e = absurd (false≢true e)
stands_in_lem k (escape o n v w) e = absurd (false≢true e)
stands_in_lem k dead e = absurd (false≢true e)

unfit_shut : (ed : Edition) (h : List ℕ) (k j : ℕ) → unfit ed h k j ≡ true
    → Shut (further ed) h k j × (ReferenceAt h k j → ⊥) × CleanTo (further ed) h j
unfit_shut ed h k j e =
    let st = state_at (further ed) h j in
    let (abcd, targets) =
    both (ltb j (length h) && eqb (get_or h j 0) 62 && stands_in k st && not (is_reference h k j)) (are_references h (closed_in st)) e
    in
    let (abc, wrong) = both (ltb j (length h) && eqb (get_or h j 0) 62 && stands_in k st) (not (is_reference h k j)) abcd in
    let (ab, stands) = both (ltb j (length h) && eqb (get_or h j 0) 62) (stands_in k st) abc in
    let (inside, close) = both (ltb j (length h)) (eqb (get_or h j 0) 62) ab in
    let (ls, q) = stands_in_lem k st stands in
    let l = ltb-true j (length h) inside in (
      record { inside = l; octet = eqb-true (get_or h j 0) 62 close; held = ls; stands = q },
      no_reference h k j (not-true (is_reference h k j) wrong),
      clean (further ed) j (omega arith) (ap is_dead q) (are_references_lem h (closed_in st) targets),
    )

pub unfit_at : (ed : Edition) (h : List ℕ) (k j : ℕ) → unfit ed h k j ≡ true → MalformedAt (further ed) h k
unfit_at ed h k j e =
    let (shut, wrong, before) = unfit_shut ed h k j e in
    record { malformed = faulty_malformed (further ed) (apart ed) shut wrong; place = first_target (further ed) (apart ed) shut wrong before }

pub unfit_first : (ed : Edition) (h : List ℕ) (k j : ℕ) → unfit ed h k j ≡ true → FirstFaulty ed h k j
unfit_first ed h k j e =
    let (shut, wrong, before) = unfit_shut ed h k j e in
    record {
      faulty = shut_faulty (further ed) (apart ed) shut wrong;
      first = λ b i l f. f.no_reference (before b i (faulty_shut (further ed) (apart ed) f) l);
    }
