-- The parts of a reference keep apart: each is free of the octets at which it ends, and what follows it begins with one of them.
-- Assumes nothing.
use Prim.Native.Nat.{ℕ}
use mathlib.Core.Path.{◌≡◌, refl, ◌∙◌}
use mathlib.Core.Bool.{true}
use mathlib.Core.List.{List, [], ◌∷◌, ◌++◌, append_assoc}
use mathlib.Core.Logic.{◌⊎◌, inl, inr}
use mathlib.Core.Option.{Option, none, some}
use borrow.Author.Tests.{eqb-true}
use lib.Dec.{eqb}
use Rattle.octets.specs.Text.{octets}
use Rattle.octets.specs.Sets.{one_of}
use Rattle.rules.specs.Rule.{Rule, no_more, and_one, Derives}
use Rattle.rules.proofs.Lefts.{or_right}
use Rattle.references.specs.Octets.{Octets, has}
use Rattle.references.specs.AppendixA.{path_abempty, segment_nz_nc}
use Rattle.references.specs.Components.{marked, DerivesPart, path_rule}
use Rattle.references.proofs.Clear.{Free, clear, clear_free}
use Rattle.references.proofs.Cuts.{Stops, FreePart, Follows, FollowsScheme, from_free}
use Rattle.references.proofs.Begins.{not_behind, behind_more}

-- a query and a fragment with their marks
abbrev pub tail : Option (List ℕ) → Option (List ℕ) → List ℕ
tail q f = marked (octets "?") q ++ marked (octets "#") f

pub part_free : (cs : List ℕ) (r : Rule Octets) (o : Option (List ℕ)) → clear cs r ≡ true → DerivesPart r o → FreePart cs o
part_free cs r none e d = tt
part_free cs r (some u) e d = clear_free cs r e u d

pub fragment_stops : (cs : List ℕ) → one_of cs 35 ≡ true → (f : Option (List ℕ)) → Stops cs (marked (octets "#") f)
fragment_stops cs h none = tt
fragment_stops cs h (some u) = h

pub tail_stops : (cs : List ℕ) → one_of cs 63 ≡ true → one_of cs 35 ≡ true → (q f : Option (List ℕ)) → Stops cs (tail q f)
tail_stops cs g h none f = fragment_stops cs h f
tail_stops cs g h (some u) f = g

-- a query is told by its mark, or a fragment follows
pub query_follows : (q f : Option (List ℕ)) → Follows (octets "?") (octets "#") q (marked (octets "#") f)
query_follows none none = refl
query_follows none (some u) = refl
query_follows (some v) f = fragment_stops (octets "#") refl f

-- ---- paths

-- w begins with a slash
abbrev Rooted : List ℕ → Type 0
Rooted w = (v : List ℕ) × (w ≡ 47 ∷ v)

slash_first : (w u v : List ℕ) (c : ℕ) → w ≡ u ++ v → u ≡ c ∷ [] → eqb c 47 ≡ true → Rooted w
slash_first w u v c e i h = (v, rw (e, i, eqb-true c 47 h) refl)

abempty_rooted : {w : List ℕ} → Derives has path_abempty w → (w ≡ []) ⊎ Rooted w
abempty_rooted (no_more e) = inl e
abempty_rooted (and_one {w} {u} {v} e p m) =
    inr
    (slash_first w p.left (p.right ++ v) p.first.octet (e ∙ rw p.whole (append_assoc p.left p.right v))
    p.first.is p.first.inside)

rooted_stops : (cs w v : List ℕ) → one_of cs 47 ≡ true → Rooted w → Stops cs (w ++ v)
rooted_stops cs w v h r = rw r.1 h

abempty_stops : (cs w v : List ℕ) → one_of cs 47 ≡ true → Derives has path_abempty w → Stops cs v → Stops cs (w ++ v)
abempty_stops cs w v h d s = go (abempty_rooted d)
  where
    go : (w ≡ []) ⊎ Rooted w → Stops cs (w ++ v)
    go (inl e) = rw e s
    go (inr r) = rooted_stops cs w v h r

pub path_free : (s a : Option (List ℕ)) (w : List ℕ) → Derives has (path_rule s a) w → Free (octets "?#") w
path_free s (some a) w d = clear_free (octets "?#") (path_rule s (some a)) refl w d
path_free (some s) none w d = clear_free (octets "?#") (path_rule (some s) none) refl w d
path_free none none w d = clear_free (octets "?#") (path_rule none none) refl w d

-- a path without an authority does not begin with two slashes
pub authority_follows : (s a : Option (List ℕ)) (w : List ℕ) (q f : Option (List ℕ)) → Derives has (path_rule s a) w
    → Follows (octets "//") (octets "/?#") a (w ++ tail q f)
authority_follows s (some a) w q f d =
    abempty_stops (octets "/?#") w (tail q f) refl d (tail_stops (octets "/?#") refl refl q f)
authority_follows (some s) none w q f d =
    behind_more (octets "?#") (octets "//") w (tail q f) (refl, (refl, tt)) (tail_stops (octets "?#") refl refl q f)
    (not_behind (octets "//") (path_rule (some s) none) w refl d)
authority_follows none none w q f d =
    behind_more (octets "?#") (octets "//") w (tail q f) (refl, (refl, tt)) (tail_stops (octets "?#") refl refl q f)
    (not_behind (octets "//") (path_rule none none) w refl d)

-- ---- no scheme

-- no colon comes before the first of `/?#`
not_schemed : (u v : List ℕ) → Free (octets ":/?#") u → Stops (octets "/?#") v → FollowsScheme none (u ++ v)
not_schemed u v p s =
    rw (from_free (octets ":/?#") u v p (wider v s)) (behind_more (octets "/?#") (octets ":") [] v (refl, tt) s refl)
  where
    wider : (v : List ℕ) → Stops (octets "/?#") v → Stops (octets ":/?#") v
    wider [] s = tt
    wider (c ∷ v) s = or_right (eqb c 58) (one_of (octets "/?#") c) s

pub scheme_follows : (s a : Option (List ℕ)) (w : List ℕ) (q f : Option (List ℕ)) → Derives has (path_rule s a) w
    → FollowsScheme s (marked (octets "//") a ++ (w ++ tail q f))
scheme_follows (some s) a w q f d = tt
scheme_follows none (some a) w q f d = refl
scheme_follows none none w q f (inl d) =
    not_schemed [] (w ++ tail q f) tt
    (rooted_stops (octets "/?#") w (tail q f) refl
    (slash_first w d.left d.right d.first.octet d.whole d.first.is d.first.inside))
scheme_follows none none w q f (inr (inl d)) =
    rw (d.whole, append_assoc d.left d.right (tail q f))
    (not_schemed d.left (d.right ++ tail q f) (clear_free (octets ":/?#") segment_nz_nc refl d.left d.first)
    (abempty_stops (octets "/?#") d.right (tail q f) refl d.second (tail_stops (octets "/?#") refl refl q f)))
scheme_follows none none w q f (inr (inr e)) = rw e (not_schemed [] (tail q f) tt (tail_stops (octets "/?#") refl refl q f))
