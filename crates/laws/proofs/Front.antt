-- What stands in a join before one of its headers, and what behind it.
use Prim.Native.Nat.{ℕ, ◌+◌}
use mathlib.Core.Path.{◌≡◌, refl, sym, ap, subst, ◌∙◌}
use mathlib.Core.Bool.{true}
use mathlib.Core.List.{List, [], ◌∷◌, ◌++◌, map, append-nil, append_assoc, map-append}
use lib.ListN.{length}
use Rattle.octets.specs.Sets.{all, is_blank}
use Rattle.grammar.specs.Link.{Link}
use Rattle.grammar.specs.Grammar.{Extra, Admissible}
use Rattle.grammar.specs.Kept.{Reading}
use Rattle.grammar.specs.Join.{Padded, padded, join, Readable}
use Rattle.grammar.specs.Machine.{gap, run}
use Rattle.grammar.proofs.Joined.{joined_derived, gap_blanks, comma_run, padded_run}
use Rattle.grammar.proofs.Joining.{joins}

-- the octets of a join before a header, which has the blanks l before it
abbrev pub front : List Padded → List ℕ → List ℕ
front [] l = l
front (p ∷ ps) l = padded p ++ 44 ∷ front ps l

-- and those behind the blanks after it
abbrev pub tail : List Padded → List ℕ
tail [] = []
tail (q ∷ qs) = 44 ∷ join (q ∷ qs)

pub join_at : (ps : List Padded) (q : Padded) (qs : List Padded)
    → join (ps ++ q ∷ qs) ≡ front ps q.left ++ (q.header ++ (q.right ++ tail qs))
join_at [] q [] =
    append_assoc q.left q.header q.right
    ∙ ap (λ (x : List ℕ). q.left ++ (q.header ++ x)) (sym (append-nil q.right))
join_at [] q (p ∷ qs) =
    append_assoc (q.left ++ q.header) q.right (tail (p ∷ qs))
    ∙ append_assoc q.left q.header (q.right ++ tail (p ∷ qs))
join_at (p ∷ []) q qs =
    ap (λ (x : List ℕ). padded p ++ 44 ∷ x) (join_at [] q qs)
    ∙ sym (append_assoc (padded p) (44 ∷ q.left) (q.header ++ (q.right ++ tail qs)))
join_at (p ∷ r ∷ ps) q qs =
    ap (λ (x : List ℕ). padded p ++ 44 ∷ x) (join_at (r ∷ ps) q qs)
    ∙ sym (append_assoc (padded p) (44 ∷ front (r ∷ ps) q.left) (q.header ++ (q.right ++ tail qs)))

module _ (extra : Extra) (apart : Admissible extra) where
  abbrev pub pads_of : List (Readable extra) → List Padded
  pads_of hs = map (λ (a : Readable extra). a.pad) hs

  -- behind accepted headers, each with its comma, and blanks, the machine stands before an item
  pub front_run : (hs : List (Readable extra)) (l : List ℕ) → all is_blank l ≡ true → (pre : List Link) (k : ℕ)
      → (ls : List Link) × (run extra (gap pre) k (front (pads_of hs) l) ≡ gap ls)
  front_run [] l b pre k = (pre, gap_blanks extra apart l pre k b)
  front_run (a ∷ hs) l b pre k =
      let (ls, e, _) = padded_run extra apart a.pad a.reads.derived pre k in
      let (ms, f) = front_run hs l b ls (k + length (padded a.pad) + 1) in
      (ms, comma_run extra apart (padded a.pad) (front (pads_of hs) l) (gap pre) k ls e ∙ f)

  -- they are the join of these headers and an empty one, so that they have a reading
  pub front_reading : (hs : List (Readable extra)) (l : List ℕ) → all is_blank l ≡ true
      → (K : List Link) × Reading extra (front (pads_of hs) l) K
  front_reading hs l b =
      let none : Reading extra [] [] = record { links = []; derived = joined_derived extra apart []; references = tt; kept = refl } in
      let p : Padded = record { left = l; header = []; right = []; left_blank = b; right_blank = refl } in
      let h : Readable extra = record { pad = p; reading = []; reads = none } in
      let j = joins extra apart (hs ++ h ∷ []) in
      let e : join (pads_of (hs ++ h ∷ [])) ≡ front (pads_of hs) l =
      ap join (map-append (λ (a : Readable extra). a.pad) hs (h ∷ [])) ∙ join_at (pads_of hs) p [] ∙ append-nil (front (pads_of hs) l)
      in
      (j.links, subst (λ (s : List ℕ). Reading extra s j.links) e j.reads)
