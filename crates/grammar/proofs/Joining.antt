-- The joining law: the join's kept parameters and records are the headers' own, raised.
use Prim.Native.Nat.{ℕ, ◌+◌, ◌≤◌}
use native.Mathlib.Omega.{arith}
use native.Mathlib.Nat.{add_assoc, add-zero, zero-add}
use mathlib.Core.Path.{◌≡◌, refl, sym, ap, ap₂, ◌∙◌}
use mathlib.Core.Bool.{Bool, true, false, ◌&&◌}
use mathlib.Core.List.{List, [], ◌∷◌, ◌++◌, map, map-append, append_assoc}
use lib.ListN.{length, length-append, length-map}
use Rattle.octets.specs.Fold.{folded}
use Rattle.grammar.specs.Link.{Link, Param}
use Rattle.grammar.specs.Grammar.{Extra, Admissible}
use Rattle.grammar.specs.Targets.{ReferenceAt, References}
use Rattle.grammar.specs.Kept.{name_of, among, code_of, is_once, unless, keep_after, kept_link}
use Rattle.grammar.specs.Records.{link_records, records_of, param_records, count_params}
use Rattle.grammar.specs.Join.{
  padded,
  join,
  raise_links,
  raise_params,
  Readable,
  joined_links,
  joined_params,
  link_sum,
  param_sum,
}
use Rattle.grammar.specs.Laws.{Joins}
use Rattle.grammar.proofs.Raise.{raise_param, raise_link}
use Rattle.grammar.proofs.TargetsRaised.{each_append, targets_inside, references_raised}
use Rattle.grammar.proofs.Joined.{joined_all, pads, joined_derived}
use Rattle.grammar.proofs.Spans.{NamesIn, no_names, name_in, AllNamesIn, no_links, link_in, items_inside, slice_within}

-- ---- keeping

-- the text u, then s, then v
module _ (u s v : List ℕ) where
  abbrev wide : List ℕ
  wide = u ++ (s ++ v)

  name_raised : (p : Param) → p.name_to ≤ length s → name_of wide (raise_param (length u) p) ≡ name_of s p
  unfolding name_of
  name_raised p h = ap folded (slice_within u s v p.name_from p.name_to h)

  unless_raised : (b : Bool) (p : Param) (ps : List Param)
      → unless b (raise_param (length u) p) (map (raise_param (length u)) ps) ≡ map (raise_param (length u)) (unless b p ps)
  unless_raised true p ps = refl
  unless_raised false p ps = refl

  keep_raised : {ps : List Param} (earlier : List (List ℕ)) → NamesIn (length s) ps
      → keep_after wide earlier (map (raise_param (length u)) ps) ≡ map (raise_param (length u)) (keep_after s earlier ps)
  keep_raised earlier no_names = refl
  keep_raised earlier (name_in {p = p} {ps = ps} h r) =
      rw (name_raised p h, keep_raised (name_of s p ∷ earlier) r)
      (unless_raised (is_once (name_of s p) && among earlier (name_of s p)) p (keep_after s (name_of s p ∷ earlier) ps))

  kept_raised : {ls : List Link} → AllNamesIn (length s) ls
      → map (kept_link wide) (map (raise_link (length u)) ls) ≡ map (raise_link (length u)) (map (kept_link s) ls)
  kept_raised no_links = refl
  kept_raised (link_in {l = l} {ls = ls} h r) =
      ap₂
      (λ (ps : List Param) (ms : List Link).
      record { target_from = length u + l.target_from; target_to = length u + l.target_to; params = ps } ∷ ms)
      (keep_raised [] h) (kept_raised r)

  -- ---- records of kept parameters

  names_kept : (n : ℕ) {ps : List Param} (earlier : List (List ℕ)) → NamesIn n ps → NamesIn n (keep_after s earlier ps)
  names_kept n earlier no_names = no_names
  names_kept n earlier (name_in {p = p} {ps = ps} h r) =
      go (is_once (name_of s p) && among earlier (name_of s p)) (names_kept n (name_of s p ∷ earlier) r)
    where
      go : (b : Bool) → NamesIn n (keep_after s (name_of s p ∷ earlier) ps) → NamesIn n (unless b p (keep_after s (name_of s p ∷ earlier) ps))
      go true k = k
      go false k = name_in h k

  -- places rise, and the codes are of the same names
  params_raised : {ps : List Param} (rs : List ℕ) → NamesIn (length s) ps
      → raise_params (length u) (records_of s ps ++ rs) ≡ records_of wide (map (raise_param (length u)) ps) ++ raise_params (length u) rs
  params_raised rs no_names = refl
  params_raised rs (name_in {p = p} {ps = ps} h r) =
      rw (name_raised p h)
      (ap
      (λ (x : List ℕ).
      (length u + p.name_from) ∷ (length u + p.name_to) ∷ (length u + p.value_from) ∷ (length u + p.value_to) ∷ p.form
      ∷ code_of (name_of s p) ∷ x)
      (params_raised rs r))

  param_records_raised : {ls : List Link} → AllNamesIn (length s) ls
      → param_records wide (map (raise_link (length u)) (map (kept_link s) ls)) ≡ raise_params (length u) (param_records s (map (kept_link s) ls))
  param_records_raised no_links = refl
  param_records_raised (link_in {l = l} {ls = ls} h r) =
      ap (λ (x : List ℕ). records_of wide (map (raise_param (length u)) (keep_after s [] l.params)) ++ x) (param_records_raised r)
      ∙ sym (params_raised (param_records s (map (kept_link s) ls)) (names_kept (length s) [] h))

-- what stands before the next header of the join: u, a header padded, and the comma
before_next : (u p : List ℕ) {k : ℕ} → length u ≡ k → length (u ++ p ++ (44 ∷ [])) ≡ k + length p + 1
before_next u p h = omega (arith, length-append (u ++ p) (44 ∷ []), length-append u p)

module _ (extra : Extra) (apart : Admissible extra) where
  -- the links of the join, with their kept parameters
  joined_kept : ℕ → List (Readable extra) → List Link
  joined_kept k [] = []
  joined_kept k (a ∷ hs) =
      map (raise_link (k + length a.pad.left)) a.reading ++ joined_kept (k + length (padded a.pad) + 1) hs

  -- one header's links in the join's text w: what is kept of them, and their records
  one_raised : (w u v : List ℕ) (a : Readable extra) (k : ℕ) → w ≡ u ++ a.pad.left ++ (a.pad.header ++ v) → length u ≡ k
      → (map (kept_link w) (map (raise_link (k + length a.pad.left)) a.reads.links)
      ≡ map (raise_link (k + length a.pad.left)) a.reading)
      × (param_records w (map (raise_link (k + length a.pad.left)) a.reading)
      ≡ raise_params (k + length a.pad.left) (param_records a.pad.header a.reading))
  one_raised w u v a k e h =
      let n : k + length a.pad.left ≡ length (u ++ a.pad.left) = omega (arith, length-append u a.pad.left) in
      let inside = items_inside extra a.pad.header a.reads.derived.items in
      rw (n, e, a.reads.kept)
      (kept_raised (u ++ a.pad.left) a.pad.header v inside, param_records_raised (u ++ a.pad.left) a.pad.header v inside)

  kept_all : (hs : List (Readable extra)) (w u : List ℕ) (k : ℕ) → w ≡ u ++ join (pads extra apart hs) → length u ≡ k
      → map (kept_link w) (joined_all extra apart k hs) ≡ joined_kept k hs
  unfolding joined_kept
  kept_all [] w u k e h = refl
  kept_all (a ∷ []) w u k e h =
      map-append (kept_link w) (map (raise_link (k + length a.pad.left)) a.reads.links) []
      ∙ ap (λ (x : List Link). x ++ []) (one_raised w u a.pad.right a k (e ∙ simp append_assoc) h).0
  kept_all (a ∷ b ∷ hs) w u k e h =
      let J = join (pads extra apart (b ∷ hs)) in
      map-append (kept_link w) (map (raise_link (k + length a.pad.left)) a.reads.links) _
      ∙ ap₂ (λ (x y : List Link). x ++ y) (one_raised w u (a.pad.right ++ 44 ∷ J) a k (e ∙ simp append_assoc) h).0
      (kept_all (b ∷ hs) w (u ++ padded a.pad ++ (44 ∷ [])) (k + length (padded a.pad) + 1) (e ∙ simp append_assoc)
      (before_next u (padded a.pad) h))

  -- ---- targets

  -- one header's targets in the join's text w
  one_references : (w u v : List ℕ) (a : Readable extra) (k : ℕ) → w ≡ u ++ a.pad.left ++ (a.pad.header ++ v) → length u ≡ k
      → References w (map (raise_link (k + length a.pad.left)) a.reads.links)
  one_references w u v a k e h =
      let n : k + length a.pad.left ≡ length (u ++ a.pad.left) = omega (arith, length-append u a.pad.left) in
      rw (n, e)
      (references_raised (u ++ a.pad.left) a.pad.header v a.reads.links
      (targets_inside extra apart a.pad.header a.reads.derived) a.reads.references)

  references_all : (hs : List (Readable extra)) (w u : List ℕ) (k : ℕ) → w ≡ u ++ join (pads extra apart hs) → length u ≡ k
      → References w (joined_all extra apart k hs)
  references_all [] w u k e h = tt
  references_all (a ∷ []) w u k e h =
      each_append (ReferenceAt w) (map (raise_link (k + length a.pad.left)) a.reads.links) []
      (one_references w u a.pad.right a k (e ∙ simp append_assoc) h) tt
  references_all (a ∷ b ∷ hs) w u k e h =
      let J = join (pads extra apart (b ∷ hs)) in
      each_append (ReferenceAt w) (map (raise_link (k + length a.pad.left)) a.reads.links) _
      (one_references w u (a.pad.right ++ 44 ∷ J) a k (e ∙ simp append_assoc) h)
      (references_all (b ∷ hs) w (u ++ padded a.pad ++ (44 ∷ [])) (k + length (padded a.pad) + 1) (e ∙ simp append_assoc)
      (before_next u (padded a.pad) h))

-- ---- records

link_records_raised : (k m n : ℕ) (ls : List Link)
    → link_records (m + n) (map (raise_link k) ls) ≡ raise_links k m (link_records n ls)
link_records_raised k m n [] = refl
link_records_raised k m n (l ∷ ls) =
    rw (length-map l.params (raise_param k), add_assoc m n (length l.params))
    (ap (λ (x : List ℕ). (k + l.target_from) ∷ (k + l.target_to) ∷ (m + n) ∷ length l.params ∷ x)
    (link_records_raised k m (n + length l.params) ls))

param_count_raised : (k : ℕ) (ls : List Link) → count_params (map (raise_link k) ls) ≡ count_params ls
param_count_raised k [] = refl
param_count_raised k (l ∷ ls) = rw (length-map l.params (raise_param k), param_count_raised k ls)

pub link_records_append : (n : ℕ) (ls ms : List Link)
    → link_records n (ls ++ ms) ≡ link_records n ls ++ link_records (n + count_params ls) ms
link_records_append n [] ms = ap (λ (x : ℕ). link_records x ms) (sym (add-zero n))
link_records_append n (l ∷ ls) ms =
    rw (← add_assoc n (length l.params) (count_params ls))
    (ap (λ (x : List ℕ). l.target_from ∷ l.target_to ∷ n ∷ length l.params ∷ x)
    (link_records_append (n + length l.params) ls ms))

pub param_records_append : (s : List ℕ) (ls ms : List Link) → param_records s (ls ++ ms) ≡ param_records s ls ++ param_records s ms
param_records_append s [] ms = refl
param_records_append s (l ∷ ls) ms =
    ap (λ (x : List ℕ). records_of s l.params ++ x) (param_records_append s ls ms)
    ∙ sym (append_assoc (records_of s l.params) (param_records s ls) (param_records s ms))

pub param_count_append : (ls ms : List Link) → count_params (ls ++ ms) ≡ count_params ls + count_params ms
param_count_append [] ms = sym (zero-add (count_params ms))
param_count_append (l ∷ ls) ms = rw (param_count_append ls ms) (sym (add_assoc (length l.params) (count_params ls) (count_params ms)))

module _ (extra : Extra) (apart : Admissible extra) where
  joined_links_lem : (k m : ℕ) (hs : List (Readable extra)) → link_records m (joined_kept extra apart k hs) ≡ joined_links extra k m hs
  unfolding joined_kept
  joined_links_lem k m [] = refl
  joined_links_lem k m (a ∷ hs) =
      let j = k + length a.pad.left in
      link_records_append m (map (raise_link j) a.reading) _
      ∙ ap₂ (λ (x y : List ℕ). x ++ y)
      (ap (λ (n : ℕ). link_records n (map (raise_link j) a.reading)) (sym (add-zero m))
      ∙ link_records_raised j m 0 a.reading)
      (ap (λ (n : ℕ). link_records (m + n) (joined_kept extra apart (k + length (padded a.pad) + 1) hs))
      (param_count_raised j a.reading)
      ∙ joined_links_lem (k + length (padded a.pad) + 1) (m + count_params a.reading) hs)

  joined_params_lem : (hs : List (Readable extra)) (w u : List ℕ) (k : ℕ) → w ≡ u ++ join (pads extra apart hs) → length u ≡ k
      → param_records w (joined_kept extra apart k hs) ≡ joined_params extra k hs
  unfolding joined_kept
  joined_params_lem [] w u k e h = refl
  joined_params_lem (a ∷ []) w u k e h =
      param_records_append w (map (raise_link (k + length a.pad.left)) a.reading) []
      ∙ ap (λ (x : List ℕ). x ++ []) (one_raised extra apart w u a.pad.right a k (e ∙ simp append_assoc) h).1
  joined_params_lem (a ∷ b ∷ hs) w u k e h =
      let J = join (pads extra apart (b ∷ hs)) in
      param_records_append w (map (raise_link (k + length a.pad.left)) a.reading) _
      ∙ ap₂ (λ (x y : List ℕ). x ++ y) (one_raised extra apart w u (a.pad.right ++ 44 ∷ J) a k (e ∙ simp append_assoc) h).1
      (joined_params_lem (b ∷ hs) w (u ++ padded a.pad ++ (44 ∷ [])) (k + length (padded a.pad) + 1) (e ∙ simp append_assoc)
      (before_next u (padded a.pad) h))

  joined_link_count : (k : ℕ) (hs : List (Readable extra)) → length (joined_kept extra apart k hs) ≡ link_sum extra hs
  unfolding joined_kept
  joined_link_count k [] = refl
  joined_link_count k (a ∷ hs) =
      rw (
        length-append (map (raise_link (k + length a.pad.left)) a.reading) (joined_kept extra apart (k + length (padded a.pad) + 1) hs),
        length-map a.reading (raise_link (k + length a.pad.left)),
        joined_link_count (k + length (padded a.pad) + 1) hs,
      )

  joined_param_count : (k : ℕ) (hs : List (Readable extra)) → count_params (joined_kept extra apart k hs) ≡ param_sum extra hs
  unfolding joined_kept
  joined_param_count k [] = refl
  joined_param_count k (a ∷ hs) =
      rw (
        param_count_append (map (raise_link (k + length a.pad.left)) a.reading) (joined_kept extra apart (k + length (padded a.pad) + 1) hs),
        param_count_raised (k + length a.pad.left) a.reading,
        joined_param_count (k + length (padded a.pad) + 1) hs,
      )

pub joins : Joins
joins extra apart hs =
    record {
      links = joined_kept extra apart 0 hs;
      reads =
          record {
            links = joined_all extra apart 0 hs;
            derived = joined_derived extra apart hs;
            references = references_all extra apart hs (join (pads extra apart hs)) [] 0 refl refl;
            kept = sym (kept_all extra apart hs (join (pads extra apart hs)) [] 0 refl refl);
          };
      records_of_links = joined_links_lem extra apart 0 0 hs;
      records_of_params = joined_params_lem extra apart hs (join (pads extra apart hs)) [] 0 refl refl;
      link_count = joined_link_count extra apart 0 hs;
      param_count = joined_param_count extra apart 0 hs;
    }
