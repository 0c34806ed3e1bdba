-- What the next line tells: a pack more, or that the text is no catalogue. Assumes nothing.
use Prim.Native.Nat.{ℕ, suc, ◌+◌, ◌-◌, ◌*◌, ◌≤◌, ◌<◌}
use native.Mathlib.Omega.{arith}
use native.Mathlib.Numerals.{add-one}
use mathlib.Core.Path.{◌≡◌, refl, sym, ap, subst, ◌∙◌}
use mathlib.Core.Logic.{◌⊎◌, inl, inr}
use mathlib.Core.Bool.{Bool, true, false, false≢true}
use mathlib.Core.List.{List, [], ◌∷◌, ◌++◌, append_assoc, append-nil}
use mathlib.Core.Option.{some}
use lib.ListN.{length, take, drop, length-append, length-drop}
use lib.Seq.{sets}
use Rattle.octets.specs.Fold.{same}
use Rattle.octets.proofs.Laws.{same_sound, same_refl, slice_take_drop}
use Rattle.kinds.specs.declared.PackNumber.{PackNumber}
use Rattle.tables.specs.Good.{Each, each_none, each_more}
use Rattle.catalogues.specs.Packs.{pack_limit, Pack, line_of, lines_of, RightPack, Absent, Distinct, Catalogue}
use Rattle.catalogues.specs.Steps.{pack_at}
use Rattle.catalogues.proofs.NoLf.{value_free}
use Rattle.catalogues.proofs.Lines.{laid, line_parts, lines_left, LinesLeft, each_append, each_behind, lines_append, uri_no_tab}
use Rattle.pack_index.specs.declared.PackPlaces.{PackPlaces}
use Rattle.std.specs.Prelude.{Option, Some}
use Rattle.std.specs.Prelude as std
use Rattle.pack_index.specs.Index.{places_at, numbers_of, Placed, uri_in, value_in, Held, FoundBy}
use Rattle.pack_index.proofs.Stored.{stored, kept}
use Rattle.pack_lines.specs.Lines.{IsLine, LineRead, line, none}
use Rattle.accepting.specs.Accepted.{Accepted, TellsAccepted}
use Rattle.catalogue_check.specs.Checked.{HasPlaces, Indexed, tables, None, Begun}
use Rattle.catalogues.proofs.Packing.{pack_there, number_below, at_each, last_or_before, distinct_more, distinct_apart}

-- a list of packs that begins with ps, and goes on with the pack q
record NextPack (s : List ℕ) (l p a : ℕ) (ps qs : List Pack) : Type 0 where
  pack : Pack
  others : List Pack
  all : qs ≡ ps ++ (pack ∷ others)
  right : RightPack (tables l p) pack
  line : drop a s ≡ line_of pack ++ lines_of others

module _ {s : List ℕ} {l p : ℕ} {X : List ℕ} {n a : ℕ} (b : Begun s l p X n a) where
  -- ---- any catalogue goes on here

  module _ (h : a < length s) {qs : List Pack} (c : Catalogue (tables l p) s qs) where
    next_of : (rs : List Pack) → qs ≡ b.packs ++ rs → drop a s ≡ lines_of rs → Each (RightPack (tables l p)) rs → NextPack s l p a b.packs qs
    next_of [] e w r = absurd (omega (arith, h, ap length w, length-drop a s))
    next_of (q ∷ rs) e w (each_more g r) = record { pack = q; others = rs; all = e; right = g; line = w }

    next_pack : NextPack s l p a b.packs qs
    next_pack =
        let left : LinesLeft b.packs qs (drop a s) = lines_left b.right c.right (sym b.lines ∙ c.lines) in
        next_of left.packs left.all left.lines
        (each_behind b.packs (subst (Each (RightPack (tables l p))) left.all c.right))

    next_distinct : let q = next_pack in Distinct (b.packs ++ (q.pack ∷ q.others))
    next_distinct = subst Distinct next_pack.all c.distinct

  pub none_begins : a < length s → ((u v x : List ℕ) → IsLine (drop a s) u v x → ⊥) → None s l p
  none_begins h never qs c =
      let q = next_pack h c in
      never q.pack.uri q.pack.value (lines_of q.others)
      (record { uri = q.right.uri; value = value_free q.right.reading; whole = q.line ∙ laid q.pack (lines_of q.others) })

  pub too_many : a < length s → pack_limit ≤ n → None s l p
  too_many h m qs c =
      let q = next_pack h c in
      omega (arith, c.few, ap length q.all, length-append b.packs (q.pack ∷ q.others), b.count, m)

  -- ---- a line begins here

  module _ (h : a < length s) {u v x : List ℕ} (ahead : IsLine (drop a s) u v x) where
    next_is : {qs : List Pack} (c : Catalogue (tables l p) s qs) → ((next_pack h c).pack.uri ≡ u) × ((next_pack h c).pack.value ≡ v)
    next_is c =
        let q = next_pack h c in
        let t = line_parts q.right u v (lines_of q.others) x (uri_no_tab u ahead.uri) ahead.value (sym q.line ∙ ahead.whole) in
        (t.0, t.1)

    pub not_accepted : (Accepted v l p → ⊥) → None s l p
    not_accepted never qs c =
        let q = next_pack h c in
        let there : Accepted q.pack.value l p =
        record {
          links = q.pack.links;
          short = q.right.short;
          reading = q.right.reading;
          link_room = q.right.link_room;
          param_room = q.right.param_room;
        }
        in
        never (subst (λ (w : List ℕ). Accepted w l p) (next_is c).1 there)

    -- the URI of pack number k
    pub met_before : (k : ℕ) → k < n → same (uri_in s (places_at X k)) u ≡ true → None s l p
    met_before k m e qs c =
        let q = next_pack h c in
        let (r, at) = pack_there b.packs k (omega (arith, m, b.count)) in
        distinct_apart b.packs q.pack q.others (next_distinct h c) k at
        (sym (b.indexed k r at).uri ∙ same_sound _ _ e ∙ sym (next_is c).0)

  -- the index has room for those that there are
  pub held : 3 * n ≤ length X → Held s X n
  held r =
      record {
        room = r;
        placed = λ i k. let (q, at) = pack_there b.packs i (omega (arith, k, b.count)) in (b.indexed i q at).placed;
      }

  -- ---- a pack more

  module _ {q : PackPlaces} (placed : Placed s q)
      (ahead : IsLine (drop a s) (uri_in s q) (value_in s q) (drop (suc q.end.0) s)) (accepted : Accepted (value_in s q) l p)
      (others : (j : ℕ) → j < n → same (uri_in s (places_at X j)) (uri_in s q) ≡ false) (room : 3 * n + 3 ≤ length X) where
    abbrev added : Pack
    added = record { uri = uri_in s q; value = value_in s q; links = accepted.links }

    abbrev packs_now : List Pack
    packs_now = b.packs ++ (added ∷ [])

    added_right : RightPack (tables l p) added
    added_right =
        record {
          uri = ahead.uri;
          short = accepted.short;
          reading = accepted.reading;
          link_room = accepted.link_room;
          param_room = accepted.param_room;
        }

    -- no pack before has its URI
    added_absent : Absent (uri_in s q) b.packs
    added_absent =
        at_each b.packs
        (λ i r at e.
        let k = number_below b.packs i at in
        false≢true
        (sym (others i (omega (arith, k, b.count)))
        ∙ ap (λ (w : List ℕ). same w (uri_in s q)) ((b.indexed i r at).uri ∙ e) ∙ same_refl (uri_in s q)))

    lines_now : s ≡ lines_of packs_now ++ drop (suc q.end.0) s
    lines_now =
        b.lines
        ∙ ap (λ (w : List ℕ). lines_of b.packs ++ w)
        (ahead.whole ∙ sym (laid added (drop (suc q.end.0) s)))
        ∙ sym (append_assoc (lines_of b.packs) (line_of added) (drop (suc q.end.0) s))
        ∙ ap (λ (w : List ℕ). w ++ drop (suc q.end.0) s)
        (ap (λ (w : List ℕ). lines_of b.packs ++ w) (sym (append-nil (line_of added))) ∙ sym (lines_append b.packs (added ∷ [])))

    abbrev index_now : List ℕ
    index_now = sets X (3 * n) (numbers_of q)

    moved : (r : Pack) {i : ℕ} {y : PackPlaces} → places_at index_now i ≡ y → Placed s y → uri_in s y ≡ r.uri → value_in s y ≡ r.value
        → HasPlaces s index_now i r
    moved r e i u v = record { placed = subst (Placed s) (sym e) i; uri = ap (uri_in s) e ∙ u; value = ap (value_in s) e ∙ v }

    indexed_now : Indexed s index_now packs_now
    indexed_now i r at = go (last_or_before b.packs added i at)
      where
        go : ((i < length b.packs) × (pack_at b.packs i ≡ some r)) ⊎ ((i ≡ length b.packs) × (added ≡ r))
            → HasPlaces s index_now i r
        go (inl h) =
            let old = b.indexed i r h.1 in
            moved r (kept X n q i (omega (arith, h.0, b.count))) old.placed old.uri old.value
        go (inr h) =
            let here : i ≡ n = h.0 ∙ b.count in
            let place : places_at index_now i ≡ q = ap (places_at index_now) here ∙ stored X n q room in
            moved r place placed (ap (λ (x : Pack). x.uri) h.1) (ap (λ (x : Pack). x.value) h.1)

    pub one_pack_more : Begun s l p index_now (suc n) (q.end.0 + 1)
    one_pack_more =
        record {
          packs = packs_now;
          count = omega (arith, length-append b.packs (added ∷ []), b.count);
          right = each_append b.right (each_more added_right each_none);
          distinct = distinct_more added b.distinct added_absent;
          lines = lines_now ∙ ap (λ (k : ℕ). lines_of packs_now ++ drop k s) (sym (add-one q.end.0));
          indexed = indexed_now;
        }

-- ---- what looking for a line found

-- the line of a pack stands from place a on
pub record LineIn (s : List ℕ) (a : ℕ) (q : PackPlaces) : Type 0 where
  pub from : q.from.0 ≡ a
  pub placed : Placed s q
  pub line : IsLine (drop a s) (uri_in s q) (value_in s q) (drop (suc q.end.0) s)

pub line_told : {s : List ℕ} {a : ℕ} {r : Option PackPlaces} {q : PackPlaces} → LineRead s a r → r ≡ Some q → LineIn s a q
line_told {s} {a} {q = q} h e = go (subst (LineRead s a) e h)
  where
    go : LineRead s a (Some q) → LineIn s a q
    go (line f i l) = record { from = f; placed = i; line = l }

pub none_told : {s : List ℕ} {a : ℕ} {r : Option PackPlaces} → LineRead s a r → r ≡ std.None → (u v x : List ℕ) → IsLine (drop a s) u v x → ⊥
none_told {s} {a} h e = go (subst (LineRead s a) e h)
  where
    go : LineRead s a std.None → (u v x : List ℕ) → IsLine (drop a s) u v x → ⊥
    go (none f) = f

-- the parts of a pack, as the code takes them
module _ {s : List ℕ} {q : PackPlaces} (i : Placed s q) where
  pub uri_part : take (q.tab.0 - q.from.0) (drop q.from.0 s) ≡ uri_in s q
  uri_part = sym (slice_take_drop q.from.0 q.tab.0 s i.uri)

  pub value_part : take (q.end.0 - (q.tab.0 + 1)) (drop (q.tab.0 + 1) s) ≡ value_in s q
  value_part = sym (slice_take_drop (q.tab.0 + 1) q.end.0 s (omega (arith, i.value)))

-- whether a Link value is accepted, told by a flag
module _ {v w : List ℕ} {l p : ℕ} {r : Bool} (h : TellsAccepted v l p r) (e : v ≡ w) where
  pub accepted_told : r ≡ true → Accepted w l p
  accepted_told y = subst (λ (x : List ℕ). Accepted x l p) e (subst (TellsAccepted v l p) y h)

  pub accepted_denied : r ≡ false → Accepted w l p → ⊥
  accepted_denied y a = subst (TellsAccepted v l p) y h (subst (λ (x : List ℕ). Accepted x l p) (sym e) a)

-- what was found among the packs so far
module _ (s X : List ℕ) (n : ℕ) {w u : List ℕ} {r : Option PackNumber} (h : FoundBy s X n w r) (e : w ≡ u) where
  pub found_told : {k : PackNumber} → r ≡ Some k → (k.0 < n) × (same (uri_in s (places_at X k.0)) u ≡ true)
  found_told {k} y =
      let t = subst (FoundBy s X n w) y h in (t.0, ap (same (uri_in s (places_at X k.0))) (sym e) ∙ t.1)

  pub nowhere_told : r ≡ std.None → (j : ℕ) → j < n → same (uri_in s (places_at X j)) u ≡ false
  nowhere_told y j k = ap (same (uri_in s (places_at X j))) (sym e) ∙ subst (FoundBy s X n w) y h j k
