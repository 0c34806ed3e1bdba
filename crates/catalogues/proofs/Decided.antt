-- Whether a text is a catalogue is decided, and the decision can be computed. Assumes nothing.
use Prim.Native.Nat.{ℕ, zero, suc, ◌/◌, ◌≤◌, ◌<◌}
use native.Mathlib.Omega.{arith}
use native.Mathlib.Decide.{dec_le}
use mathlib.Core.Path.{◌≡◌, refl, sym, ap, subst, ◌∙◌}
use mathlib.Core.Bool.{Bool}
use mathlib.Core.Logic.Dec
use mathlib.Core.Logic.{◌⊎◌, inl, inr}
use mathlib.Core.List.{List, [], ◌∷◌, ◌++◌, map}
use mathlib.Core.Option.{Option, none, some}
use lib.ListN.{length, length-append}
use lib.Seq.{slice}
use Rattle.octets.specs.Editions.{further}
use Rattle.octets.specs.declared.editions.Edition.TheVariants.{Rfc8288}
use Rattle.references.specs.AppendixA.{uri_reference, absolute_uri}
use Rattle.grammar.specs.Link.{Link}
use Rattle.grammar.specs.Targets.{References}
use Rattle.grammar.specs.Kept.{kept_link, Reading}
use Rattle.grammar.specs.Records.{link_width, param_width, count_params}
use Rattle.grammar.specs.Machine.{gap, run, finish}
use Rattle.grammar.proofs.Editions.{apart}
use Rattle.grammar.proofs.Exact.{read_derived}
use Rattle.grammar.proofs.Readings.{one_derived, unread, read_reading}
use Rattle.tables.specs.Good.{Each, each_none, each_more}
use Rattle.outcomes.specs.Number.{limit}
use Rattle.catalogues.specs.Packs as packs
use Rattle.catalogues.specs.Packs.{
  catalogue_limit,
  pack_limit,
  Pack,
  line_of,
  lines_of,
  Room,
  RightPack,
  Absent,
  Distinct,
  one_more,
  Catalogue,
}
use Rattle.catalogues.specs.Laws.{CatalogueDecided}
use Rattle.catalogues.proofs.Lines.{laid, line_parts, same_pack}
use Rattle.catalogues.proofs.OneCatalogue.{same_packs}
use Rattle.catalogues.proofs.Deciding.{just_if, derives_decided, same_decided}
use Rattle.catalogues.proofs.FirstLine.{FirstLine, NoLine, first_line}

-- ---- a Link value

abbrev none_further : ℕ → Bool
none_further = further Rfc8288

references_decided : (v : List ℕ) (ls : List Link) → Dec (References v ls)
unfolding Dec.and
references_decided v [] = yes tt
references_decided v (l ∷ ls) =
    Dec.and (derives_decided uri_reference (slice l.target_from l.target_to v)) (references_decided v ls)

module _ (room : Room) where
  -- the links fit the work tables
  abbrev InRoom : List Link → Type 0
  InRoom K = (length K ≤ room.link_slots / link_width) × (count_params K ≤ room.param_slots / param_width)

  room_decided : (K : List Link) → Dec (InRoom K)
  unfolding Dec.and dec_le
  room_decided K = Dec.and (dec_le (length K) (room.link_slots / link_width)) (dec_le (count_params K) (room.param_slots / param_width))

  abbrev ReadsInRoom : List ℕ → Type 0
  ReadsInRoom v = (K : List Link) × Reading none_further v K × InRoom K

  -- the links R are derived; what is left to decide of them
  derived_decided : (v : List ℕ) (R : List Link) → finish (run none_further (gap []) 0 v) (length v) ≡ some R → Dec (ReadsInRoom v)
  unfolding Dec.and references_decided room_decided
  derived_decided v R e =
      just_if (λ h. (map (kept_link v) R, read_reading none_further (apart Rfc8288) v R e h.0, h.1))
      (λ f.
      let same : f.1.links ≡ R =
      one_derived none_further (apart Rfc8288) v f.1.derived (read_derived none_further (apart Rfc8288) v e)
      in
      (subst (References v) same f.1.references, subst InRoom (f.1.kept ∙ ap (map (kept_link v)) same) f.2))
      (Dec.and (references_decided v R) (room_decided (map (kept_link v) R)))

  reads_decided : (v : List ℕ) → Dec (ReadsInRoom v)
  unfolding derived_decided
  reads_decided v = go (finish (run none_further (gap []) 0 v) (length v)) refl
    where
      go : (x : Option (List Link)) → finish (run none_further (gap []) 0 v) (length v) ≡ x → Dec (ReadsInRoom v)
      go (some R) e = derived_decided v R e
      go none e = no (λ f. unread none_further (apart Rfc8288) v e f.1.links f.1.derived)

  -- ---- a pack of these octets

  -- these octets are a right pack's, with some links
  abbrev Fits : List ℕ → List ℕ → Type 0
  Fits u v = (K : List Link) × RightPack room (record { uri = u; value = v; links = K })

  pack_decided : (u v : List ℕ) → Dec (Fits u v)
  unfolding Dec.and dec_le reads_decided
  pack_decided u v =
      just_if
      (λ h. (h.1.1.0, record { uri = h.0; short = h.1.0; reading = h.1.1.1; link_room = h.1.1.2.0; param_room = h.1.1.2.1 }))
      (λ f. (f.1.uri, (f.1.short, (f.0, f.1.reading, (f.1.link_room, f.1.param_room)))))
      (Dec.and (derives_decided absolute_uri u) (Dec.and (dec_le (length v) limit) (reads_decided v)))

  -- ---- lines of packs

  -- the text is lines of right packs
  abbrev Lined : List ℕ → Type 0
  Lined w = (ps : List Pack) × (w ≡ lines_of ps) × Each (RightPack room) ps

  module _ {w : List ℕ} (l : FirstLine w) where
    together : Fits l.uri l.value × Lined l.rest → Lined w
    together h =
        let p : Pack = record { uri = l.uri; value = l.value; links = h.0.0 } in (
          p ∷ h.1.0,
          l.whole ∙ sym (laid p l.rest) ∙ ap (λ (v : List ℕ). line_of p ++ v) h.1.1,
          each_more h.0.1 h.1.2,
        )

    pub asunder : 0 < length w → (ps : List Pack) → w ≡ lines_of ps → Each (RightPack room) ps → Fits l.uri l.value × Lined l.rest
    asunder n [] e each_none = absurd (omega (arith, ap length e))
    asunder n (p ∷ ps) e (each_more h a) =
        let t = line_parts h l.uri l.value (lines_of ps) l.rest l.no_tab l.no_lf (sym e ∙ l.whole) in
        let same = same_pack p (record { uri = l.uri; value = l.value; links = p.links }) t.0 t.1 refl in
        ((p.links, subst (RightPack room) same h), (ps, sym t.2, a))

    pub rest_shorter : length l.rest < length w
    rest_shorter =
        omega (
          arith,
          ap length l.whole,
          length-append l.uri (9 ∷ (l.value ++ (10 ∷ l.rest))),
          length-append l.value (10 ∷ l.rest),
        )

  pub none_lined : {w : List ℕ} → 0 < length w → NoLine w → (ps : List Pack) → w ≡ lines_of ps → Each (RightPack room) ps → ⊥
  none_lined n f [] e each_none = omega (arith, ap length e)
  none_lined n f (p ∷ ps) e (each_more h a) = f room p (lines_of ps) h e

  -- if shorter texts are decided
  line_decided : (w : List ℕ) → 0 < length w → ((v : List ℕ) → length v < length w → Dec (Lined v)) → FirstLine w ⊎ NoLine w
      → Dec (Lined w)
  unfolding Dec.and pack_decided together
  line_decided w n more (inl l) =
      just_if (together l) (λ h. asunder l n h.0 h.1 h.2)
      (Dec.and (pack_decided l.uri l.value) (more l.rest (rest_shorter l)))
  line_decided w n more (inr f) = no (λ h. none_lined n f h.0 h.1 h.2)

  -- the text has fewer than k octets
  lines_decided : (k : ℕ) (w : List ℕ) → length w < k → Dec (Lined w)
  unfolding line_decided first_line
  lines_decided zero w h = absurd (omega arith)
  lines_decided (suc k) [] h = yes ([], refl, each_none)
  lines_decided (suc k) (c ∷ w) h = line_decided (c ∷ w) (omega arith) (λ v s. lines_decided k v (omega arith)) (first_line (c ∷ w))

-- ---- packs of a list

pub each_parts : {P : Pack → Type 0} {p : Pack} {ps : List Pack} → Each P (p ∷ ps) → P p × Each P ps
each_parts (each_more h a) = (h, a)

absent_decided : (w : List ℕ) (ps : List Pack) → Dec (Absent w ps)
unfolding Dec.and Dec.not
absent_decided w [] = yes each_none
absent_decided w (p ∷ ps) =
    just_if (λ h. each_more h.0 h.1) each_parts (Dec.and (Dec.not (same_decided p.uri w)) (absent_decided w ps))

pub distinct_parts : {p : Pack} {ps : List Pack} → Distinct (p ∷ ps) → Absent p.uri ps × Distinct ps
distinct_parts (one_more a d) = (a, d)

distinct_decided : (ps : List Pack) → Dec (Distinct ps)
unfolding Dec.and absent_decided
distinct_decided [] = yes packs.none
distinct_decided (p ∷ ps) =
    just_if (λ h. one_more h.0 h.1) distinct_parts (Dec.and (absent_decided p.uri ps) (distinct_decided ps))

unfoldable pub catalogue_decided : CatalogueDecided
unfolding Dec.and dec_le lines_decided distinct_decided
catalogue_decided room text = go (lines_decided room (suc (length text)) text (omega arith))
  where
    go : Dec (Lined room text) → Dec ((ps : List Pack) × Catalogue room text ps)
    go (yes h) =
        just_if
        (λ d. (h.0, record { short = d.0; lines = h.1; few = d.1.0; right = h.2; distinct = d.1.1 }))
        (λ c. (
          c.1.short,
          subst (λ (qs : List Pack). (length qs ≤ pack_limit) × Distinct qs)
              (same_packs c.1.right h.2 (sym c.1.lines ∙ h.1)) (c.1.few, c.1.distinct),
        ))
        (Dec.and (dec_le (length text) catalogue_limit) (Dec.and (dec_le (length h.0) pack_limit) (distinct_decided h.0)))
    go (no n) = no (λ c. n (c.0, c.1.lines, c.1.right))
