-- What entries answer to one another's results.
use Prim.Native.Nat.{ℕ, ◌+◌, ◌*◌, ◌≤◌, ◌<◌}
use native.Mathlib.Omega.{arith}
use mathlib.Core.Path.{◌≡◌, refl, sym, ap, ap₂, subst, ◌∙◌}
use mathlib.Core.Logic.{◌⊎◌, inl, inr}
use mathlib.Core.List.{List, [], ◌∷◌, ◌++◌, map}
use lib.ListN.{length, take, drop, length-append}
use lib.Seq.{take_at, take-append_seam}
use Rattle.octets.specs.Editions.{number_of, further}
use Rattle.octets.specs.declared.editions.Edition.{Edition}
use Rattle.octets.specs.declared.editions.Edition.TheVariants.{Rfc8288, Rfc5988}
use Rattle.octets.proofs.Further.{no_backslash}
use Rattle.grammar.specs.Link.{Link}
use Rattle.grammar.specs.Kept.{Reading}
use Rattle.grammar.specs.Records.{link_width, param_width, link_room_of, param_room_of, link_records, param_records, count_params}
use Rattle.grammar.specs.Place.{Malformed, Place, MalformedAt}
use Rattle.grammar.specs.Join
use Rattle.grammar.specs.Join.{Padded, padded, join, raise_links, raise_params, Readable}
use Rattle.grammar.proofs.Editions.{apart, reading_alike}
use Rattle.grammar.proofs.Joining.{joins}
use Rattle.tables.specs.Table.{Table}
use Rattle.tables.specs.Good.{Good}
use Rattle.tables.specs.Meaning.{meanings, table_meanings}
use Rattle.tables.proofs.Filled.{link_records_length, param_records_length}
use Rattle.tables.proofs.FromReading.{read_good}
use Rattle.tables.proofs.GoodAlike.{good_alike}
use Rattle.tables.proofs.ReadBack.{read_back, written_tells}
use Rattle.outcomes.specs.Number.{limit, done, malformed_header_number, bad_table_number}
use Rattle.outcomes.specs.InEdition.{known}
use Rattle.outcomes.specs.Usable.{TableIn, OverTable, refused, usable, long_text, not_good}
use Rattle.outcomes.specs.Read
use Rattle.outcomes.specs.Read.{ReadOut, filled, ReadIn, too_long, not_derived, no_link_room, no_param_room, reads}
use Rattle.outcomes.specs.Search.{SearchOut}
use Rattle.outcomes.specs.Context.{ContextOut}
use Rattle.outcomes.specs.Copy.{CopyOut, untouched}
use Rattle.outcomes.specs.ResolvedContext.{ContextIn, long_base, over_table}
use Rattle.outcomes.specs.Write.{Wrote, written_form, no_relation, long_form, no_room, wrote}
use Rattle.outcomes.proofs.InEdition.{in_known}
use Rattle.outcomes.proofs.ReadSettled.{read_in}
use Rattle.laws.specs.Answers.{
  Accepted,
  pads,
  join_of,
  link_records_of,
  param_records_of,
  link_sum,
  param_sum,
  joined_links,
  joined_params,
  JoinAnswers,
  JoinRefuses,
  ReadsAlike,
  TablesAlike,
}
use Rattle.laws.specs.Answers.{Rejected, broken_join, octets_before, PlaceSettled, JoinRefused}
use Rattle.laws.specs.Answers.{octets_of, read_table, BackAnswers, WrittenApart}
use Rattle.laws.proofs.Front.{front, tail, join_at, pads_of}
use Rattle.laws.proofs.Broken.{malformed_among, not_before, at_place}

-- ---- what an answer tells of the input, in the edition ed

module _ (ed : Edition) where
  -- reading answered 0: the header has a reading, and its records are filled in
  record Filled (h L P : List ℕ) (out : ReadOut) : Type 0 where
    links : List Link
    reading : Reading (further ed) h links
    is : out ≡ filled h L P links

  read_done : {h L P : List ℕ} {out : ReadOut} → ReadIn ed h L P out → out.number ≡ done → Filled h L P out
  read_done (too_long l) e = absurd (omega arith)
  read_done (not_derived s m) e = absurd (omega arith)
  read_done (no_link_room s r l) e = absurd (omega arith)
  read_done (no_param_room s r l m) e = absurd (omega arith)
  read_done (reads {K = K} s r l m) e = record { links = K; reading = r; is = refl }

  -- it answered 2: the header is malformed, at the place answered
  record Fails (h L P : List ℕ) (out : ReadOut) : Type 0 where
    at : MalformedAt (further ed) h out.place
    is : out ≡ Read.refused L P malformed_header_number out.place

  read_malformed : {h L P : List ℕ} {out : ReadOut} → ReadIn ed h L P out → out.number ≡ malformed_header_number → Fails h L P out
  read_malformed (too_long l) e = absurd (omega arith)
  read_malformed (not_derived s m) e = record { at = m; is = refl }
  read_malformed (no_link_room s r l) e = absurd (omega arith)
  read_malformed (no_param_room s r l m) e = absurd (omega arith)
  read_malformed (reads s r l m) e = absurd (omega arith)

  -- a malformed header of at most 8,192 octets answers so
  malformed_read : {h L P : List ℕ} {out : ReadOut} → length h ≤ limit → Malformed (further ed) h → ReadIn ed h L P out → Fails h L P out
  malformed_read s m (too_long l) = absurd (omega arith)
  malformed_read s m (not_derived _ p) = record { at = p; is = refl }
  malformed_read s m (no_link_room _ d l) = absurd (m d.links d.derived d.references)
  malformed_read s m (no_param_room _ d l k) = absurd (m d.links d.derived d.references)
  malformed_read s m (reads _ d l k) = absurd (m d.links d.derived d.references)

  -- reading answers nothing else
  one_answer : {h L P : List ℕ} {out : ReadOut} → ReadIn ed h L P out → (r : ReadOut) → ReadIn ed h L P r → r ≡ out
  one_answer {h} {L} {P} {out} a r b =
      let one = (read_in ed h L P).2 in
      one r b ∙ sym (one out a)

  -- ---- joining

  -- the header with its reading
  readable : Accepted ed → Readable (further ed)
  readable a =
      let f = read_done (in_known refl a.alone.answered) a.accepted in
      record { pad = a.alone.pad; reading = f.links; reads = f.reading }

  -- the counts and the records answered are those of the reading
  record Agrees (a : Accepted ed) (K : List Link) : Type 0 where
    link_count : a.alone.out.links ≡ length K
    param_count : a.alone.out.params ≡ count_params K
    records_of_links : link_records_of a ≡ link_records 0 K
    records_of_params : param_records_of a ≡ param_records a.alone.pad.header K

  agrees : (a : Accepted ed) → Agrees a (readable a).reading
  unfolding readable
  agrees a =
      let f = read_done (in_known refl a.alone.answered) a.accepted in
      let K = f.links in
      record {
        link_count = ap (λ (o : ReadOut). o.links) f.is;
        param_count = ap (λ (o : ReadOut). o.params) f.is;
        records_of_links =
            ap (λ (o : ReadOut). take (link_width * o.links) o.link_slots) f.is
            ∙ take_at (link_records 0 K) _ (link_width * length K) (link_records_length 0 K);
        records_of_params =
            ap (λ (o : ReadOut). take (param_width * o.params) o.param_slots) f.is
            ∙ take_at (param_records a.alone.pad.header K) _ (param_width * count_params K)
            (param_records_length a.alone.pad.header K);
      }

  same_pads : (hs : List (Accepted ed))
      → pads_of (further ed) (apart ed) (map readable hs) ≡ pads hs
  unfolding readable
  same_pads [] = refl
  same_pads (a ∷ hs) = ap (λ (ps : List Padded). a.alone.pad ∷ ps) (same_pads hs)

  same_link_sum : (hs : List (Accepted ed)) → Join.link_sum (further ed) (map readable hs) ≡ link_sum hs
  same_link_sum [] = refl
  same_link_sum (a ∷ hs) = ap₂ (λ (x y : ℕ). x + y) (sym (agrees a).link_count) (same_link_sum hs)

  same_param_sum : (hs : List (Accepted ed)) → Join.param_sum (further ed) (map readable hs) ≡ param_sum hs
  same_param_sum [] = refl
  same_param_sum (a ∷ hs) = ap₂ (λ (x y : ℕ). x + y) (sym (agrees a).param_count) (same_param_sum hs)

  same_links : (k m : ℕ) (hs : List (Accepted ed)) → Join.joined_links (further ed) k m (map readable hs) ≡ joined_links k m hs
  unfolding readable
  same_links k m [] = refl
  same_links k m (a ∷ hs) =
      ap₂ (λ (x y : List ℕ). x ++ y) (ap (raise_links (k + length a.alone.pad.left) m) (sym (agrees a).records_of_links))
      (ap (λ (n : ℕ). Join.joined_links (further ed) (k + length (padded a.alone.pad) + 1) (m + n) (map readable hs))
      (sym (agrees a).param_count)
      ∙ same_links (k + length (padded a.alone.pad) + 1) (m + a.alone.out.params) hs)

  same_params : (k : ℕ) (hs : List (Accepted ed)) → Join.joined_params (further ed) k (map readable hs) ≡ joined_params k hs
  unfolding readable
  same_params k [] = refl
  same_params k (a ∷ hs) =
      ap₂ (λ (x y : List ℕ). x ++ y) (ap (raise_params (k + length a.alone.pad.left)) (sym (agrees a).records_of_params))
      (same_params (k + length (padded a.alone.pad) + 1) hs)

  joined : (hs : List (Accepted ed)) (L P : List ℕ) → length (join_of hs) ≤ limit → link_sum hs ≤ link_room_of L
      → param_sum hs ≤ param_room_of P → (r : ReadOut) → ReadIn ed (join_of hs) L P r
      → r
      ≡ record {
        number = done;
        place = 0;
        links = link_sum hs;
        params = param_sum hs;
        link_slots = joined_links 0 0 hs ++ drop (link_width * link_sum hs) L;
        param_slots = joined_params 0 hs ++ drop (param_width * param_sum hs) P;
      }
  joined hs L P short links params r a =
      let j = joins (further ed) (apart ed) (map readable hs) in
      let reading : Reading (further ed) (join_of hs) j.links =
      subst (λ (ps : List Padded). Reading (further ed) (join ps) j.links) (same_pads hs) j.reads
      in
      let n : link_sum hs ≡ length j.links = sym (j.link_count ∙ same_link_sum hs) in
      let m : param_sum hs ≡ count_params j.links = sym (j.param_count ∙ same_param_sum hs) in
      rw (
        n,
        m,
        sym (j.records_of_links ∙ same_links 0 0 hs),
        sym
            (ap (λ (ps : List Padded). param_records (join ps) j.links) (sym (same_pads hs)) ∙ j.records_of_params ∙ same_params 0 hs),
      )
      (one_answer (reads short reading (omega arith) (omega arith)) r a)

  long_front : (hs : List (Accepted ed)) (b : Rejected ed) → length (front (pads hs) b.alone.pad.left) ≡ octets_before hs b
  long_front [] b = refl
  long_front (a ∷ hs) b =
      let p = padded a.alone.pad in
      let f = front (pads hs) b.alone.pad.left in
      omega (arith, length-append p (44 ∷ f), long_front hs b)

  broken : (hs : List (Accepted ed)) (b : Rejected ed) (gs : List (Accepted ed)) (L P : List ℕ) → length (broken_join hs b gs) ≤ limit
      → (r : ReadOut) → ReadIn ed (broken_join hs b gs) L P r → JoinRefused hs b gs L P r
  broken hs b gs L P short r a =
      record {
        answer = fails.is;
        not_before =
            omega (
              arith,
              before,
              not_before (further ed) (apart ed) (no_backslash ed) H q G b.alone.out.place r.place bad.at.place place,
            );
        place =
            λ c. at_place (further ed) (apart ed) (no_backslash ed) H q G b.alone.out.place r.place bad.at.place place (shown c)
            ∙ ap (λ (n : ℕ). n + b.alone.out.place) before;
      }
    where
      q : Padded
      q = b.alone.pad

      H : List (Readable (further ed))
      H = map readable hs

      G : List (Readable (further ed))
      G = map readable gs

      -- the join, as what stands before the malformed header, the header, and what stands behind it
      text : List Padded → List Padded → List ℕ
      text ps qs = front ps q.left ++ (q.header ++ (q.right ++ tail qs))

      parted : broken_join hs b gs ≡ text (pads_of (further ed) (apart ed) H) (pads_of (further ed) (apart ed) G)
      parted = join_at (pads hs) q (pads gs) ∙ sym (ap₂ text (same_pads hs) (same_pads gs))

      bad : Fails q.header b.alone.link_slots b.alone.param_slots b.alone.out
      bad = read_malformed (in_known refl b.alone.answered) b.malformed

      fails : Fails (broken_join hs b gs) L P r
      fails =
          malformed_read short
          (subst (Malformed (further ed)) (sym parted)
          (malformed_among (further ed) (apart ed) (no_backslash ed) H q G bad.at)) a

      place : Place (further ed) (text (pads_of (further ed) (apart ed) H) (pads_of (further ed) (apart ed) G)) r.place
      place = subst (λ (s : List ℕ). Place (further ed) s r.place) parted fails.at.place

      before : length (front (pads_of (further ed) (apart ed) H) q.left) ≡ octets_before hs b
      before = ap (λ (ps : List Padded). length (front ps q.left)) (same_pads hs) ∙ long_front hs b

      shown : PlaceSettled b gs
          → (b.alone.out.place < length q.header) ⊎ (q.right ++ tail (pads_of (further ed) (apart ed) G) ≡ [])
      shown (inl l) = inl l
      shown (inr (e, z)) =
          inr
          (ap (λ (qs : List Padded). q.right ++ tail qs) (same_pads gs)
          ∙ ap₂ (λ (x : List ℕ) (ys : List (Accepted ed)). x ++ tail (pads ys)) e z)

pub join_answers : JoinAnswers
join_answers ed hs L P short links params r a = joined ed hs L P short links params r (in_known refl a)

pub join_refuses : JoinRefuses
join_refuses ed hs b gs L P short r a = broken ed hs b gs L P short r (in_known refl a)

-- ---- reading back

-- writing answered 0: the table is good, its form is short enough, and the octets are that form
record Written (ed : Edition) (t : Table) (out : CopyOut) : Type 0 where
  good : Good (further ed) t
  short : length (written_form t) ≤ limit
  is : take out.count out.buffer ≡ written_form t

write_done : {ed : Edition} {t : Table} {b : List ℕ} {out : CopyOut} → TableIn t (untouched b) (Wrote t b) ed out
    → out.number ≡ done → Written ed t out
write_done (refused (long_text l)) e = absurd (omega arith)
write_done (refused (not_good s g)) e = absurd (omega arith)
write_done (usable u (no_relation l r)) e = absurd (omega arith)
write_done (usable u (long_form r l)) e = absurd (omega arith)
write_done (usable u (no_room r s l)) e = absurd (omega arith)
write_done {t = t} (usable u (wrote r s l)) e = record { good = u.good; short = s; is = take-append_seam (written_form t) _ }

pub back_answers : BackAnswers
back_answers ed d t w L P links params r a =
    let x = write_done {ed = ed} (in_known refl w.answered) w.accepted in
    let b = read_back ed t x.good in
    let K = b.links in
    let f = written_form t in
    let read : ReadIn d (octets_of w) L P (filled (octets_of w) L P K) =
    subst (λ (s : List ℕ). ReadIn d s L P (filled s L P K)) (sym x.is)
    (reads x.short (b.reads d) (omega (arith, b.link_count)) (omega (arith, b.param_count)))
    in
    let e : r ≡ filled f L P K =
    one_answer d read r (in_known refl a) ∙ ap (λ (s : List ℕ). filled s L P K) x.is
    in (
      ap (λ (o : ReadOut). o.number) e,
      ap (λ (o : ReadOut). o.links) e ∙ b.link_count,
      ap (λ (o : ReadOut). o.params) e ∙ b.param_count,
      ap₂ (λ (s : List ℕ) (o : ReadOut). table_meanings (read_table s o)) x.is e
          ∙ ap (meanings f)
          (read_good (further d) f K (drop (link_width * length K) L) (drop (param_width * count_params K) P) (b.reads d)).same_links
          ∙ b.same_meanings,
    )

pub written_apart : WrittenApart
written_apart ed d t u w x e =
    let a = write_done {ed = ed} (in_known refl w.answered) w.accepted in
    let b = write_done {ed = d} (in_known refl x.answered) x.accepted in
    written_tells ed d t u a.good b.good (sym a.is ∙ e ∙ b.is)

-- ---- the editions

-- what one answers of a header that it doesn't find malformed
alike : {h L P : List ℕ} {o : ReadOut} → ReadIn Rfc8288 h L P o → (o.number ≡ malformed_header_number → ⊥) → ReadIn Rfc5988 h L P o
alike (too_long l) n = too_long l
alike (not_derived s m) n = absurd (n refl)
alike (no_link_room s r l) n = no_link_room s (reading_alike (further Rfc5988) r) l
alike (no_param_room s r l m) n = no_param_room s (reading_alike (further Rfc5988) r) l m
alike (reads s r l m) n = reads s (reading_alike (further Rfc5988) r) l m

pub reads_alike : ReadsAlike
reads_alike h L P o q a n b = one_answer Rfc5988 (alike (in_known refl a) n) q (in_known refl b)

-- what is answered of a table that is good in the one is answered in the other
table_alike : {A : Type 0} {t : Table} {refusal : ℕ → A} {Out : A → Type 0} {o : A} → TableIn t refusal Out Rfc8288 o
    → (o ≡ refusal bad_table_number → ⊥) → TableIn t refusal Out Rfc5988 o
table_alike (refused (long_text l)) n = refused (long_text l)
table_alike (refused (not_good s g)) n = absurd (n refl)
table_alike {t = t} (usable u x) n = usable (record { short = u.short; good = good_alike Rfc8288 t u.good }) x

over_alike : {A : Type 0} {t : Table} {refusal : ℕ → A} {Out : A → Type 0} {o : A} → OverTable (number_of Rfc8288) t refusal Out o
    → (o ≡ refusal bad_table_number → ⊥) → OverTable (number_of Rfc5988) t refusal Out o
over_alike d n = known {e = Rfc5988} refl (table_alike (in_known refl d) n)

-- a base that is too long comes before the table
context_alike : {t : Table} {base : List ℕ} {i : ℕ} {out : List ℕ} {o : CopyOut} → ContextIn t base i out Rfc8288 o
    → (o ≡ untouched out bad_table_number → ⊥) → ContextIn t base i out Rfc5988 o
context_alike (long_base l) n = long_base l
context_alike (over_table h z) n = over_table h (table_alike z n)

pub tables_alike : TablesAlike
tables_alike =
    record {
      search = λ t q o d n. over_alike d (λ e. n (ap (λ (w : SearchOut). w.number) e));
      context = λ t base i o d n. over_alike d (λ e. n (ap (λ (w : ContextOut). w.number) e));
      copy = λ t i j out o d n. over_alike d (λ e. n (ap (λ (w : CopyOut). w.number) e));
      write = λ t out o d n. over_alike d (λ e. n (ap (λ (w : CopyOut). w.number) e));
      title = λ t i out o d n. over_alike d (λ e. n (ap (λ (w : CopyOut). w.number) e));
      resolved_context = λ t base i out o d n. known {e = Rfc5988} refl
          (context_alike (in_known refl d) (λ e. n (ap (λ (w : CopyOut). w.number) e)));
    }
