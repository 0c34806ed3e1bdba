-- The rows of titles hold: each test is computed.
use native.Mathlib.Omega.{arith}
use Prim.Native.Nat.{ℕ, ◌≤◌, ◌<◌}
use mathlib.Core.Path.{◌≡◌, refl, ap, subst, ◌∙◌}
use mathlib.Core.Logic.{◌⊎◌, inl, inr, ⊎_elim}
use mathlib.Core.Bool.{Bool, true, false, ◌&&◌, ◌||◌, false≢true}
use mathlib.Core.List.{List, [], ◌∷◌}
use mathlib.Core.Option.{Option, none, some}
use lib.Dec.{leb, ltb, eqb}
use lib.ListN.{length}
use borrow.Author.Tests.{leb-true, ltb-true, eqb-true}
use Rattle.octets.specs.Sets.{is_blank, is_digit, is_letter, is_token, is_plain, is_escapable, is_target, is_hex, is_older}
use Rattle.octets.specs.Fold.{fold, same}
use Rattle.octets.specs.Text.{octets}
use Rattle.octets.specs.Editions.{number_of}
use Rattle.octets.specs.declared.editions.Edition.{Edition}
use Rattle.octets.specs.declared.editions.Edition.TheVariants.{Rfc8288, Rfc5988}
use Rattle.octets.proofs.Laws.{same_sound}
use Rattle.octets.proofs.Octets.{both}
use Rattle.extended.specs.Value.{is_language, is_attribute, hex_value}
use Rattle.extended.specs.Decoded.{decoded}
use Rattle.extended.proofs.Exact.{decoded_exact}
use Rattle.grammar.specs.Link.{Param}
use Rattle.grammar.specs.Kept.{name_of, code_of, is_once}
use Rattle.tables.specs.Table.{Table}
use Rattle.tables.specs.Good.{Each, each_none, each_more}
use Rattle.tables.specs.Meaning.{unescape, value_of}
use Rattle.outcomes.specs.Number.{limit, no_output_room_number, no_such_link_number, not_found_number}
use Rattle.outcomes.specs.InEdition.{known}
use Rattle.outcomes.specs.Usable.{Usable, usable}
use Rattle.outcomes.specs.Kept.{kept}
use Rattle.outcomes.specs.Copy.{untouched}
use Rattle.outcomes.specs.Title
use Rattle.outcomes.specs.Title.{Decoded, Undecoded, Title, plain, Untitled, Titles, no_such_link, untitled, no_room, titled}
use Rattle.outcomes.proofs.Options.{not_none, same_some}
use Rattle.laws.specs.Row.{recorded_table}
use Rattle.laws.specs.Titles.{Asked, gives, answers, under, TitleRow, AnsweredIn, Answered, TitleRowHolds, titles}
use Rattle.laws.specs.Laws.{TitlesHold}
use Rattle.laws.proofs.Checked.{recorded, recorded_known}
use Rattle.laws.proofs.Stopped.{read, either}

-- ---- a title is computed

abbrev decoded_of : List ℕ → Option Param → Option (List ℕ)
decoded_of s none = none
decoded_of s (some p) = decoded (value_of s p)

abbrev plain_of : List ℕ → Option Param → Option (List ℕ)
plain_of s none = none
plain_of s (some p) = some (value_of s p)

abbrev first : Option (List ℕ) → Option (List ℕ) → Option (List ℕ)
first none y = y
first (some v) y = some v

module _ (t : Table) (i : ℕ) where
  -- what `title*` gives
  abbrev star : Option (List ℕ)
  star = decoded_of t.text (kept t i (octets "title*"))

  abbrev title_of : Option (List ℕ)
  title_of = first star (plain_of t.text (kept t i (octets "title")))

  is_decoded : (v : List ℕ) → star ≡ some v → Decoded t i v
  is_decoded v = go (kept t i (octets "title*")) refl
    where
      go : (o : Option Param) → kept t i (octets "title*") ≡ o → decoded_of t.text o ≡ some v → Decoded t i v
      go none k e = absurd (not_none e refl)
      go (some p) k e = record { param = p; is_kept = k; right = decoded_exact.right (value_of t.text p) v e }

  is_undecoded : star ≡ none → Undecoded t i
  is_undecoded e v d =
      not_none (ap (decoded_of t.text) d.is_kept ∙ decoded_exact.all (value_of t.text d.param) v d.right) e

  title_is : (v : List ℕ) → title_of ≡ some v → Title t i v
  title_is v = go star refl (kept t i (octets "title")) refl
    where
      go : (x : Option (List ℕ)) → star ≡ x → (o : Option Param) → kept t i (octets "title") ≡ o → first x (plain_of t.text o) ≡ some v
          → Title t i v
      go (some u) s o k e = subst (Title t i) (same_some refl e) (Title.decoded (is_decoded u s))
      go none s none k e = absurd (not_none e refl)
      go none s (some p) k e = plain (is_undecoded s) k (same_some e refl)

  untitled_is : title_of ≡ none → Untitled t i
  untitled_is = go star refl (kept t i (octets "title")) refl
    where
      go : (x : Option (List ℕ)) → star ≡ x → (o : Option Param) → kept t i (octets "title") ≡ o → first x (plain_of t.text o) ≡ none
          → Untitled t i
      go (some u) s o k e = absurd (not_none refl e)
      go none s (some p) k e = absurd (not_none refl e)
      go none s none k e = record { undecoded = is_undecoded s; no_title = k }

-- ---- the tests

abbrev is_given : List ℕ → Option (List ℕ) → Bool
is_given v none = false
is_given v (some u) = same u v

abbrev is_none : Option (List ℕ) → Bool
is_none none = true
is_none (some v) = false

abbrev is_long : ℕ → Option (List ℕ) → Bool
is_long k none = false
is_long k (some v) = leb k (length v)

-- the number of a link that isn't there, or has no title
abbrev is_refused : Table → ℕ → ℕ → Bool
is_refused t i n = eqb n no_such_link_number && leb t.link_count i || eqb n not_found_number && ltb i t.link_count && is_none (title_of t i)

-- that of a title that doesn't fit, where buffers have fewer octets than told
abbrev is_short : Table → Option ℕ → ℕ → ℕ → Bool
is_short t none i n = false
is_short t (some k) i n = eqb n no_output_room_number && ltb i t.link_count && is_long k (title_of t i)

abbrev answers_to : Table → Option ℕ → Asked → Bool
answers_to t b (gives i v) = ltb i t.link_count && is_given v (title_of t i)
answers_to t b (answers i n) = is_refused t i n || is_short t b i n
answers_to t b (under k q) = answers_to t (some k) q

abbrev all_answer : Table → List Asked → Bool
all_answer t [] = true
all_answer t (q ∷ qs) = answers_to t none q && all_answer t qs

abbrev checks : Edition → TitleRow → Bool
checks e r =
    leb (length r.header) limit && recorded r.header r.links r.params (read e r.header)
    && all_answer (recorded_table r.header r.links r.params) r.asked

abbrev all_check : Edition → List TitleRow → Bool
all_check e [] = true
all_check e (r ∷ rs) = checks e r && all_check e rs

-- ---- what they show

is_given_lem : (v : List ℕ) (o : Option (List ℕ)) → is_given v o ≡ true → o ≡ some v
is_given_lem v none e = absurd (false≢true e)
is_given_lem v (some u) e = ap some (same_sound u v e)

is_none_lem : (o : Option (List ℕ)) → is_none o ≡ true → o ≡ none
is_none_lem none e = refl
is_none_lem (some v) e = absurd (false≢true e)

is_long_lem : (k : ℕ) (o : Option (List ℕ)) → is_long k o ≡ true → (v : List ℕ) × (o ≡ some v) × (k ≤ length v)
is_long_lem k none e = absurd (false≢true e)
is_long_lem k (some v) e = (v, refl, leb-true k (length v) e)

-- the buffer has fewer octets than told
abbrev Below : Option ℕ → List ℕ → Type 0
Below none out = Unit {0}
Below (some k) out = length out < k

module _ (e : Edition) (t : Table) (u : Usable e t) where
  refused_so : (i n : ℕ) → is_refused t i n ≡ true → (out : List ℕ) → Titles (number_of e) t i out (untouched out n)
  refused_so i n x out = go (either (eqb n no_such_link_number && leb t.link_count i) _ x)
    where
      go : ((eqb n no_such_link_number && leb t.link_count i) ≡ true) ⊎ ((eqb n not_found_number && ltb i t.link_count && is_none (title_of t i)) ≡ true)
          → Titles (number_of e) t i out (untouched out n)
      go (inl y) =
          let (q, l) = both (eqb n no_such_link_number) (leb t.link_count i) y in
          rw (eqb-true n no_such_link_number q) (known {e = e} refl (usable u (no_such_link (leb-true t.link_count i l))))
      go (inr y) =
          let (ql, z) = both (eqb n not_found_number && ltb i t.link_count) (is_none (title_of t i)) y in
          let (q, l) = both (eqb n not_found_number) (ltb i t.link_count) ql in
          rw (eqb-true n not_found_number q)
          (known {e = e} refl (usable u (untitled (ltb-true i t.link_count l) (untitled_is t i (is_none_lem (title_of t i) z)))))

  short_so : (b : Option ℕ) (i n : ℕ) → is_short t b i n ≡ true → (out : List ℕ) → Below b out
      → Titles (number_of e) t i out (untouched out n)
  short_so none i n x out below = absurd (false≢true x)
  short_so (some k) i n x out below =
      let (ql, z) = both (eqb n no_output_room_number && ltb i t.link_count) (is_long k (title_of t i)) x in
      let (q, l) = both (eqb n no_output_room_number) (ltb i t.link_count) ql in
      let (v, g, m) = is_long_lem k (title_of t i) z in
      rw (eqb-true n no_output_room_number q)
      (known {e = e} refl (usable u (no_room (ltb-true i t.link_count l) (title_is t i v g) (omega (arith, m, below)))))

  answered : (b : Option ℕ) (q : Asked) → answers_to t b q ≡ true → (out : List ℕ) → Below b out → AnsweredIn e t out q
  answered b (gives i v) x out below =
      let (l, g) = both (ltb i t.link_count) (is_given v (title_of t i)) x in
      λ room. known {e = e} refl (usable u (titled (ltb-true i t.link_count l) (title_is t i v (is_given_lem v (title_of t i) g)) room))
  answered b (answers i n) x out below =
      ⊎_elim (λ y. refused_so i n y out) (λ y. short_so b i n y out below) (either (is_refused t i n) (is_short t b i n) x)
  answered b (under k q) x out below = λ short. answered (some k) q x out short

  all_answered : (qs : List Asked) → all_answer t qs ≡ true → Each (Answered e t) qs
  all_answered [] x = each_none
  all_answered (q ∷ qs) x =
      let (y, z) = both (answers_to t none q) (all_answer t qs) x in
      each_more (λ out. answered none q y out tt) (all_answered qs z)

module _ (e : Edition) where
  row_holds : (r : TitleRow) → checks e r ≡ true → TitleRowHolds e r
  row_holds r x =
      let t = recorded_table r.header r.links r.params in
      let (sr, a) =
      both (leb (length r.header) limit && recorded r.header r.links r.params (read e r.header)) (all_answer t r.asked) x
      in
      let (s, k) = both (leb (length r.header) limit) (recorded r.header r.links r.params (read e r.header)) sr in
      let known = recorded_known e r.header r.links r.params (leb-true (length r.header) limit s) k in
      record { fills = known.fills; answered = all_answered e t known.may_use r.asked a }

  rows_hold : (rs : List TitleRow) → all_check e rs ≡ true → Each (TitleRowHolds e) rs
  rows_hold [] x = each_none
  rows_hold (r ∷ rs) x = let (y, z) = both (checks e r) (all_check e rs) x in each_more (row_holds r y) (rows_hold rs z)

pub titles_hold : TitlesHold
unfolding is_blank is_digit is_letter is_token is_plain is_escapable is_target is_hex is_older fold name_of code_of is_once unescape value_of is_language is_attribute hex_value decoded
titles_hold Rfc8288 = rows_hold Rfc8288 titles refl
titles_hold Rfc5988 = rows_hold Rfc5988 titles refl
