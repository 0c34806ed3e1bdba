-- What is proved over all the definitions.
use Rattle.std.specs.Prelude.{ℕ, ◌≤◌, ◌<◌, refl, List, [], ◌∷◌, length}
use Rattle.octets.specs.Text.{octets}
use Rattle.octets.specs.Editions.{number_of, further}
use Rattle.octets.specs.declared.editions.Edition.{Edition}
use Rattle.octets.specs.declared.editions.Edition.TheVariants.{Rfc8288, Rfc5988}
use Rattle.grammar.specs.Link.{Link}
use Rattle.grammar.specs.Targets.{ReferenceAt}
use Rattle.grammar.specs.Kept.{Reading}
use Rattle.grammar.specs.Place.{Malformed}
use Rattle.grammar.specs.Join.{Padded, join}
use Rattle.tables.specs.Good.{Each, Agrees}
use Rattle.tables.specs.Table.{Table, link_at}
use Rattle.outcomes.specs.Number.{limit, done, bad_table_number, no_such_link_number, not_found_number}
use Rattle.outcomes.specs.Context.{of_text, of_base, nothing, Context}
use Rattle.outcomes.specs.Search.{Search}
use Rattle.outcomes.specs.Copy.{untouched, holding, Copy}
use Rattle.outcomes.specs.Write.{Write}
use Rattle.outcomes.specs.Title.{Titles}
use Rattle.outcomes.specs.ResolvedContext.{ResolvedContext}
use Rattle.laws.specs.Row.{recorded_table, RowHolds}
use Rattle.laws.specs.Marked.{marked}
use Rattle.laws.specs.Slips.{slips}
use Rattle.laws.specs.Older.{older, older_refused}
use Rattle.laws.specs.References.{references, bare_read, bare_refused, unfit_tables}
use Rattle.laws.specs.Titles.{TitleRowHolds, titles}

abbrev pub third : Table
third =
    recorded_table (octets "</terms>; rel=\"copyright\"; anchor=\"#foo\"") (1 ∷ 7 ∷ 0 ∷ 2 ∷ [])
    (10 ∷ 13 ∷ 15 ∷ 24 ∷ 2 ∷ 1 ∷ 27 ∷ 33 ∷ 35 ∷ 39 ∷ 2 ∷ 2 ∷ [])

abbrev pub fifth : Table
fifth = recorded_table (octets "<a>;REL=Next;rel=prev") (1 ∷ 2 ∷ 0 ∷ 1 ∷ []) (4 ∷ 7 ∷ 8 ∷ 12 ∷ 1 ∷ 1 ∷ [])

-- a table of the older edition
abbrev pub mirror : Table
mirror =
    recorded_table (octets "<a>;anchor=/b;rel=http://c/d") (1 ∷ 2 ∷ 0 ∷ 2 ∷ [])
    (4 ∷ 10 ∷ 11 ∷ 13 ∷ 3 ∷ 2 ∷ 14 ∷ 17 ∷ 18 ∷ 28 ∷ 3 ∷ 1 ∷ [])

-- every marked header is as it was read by hand, in RFC 8288's edition
abbrev pub MarkedHold : Type 0
MarkedHold = Each (RowHolds Rfc8288) marked

-- so is every header at which readers elsewhere slip, in each edition
abbrev pub SlipsHold : Type 0
SlipsHold = (e : Edition) → Each (RowHolds e) slips

-- and so are headers with bare values, in the older edition, and in RFC 8288's
pub record OlderHold : Type 0 where
  pub in_older : Each (RowHolds Rfc5988) older
  pub in_newer : Each (RowHolds Rfc8288) older_refused

-- and so are headers whose targets are references or none, in each edition, and where a bare value could be taken for a target
pub record ReferencesHold : Type 0 where
  pub in_each : (e : Edition) → Each (RowHolds e) references
  pub in_older : Each (RowHolds Rfc5988) bare_read
  pub in_newer : Each (RowHolds Rfc8288) bare_refused

-- and so are headers with titles, and what their links answer, in each edition
abbrev pub TitlesHold : Type 0
TitlesHold = (e : Edition) → Each (TitleRowHolds e) titles

-- Of the third marked header: the context of its link is the `anchor` value as written, and its values are copied with their octets
-- alone. Of the fifth: a link without `anchor` has the whole base. So in each edition.
pub record LookupsHold (e : Edition) : Type 0 where
  pub anchored : (base : List ℕ)
      → Context (number_of e) third base 0 (record { number = done; source = of_text; start = 35; end = 39 })
  pub copied_first : (out : List ℕ) → 9 ≤ length out → Copy (number_of e) third 0 0 out (holding out (octets "copyright"))
  pub copied_second : (out : List ℕ) → 4 ≤ length out → Copy (number_of e) third 0 1 out (holding out (octets "#foo"))
  pub no_third : (out : List ℕ) → Copy (number_of e) third 0 2 out (untouched out not_found_number)
  pub no_second : (base : List ℕ) → Context (number_of e) third base 1 (nothing no_such_link_number)
  pub unanchored : (base : List ℕ)
      → Context (number_of e) fifth base 0 (record { number = done; source = of_base; start = 0; end = length base })

-- whatever is asked of the table, the edition answers 5
pub record IsBad (e : Edition) (t : Table) : Type 0 where
  pub search : (q : List ℕ) → Search (number_of e) t q (record { number = bad_table_number; link = 0 })
  pub context : (base : List ℕ) (i : ℕ) → Context (number_of e) t base i (nothing bad_table_number)
  pub copy : (i j : ℕ) (out : List ℕ) → Copy (number_of e) t i j out (untouched out bad_table_number)
  pub write : (out : List ℕ) → Write (number_of e) t out (untouched out bad_table_number)
  pub title : (i : ℕ) (out : List ℕ) → Titles (number_of e) t i out (untouched out bad_table_number)
  pub resolved_context : (base : List ℕ) (i : ℕ) (out : List ℕ) → length base ≤ limit
      → ResolvedContext (number_of e) t base i out (untouched out bad_table_number)

-- Of a table with values of form 3: the older edition hands out their octets as they stand, and in RFC 8288's the table is not good.
pub record MirrorHolds : Type 0 where
  pub anchored : (base : List ℕ)
      → Context (number_of Rfc5988) mirror base 0 (record { number = done; source = of_text; start = 11; end = 13 })
  pub copied : (out : List ℕ) → 10 ≤ length out → Copy (number_of Rfc5988) mirror 0 1 out (holding out (octets "http://c/d"))
  pub bad : IsBad Rfc8288 mirror

-- the table of `<a>;rel=b`, but with the code k
abbrev pub rel_coded : ℕ → Table
rel_coded k = recorded_table (octets "<a>;rel=b") (1 ∷ 2 ∷ 0 ∷ 1 ∷ []) (4 ∷ 7 ∷ 8 ∷ 9 ∷ 1 ∷ k ∷ [])

-- `rel` with a code that no name has, the largest number, the code of `anchor`, and none; and `relx` with the code of `rel`
abbrev pub miscoded : List Table
miscoded =
    rel_coded 9 ∷ rel_coded 18446744073709551615 ∷ rel_coded 2 ∷ rel_coded 0
    ∷ recorded_table (octets "<a>;relx=b") (1 ∷ 2 ∷ 0 ∷ 1 ∷ []) (4 ∷ 8 ∷ 9 ∷ 10 ∷ 1 ∷ 1 ∷ []) ∷ []

-- A table is bad if some parameter's code isn't that of its name, whatever the rest of it is: so are these.
pub record CodesAsked (e : Edition) : Type 0 where
  pub any : (t : Table) (j : ℕ) → length t.text ≤ limit → j < t.param_count → (Agrees t.text t.param_slots j → ⊥) → IsBad e t
  pub rows : Each (IsBad e) miscoded

-- the target of link number i is a reference
abbrev pub ReferredAt : Table → ℕ → Type 0
ReferredAt t i =
    ReferenceAt t.text (link_at t.link_slots t.param_slots i).target_from (link_at t.link_slots t.param_slots i).target_to

-- A table is bad if some link's target is no reference, whatever the rest of it is: so are these.
pub record TargetsAsked (e : Edition) : Type 0 where
  pub any : (t : Table) (i : ℕ) → length t.text ≤ limit → i < t.link_count → (ReferredAt t i → ⊥) → IsBad e t
  pub rows : Each (IsBad e) unfit_tables

-- a header with nothing before and after it
abbrev pub bare : List ℕ → Padded
bare h = record { left = []; header = h; right = []; left_blank = refl; right_blank = refl }

-- the joining law needs its premise, in each edition: `<a>;t="b` and `c"` are malformed, and their join is not
pub record PremiseNeeded (e : Edition) : Type 0 where
  pub first : Malformed (further e) (octets "<a>;t=\"b")
  pub second : Malformed (further e) (octets "c\"")
  pub links : List Link
  pub joined : Reading (further e) (join (bare (octets "<a>;t=\"b") ∷ bare (octets "c\"") ∷ [])) links
