-- What is proved of tables, meanings and the written form.
use Rattle.std.specs.Prelude.{ℕ, ◌<◌, ◌≡◌, ◌⊎◌, true, false, List, [], ◌++◌, length}
use Rattle.octets.specs.Sets.{one_of}
use Rattle.octets.specs.Fold.{folded}
use Rattle.octets.specs.Editions.{further}
use Rattle.octets.specs.declared.editions.Edition.{Edition}
use Rattle.octets.specs.declared.editions.Edition.TheVariants.{Rfc8288, Rfc5988}
use Rattle.grammar.specs.Link.{Link, Param}
use Rattle.grammar.specs.Grammar.{Extra, Admissible, Token, Wider}
use Rattle.grammar.specs.Kept.{Reading}
use Rattle.grammar.specs.Records.{link_records, param_records, count_params}
use Rattle.tables.specs.Table.{Table, links_of}
use Rattle.tables.specs.Good.{GoodValue, Good}
use Rattle.tables.specs.Meaning.{link_meaning, meanings, table_meanings}
use Rattle.tables.specs.Relation.{relations, has_relation}
use Rattle.tables.specs.Written.{written}

-- a link's relations are told by its meaning alone: backslashes are out
abbrev pub RelationsMeant : Type 0
RelationsMeant =
    (s u : List ℕ) (l m : Link) → link_meaning s l ≡ link_meaning u m → relations s l ≡ relations u m

-- and are compared folded
abbrev pub QueryFolded : Type 0
QueryFolded = (s q : List ℕ) (l : Link) → has_relation s (folded q) l ≡ has_relation s q l

-- an empty query, or one with an SP, matches nothing
abbrev pub NoQuery : Type 0
NoQuery =
    (s q : List ℕ) (l : Link) → (q ≡ []) ⊎ (one_of q 32 ≡ true) → has_relation s q l ≡ false

-- whether a table is good is decided
abbrev pub GoodDecided : Type 0
GoodDecided = (extra : Extra) (t : Table) → Dec (Good extra t)

-- Which values have form 3: none in RFC 8288's edition, and in every other none that is a token, none that is empty, and only what stands
-- bare with an octet outside a token. What has form 1 is a token in every edition.
pub record FormThree : Type 0 where
  pub none : (s : List ℕ) (p : Param) → GoodValue (further Rfc8288) s p → p.form ≡ 3 → ⊥
  pub no_token : (extra : Extra) → Admissible extra → (s : List ℕ) (p : Param) → GoodValue extra s p → p.form ≡ 3
      → Token s p.value_from p.value_to → ⊥
  pub not_empty : (extra : Extra) (s : List ℕ) (p : Param) → GoodValue extra s p → p.form ≡ 3 → p.value_from < p.value_to
  pub wider : (extra : Extra) (s : List ℕ) (p : Param) → GoodValue extra s p → p.form ≡ 3
      → Wider extra s p.value_from p.value_to
  pub token : (extra : Extra) (s : List ℕ) (p : Param) → GoodValue extra s p → p.form ≡ 1 → Token s p.value_from p.value_to

-- what is good in some edition is good in the older one
abbrev pub GoodAlike : Type 0
GoodAlike = (e : Edition) (t : Table) → Good (further e) t → Good (further Rfc5988) t

-- the table that reading fills with the links K: their records, and behind them what the slots held
abbrev pub filled_table : List ℕ → List Link → List ℕ → List ℕ → Table
filled_table h K X Y =
    record {
      text = h;
      link_slots = link_records 0 K ++ X;
      param_slots = param_records h K ++ Y;
      link_count = length K;
      param_count = count_params K;
    }

-- what is read is a good table in the same edition, and its links are those of the reading
pub record ReadTable (extra : Extra) (h : List ℕ) (K : List Link) (X Y : List ℕ) : Type 0 where
  pub good : Good extra (filled_table h K X Y)
  pub same_links : links_of (filled_table h K X Y) ≡ K

abbrev pub ReadGood : Type 0
ReadGood =
    (extra : Extra) (h : List ℕ) (K : List Link) (X Y : List ℕ) → Reading extra h K → ReadTable extra h K X Y

-- reading back: the written form of a good table reads, in every edition, to the same counts and an equal list of link meanings
pub record ReadsBack (t : Table) : Type 0 where
  pub links : List Link
  pub reads : (d : Edition) → Reading (further d) (written (table_meanings t)) links
  pub link_count : length links ≡ t.link_count
  pub param_count : count_params links ≡ t.param_count
  pub same_meanings : meanings (written (table_meanings t)) links ≡ table_meanings t

abbrev pub ReadBack : Type 0
ReadBack = (e : Edition) (t : Table) → Good (further e) t → ReadsBack t

-- two good tables, each in its edition, with one written form have equal lists of link meanings
abbrev pub WrittenTells : Type 0
WrittenTells =
    (e d : Edition) (t u : Table) → Good (further e) t → Good (further d) u → written (table_meanings t) ≡ written (table_meanings u)
    → table_meanings t ≡ table_meanings u
