-- The rows hold: each test is computed.
use native.Mathlib.Omega.{arith}
use Prim.Native.Nat.{ℕ, ◌≤◌, ◌<◌}
use mathlib.Core.Path.{◌≡◌, refl}
use mathlib.Core.Bool.{Bool, true, ◌&&◌, not, false≢true}
use mathlib.Core.List.{List, [], ◌∷◌}
use lib.Dec.{leb, ltb, eqb}
use lib.ListN.{length}
use borrow.Author.Tests.{leb-true, ltb-true, eqb-false, not-true}
use Rattle.outcomes.specs.Number.{limit}
use Rattle.outcomes.specs.InEdition.{known}
use Rattle.outcomes.specs.Usable.{Usable, usable, refused, not_good}
use Rattle.outcomes.specs.Context.{no_such_link, anchored, unanchored}
use Rattle.outcomes.specs.Copy.{no_such_param, copied}
use Rattle.outcomes.specs.ResolvedContext.{over_table}
use Rattle.octets.specs.Sets.{is_blank, is_digit, is_letter, is_token, is_plain, is_escapable, is_target, is_hex, is_older}
use Rattle.octets.specs.Fold.{fold, same_folded}
use Rattle.octets.specs.Text.{octets}
use Rattle.octets.proofs.Octets.{both}
use Rattle.octets.specs.Editions.{further}
use Rattle.octets.specs.declared.editions.Edition.{Edition}
use Rattle.octets.specs.declared.editions.Edition.TheVariants.{Rfc8288, Rfc5988}
use Rattle.grammar.proofs.Editions.{apart}
use Rattle.grammar.proofs.Readings.{read_reading}
use Rattle.grammar.specs.Kept.{name_of, code_of, is_once}
use Rattle.grammar.specs.Grammar.{from_token}
use Rattle.tables.specs.Table.{Table, link_at, param_at, code_at}
use Rattle.tables.specs.Good.{Each, each_none, each_more, Agrees, Good, GoodValue, no_value, token_value, quoted_value, wider_value}
use Rattle.tables.proofs.InGood.{head_of, agrees_at_lem, good_link}
use Rattle.tables.specs.Meaning.{unescape, value_of}
use Rattle.tables.specs.Relation.{runs, relations, has_relation}
use Rattle.tables.specs.Written.{written_value}
use Rattle.laws.specs.Row.{RowHolds}
use Rattle.laws.specs.Marked.{marked}
use Rattle.laws.specs.Slips.{slips}
use Rattle.laws.specs.Older.{older, older_refused}
use Rattle.laws.specs.References.{references, bare_read, bare_refused, unfit_tables}
use Rattle.laws.specs.Laws.{MarkedHold, SlipsHold, OlderHold, ReferencesHold, third, fifth, mirror, LookupsHold, MirrorHolds}
use Rattle.laws.specs.Laws.{IsBad, miscoded, CodesAsked, ReferredAt, TargetsAsked, PremiseNeeded}
use Rattle.laws.proofs.Checked.{recorded_known, rows_hold}
use Rattle.laws.proofs.References.{is_reference, is_reference_lem, no_reference}
use Rattle.laws.proofs.Stopped.{unread_malformed}

pub marked_hold : MarkedHold
unfolding is_blank is_digit is_letter is_token is_plain is_escapable is_target is_hex is_older fold same_folded name_of code_of is_once unescape value_of runs relations has_relation written_value
marked_hold = rows_hold Rfc8288 marked refl

pub slips_hold : SlipsHold
unfolding is_blank is_digit is_letter is_token is_plain is_escapable is_target is_hex is_older fold same_folded name_of code_of is_once unescape value_of runs relations has_relation written_value
slips_hold Rfc8288 = rows_hold Rfc8288 slips refl
slips_hold Rfc5988 = rows_hold Rfc5988 slips refl

pub older_hold : OlderHold
unfolding is_blank is_digit is_letter is_token is_plain is_escapable is_target is_hex is_older fold same_folded name_of code_of is_once unescape value_of runs relations has_relation written_value
older_hold = record { in_older = rows_hold Rfc5988 older refl; in_newer = rows_hold Rfc8288 older_refused refl }

pub references_hold : ReferencesHold
unfolding is_blank is_digit is_letter is_token is_plain is_escapable is_target is_hex is_older fold same_folded name_of code_of is_once unescape value_of runs relations has_relation written_value
references_hold = record { in_each = each; in_older = rows_hold Rfc5988 bare_read refl; in_newer = rows_hold Rfc8288 bare_refused refl }
  where
    each : (e : Edition) → Each (RowHolds e) references
    each Rfc8288 = rows_hold Rfc8288 references refl
    each Rfc5988 = rows_hold Rfc5988 references refl

-- tables are usable whose records are those of a reading
third_usable : (e : Edition) → Usable e third
unfolding is_blank is_digit is_letter is_token is_plain is_escapable is_target is_hex is_older fold name_of code_of is_once
third_usable Rfc8288 =
    (recorded_known Rfc8288 third.text third.link_slots third.param_slots (leb-true (length third.text) limit refl) refl).may_use
third_usable Rfc5988 =
    (recorded_known Rfc5988 third.text third.link_slots third.param_slots (leb-true (length third.text) limit refl) refl).may_use

fifth_usable : (e : Edition) → Usable e fifth
unfolding is_blank is_digit is_letter is_token is_plain is_escapable is_target is_hex is_older fold name_of code_of is_once
fifth_usable Rfc8288 =
    (recorded_known Rfc8288 fifth.text fifth.link_slots fifth.param_slots (leb-true (length fifth.text) limit refl) refl).may_use
fifth_usable Rfc5988 =
    (recorded_known Rfc5988 fifth.text fifth.link_slots fifth.param_slots (leb-true (length fifth.text) limit refl) refl).may_use

mirror_usable : Usable Rfc5988 mirror
unfolding is_blank is_digit is_letter is_token is_plain is_escapable is_target is_hex is_older fold name_of code_of is_once
mirror_usable =
    (recorded_known Rfc5988 mirror.text mirror.link_slots mirror.param_slots (leb-true (length mirror.text) limit refl) refl).may_use

pub lookups_hold : (e : Edition) → LookupsHold e
unfolding fold name_of unescape value_of
lookups_hold e =
    record {
      anchored = λ base. known {e = e} refl (usable (third_usable e) (anchored (omega arith) refl));
      copied_first = λ out h. known {e = e} refl (usable (third_usable e) (copied (omega arith) (omega arith) h));
      copied_second = λ out h. known {e = e} refl (usable (third_usable e) (copied (omega arith) (omega arith) h));
      no_third = λ out. known {e = e} refl (usable (third_usable e) (no_such_param (omega arith) (omega arith)));
      no_second = λ base. known {e = e} refl (usable (third_usable e) (no_such_link (omega arith)));
      unanchored = λ base. known {e = e} refl (usable (fifth_usable e) (unanchored (omega arith) refl));
    }

-- without further octets no value has form 3
mirror_bad : Good (further Rfc8288) mirror → ⊥
mirror_bad g = go (head_of (head_of g.links).params).value
  where
    go : GoodValue (further Rfc8288) mirror.text (param_at mirror.param_slots 0) → ⊥
    go (no_value f a b) = omega (arith, f)
    go (token_value f t) = omega (arith, f)
    go (quoted_value f t) = omega (arith, f)
    go (wider_value f (from_token t x r)) = false≢true x.is

-- a table that isn't good is bad, whatever is asked of it
is_bad : (e : Edition) (t : Table) → length t.text ≤ limit → (Good (further e) t → ⊥) → IsBad e t
is_bad e t short bad =
    record {
      search = λ q. known {e = e} refl (refused (not_good short bad));
      context = λ base i. known {e = e} refl (refused (not_good short bad));
      copy = λ i j out. known {e = e} refl (refused (not_good short bad));
      write = λ out. known {e = e} refl (refused (not_good short bad));
      title = λ i out. known {e = e} refl (refused (not_good short bad));
      resolved_context = λ base i out h. known {e = e} refl (over_table h (refused (not_good short bad)));
    }

pub mirror_holds : MirrorHolds
unfolding fold name_of unescape value_of
mirror_holds =
    record {
      anchored = λ base. known {e = Rfc5988} refl (usable mirror_usable (anchored (omega arith) refl));
      copied = λ out h. known {e = Rfc5988} refl (usable mirror_usable (copied (omega arith) (omega arith) h));
      bad = is_bad Rfc8288 mirror (leb-true (length mirror.text) limit refl) mirror_bad;
    }

-- the test of a row: a short text, and a first parameter with another code
abbrev is_miscoded : Table → Bool
is_miscoded t =
    leb (length t.text) limit && ltb 0 t.param_count
    && not (eqb (code_at t.param_slots 0) (code_of (name_of t.text (param_at t.param_slots 0))))

abbrev all_miscoded : List Table → Bool
all_miscoded [] = true
all_miscoded (t ∷ ts) = is_miscoded t && all_miscoded ts

module _ (e : Edition) where
  miscoded_bad : (t : Table) (j : ℕ) → length t.text ≤ limit → j < t.param_count → (Agrees t.text t.param_slots j → ⊥) → IsBad e t
  miscoded_bad t j short l n = is_bad e t short (λ g. n (agrees_at_lem g j l))

  rows_bad : (ts : List Table) → all_miscoded ts ≡ true → Each (IsBad e) ts
  rows_bad [] h = each_none
  rows_bad (t ∷ ts) h =
      let (x, rest) = both (is_miscoded t) (all_miscoded ts) h in
      let (sl, other) = both (leb (length t.text) limit && ltb 0 t.param_count) _ x in
      let (short, some) = both (leb (length t.text) limit) (ltb 0 t.param_count) sl in
      each_more
      (miscoded_bad t 0 (leb-true (length t.text) limit short) (ltb-true 0 t.param_count some) (eqb-false _ _ (not-true _ other)))
      (rows_bad ts rest)

pub codes_asked : (e : Edition) → CodesAsked e
unfolding fold name_of code_of
codes_asked e = record { any = miscoded_bad e; rows = rows_bad e miscoded refl }

-- the test of a row: a short text, and a first link with a target that is no reference
abbrev is_unfit : Table → Bool
is_unfit t =
    let l = link_at t.link_slots t.param_slots 0 in
    leb (length t.text) limit && ltb 0 t.link_count && not (is_reference t.text l.target_from l.target_to)

abbrev all_unfit : List Table → Bool
all_unfit [] = true
all_unfit (t ∷ ts) = is_unfit t && all_unfit ts

module _ (e : Edition) where
  unfit_bad : (t : Table) (i : ℕ) → length t.text ≤ limit → i < t.link_count → (ReferredAt t i → ⊥) → IsBad e t
  unfit_bad t i short l n = is_bad e t short (λ g. n (good_link g l).reference)

  tables_bad : (ts : List Table) → all_unfit ts ≡ true → Each (IsBad e) ts
  tables_bad [] h = each_none
  tables_bad (t ∷ ts) h =
      let (x, rest) = both (is_unfit t) (all_unfit ts) h in
      let (sl, other) = both (leb (length t.text) limit && ltb 0 t.link_count) _ x in
      let (short, some) = both (leb (length t.text) limit) (ltb 0 t.link_count) sl in
      let l = link_at t.link_slots t.param_slots 0 in
      each_more
      (unfit_bad t 0 (leb-true (length t.text) limit short) (ltb-true 0 t.link_count some)
      (no_reference t.text l.target_from l.target_to (not-true _ other)))
      (tables_bad ts rest)

pub targets_asked : (e : Edition) → TargetsAsked e
targets_asked e = record { any = unfit_bad e; rows = tables_bad e unfit_tables refl }

pub premise_needed : (e : Edition) → PremiseNeeded e
unfolding is_blank is_digit is_letter is_token is_plain is_escapable is_target is_hex is_older
premise_needed Rfc8288 =
    record {
      first = unread_malformed Rfc8288 (octets "<a>;t=\"b") refl;
      second = unread_malformed Rfc8288 (octets "c\"") refl;
      links = _;
      joined =
          read_reading (further Rfc8288) (apart Rfc8288) (octets "<a>;t=\"b,c\"") _ refl
          (is_reference_lem (octets "<a>;t=\"b,c\"") 1 2 refl, tt);
    }
premise_needed Rfc5988 =
    record {
      first = unread_malformed Rfc5988 (octets "<a>;t=\"b") refl;
      second = unread_malformed Rfc5988 (octets "c\"") refl;
      links = _;
      joined =
          read_reading (further Rfc5988) (apart Rfc5988) (octets "<a>;t=\"b,c\"") _ refl
          (is_reference_lem (octets "<a>;t=\"b,c\"") 1 2 refl, tt);
    }
