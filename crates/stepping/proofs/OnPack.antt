-- A pack's Link value is read again, and a link of it followed. Assumes nothing.
use Prim.Native.Nat.{ℕ, ◌*◌, ◌≤◌}
use native.Mathlib.Omega.{arith}
use mathlib.Core.Path.{◌≡◌, refl, sym, ap, subst, ◌∙◌}
use mathlib.Core.List.{List}
use mathlib.Core.Option.{Option, none, some}
use lib.ListN.{length, drop}
use lib.Seq.{slice}
use Rattle.octets.specs.Editions.{further}
use Rattle.octets.specs.declared.editions.Edition.TheVariants.{Rfc8288, Rfc5988}
use Rattle.grammar.specs.Link.{Link}
use Rattle.grammar.specs.Kept.{Reading}
use Rattle.grammar.specs.Targets.{ReferenceAt}
use Rattle.grammar.specs.Records.{link_width, param_width, count_params}
use Rattle.grammar.proofs.Editions.{apart}
use Rattle.grammar.proofs.Readings.{one_reading}
use Rattle.tables.specs.Table.{Table, table_of, links_of}
use Rattle.tables.specs.Good.{InText}
use Rattle.tables.proofs.FromReading.{read_good}
use Rattle.tables.proofs.GoodAlike.{good_alike}
use Rattle.outcomes.specs.Number.{limit}
use Rattle.outcomes.specs.Usable.{Usable}
use Rattle.outcomes.specs.Read.{ReadOut, ReadIn, too_long, not_derived, no_link_room, no_param_room, reads}
use Rattle.kinds.specs.declared.Counts.{Counts}
use Rattle.kinds.specs.declared.Span.{Span}
use Rattle.answers.specs.Read.{read_numbers, read_out}
use Rattle.answers.specs.declared.read_answer.ReadError.{ReadError}
use Rattle.answers.specs.declared.walk_answer.End.TheVariants.{NoLink}
use Rattle.catalogues.specs.Packs.{Pack}
use Rattle.catalogues.specs.Steps.{first_link, along, to_target}
use Rattle.following.specs.Followed.{IsFollowed, nowhere, target}
use Rattle.std.specs.Prelude.{Some, None, Result, Ok, Err}
use Rattle.std.specs.Prelude as std
use Rattle.resolution.specs.Resolve.{resolved}
use Rattle.kinds.specs.declared.PackNumber.{PackNumber}
use Rattle.answers.specs.declared.walk_answer.End.{End}
use Rattle.target_steps.specs.Stepped.{within, step_out, LeadsTo}
use Rattle.stepping.specs.Known.{TableRead, StepsOn}

-- ---- the table that is read

read_table_lem : {v L P : List ℕ} {o : ReadOut} → ReadIn Rfc8288 v L P o → o.number ≡ 0
    → TableRead v o.link_slots o.param_slots o.links o.params
read_table_lem (too_long a) e = absurd (omega (arith, e))
read_table_lem (not_derived a b) e = absurd (omega (arith, e))
read_table_lem (no_link_room a b c) e = absurd (omega (arith, e))
read_table_lem (no_param_room a b c d) e = absurd (omega (arith, e))
read_table_lem {v} {L} {P} (reads {K = K} a b c d) e =
    let t = read_good (further Rfc8288) v K (drop (link_width * length K) L) (drop (param_width * count_params K) P) b in
    record {
      reading = subst (Reading (further Rfc8288) v) (sym t.same_links) b;
      usable = record { short = a; good = good_alike Rfc8288 _ t.good };
    }

pub done_table : {v L P L' P' : List ℕ} {r : Result Counts ReadError} {n : Counts} → ReadIn Rfc8288 v L P (read_out (read_numbers r) L' P') → r ≡ Ok n
    → TableRead v L' P' n.links n.params
done_table {v} {L} {P} {L'} {P'} h e =
    read_table_lem (subst (λ (y : Result Counts ReadError). ReadIn Rfc8288 v L P (read_out (read_numbers y) L' P')) e h) refl

-- ---- the link that is followed

pub record FollowedAt (t : Table) (q : List ℕ) (sp : Span) : Type 0 where
  pub link : Link
  pub first : first_link t.text q (links_of t) ≡ some link
  pub from : link.target_from ≡ sp.from.0
  pub to : link.target_to ≡ sp.to.0
  pub inside : InText t.text sp.from.0 sp.to.0
  pub reference : ReferenceAt t.text sp.from.0 sp.to.0

pub target_told : {t : Table} {q : List ℕ} {r : std.Option Span} {sp : Span} → IsFollowed t q r → r ≡ Some sp → FollowedAt t q sp
target_told (nowhere h) e = let z : ◌≡◌ {A = ℕ} 0 1 = cc in absurd (omega arith)
target_told {t} {q} {sp = sp} (target {l = l} h i r) e =
    let same : record { from = record { 0 = l.target_from }; to = record { 0 = l.target_to } } ≡ sp = cc in
    record {
      link = l;
      first = h;
      from = ap (λ (x : Span). x.from.0) same;
      to = ap (λ (x : Span). x.to.0) same;
      inside = subst (λ (x : Span). InText t.text x.from.0 x.to.0) same i;
      reference = subst (λ (x : Span). ReferenceAt t.text x.from.0 x.to.0) same r;
    }

pub nowhere_told : {t : Table} {q : List ℕ} {r : std.Option Span} → IsFollowed t q r → r ≡ None → first_link t.text q (links_of t) ≡ none
nowhere_told (nowhere h) e = h
nowhere_told (target h i r) e = let z : ◌≡◌ {A = ℕ} 0 1 = cc in absurd (omega arith)

-- ---- a step

module _ (s X : List ℕ) (n : ℕ) (u v q : List ℕ) {L P : List ℕ} {k m : ℕ} (t : TableRead v L P k m) where
  -- every reading is that of the table
  same_links : (K : List Link) → Reading (further Rfc8288) v K → K ≡ links_of (table_of v L P k m)
  same_links K r = one_reading (further Rfc8288) (apart Rfc8288) v K (links_of (table_of v L P k m)) r t.reading

  pub no_link_on : first_link v q (links_of (table_of v L P k m)) ≡ none → StepsOn s X n u v q (Err NoLink)
  no_link_on e ps l K r =
      ap (along ps (record { uri = u; value = v; links = K })) (ap (first_link v q) (same_links K r) ∙ e)

  pub target_on_lem : (r : Result PackNumber End) {sp : Span} (f : FollowedAt (table_of v L P k m) q sp)
      → LeadsTo s X n u v sp.from.0 sp.to.0 r → StepsOn s X n u v q r
  target_on_lem x {sp} f h ps l K r =
      ap (along ps (record { uri = u; value = v; links = K })) (ap (first_link v q) (same_links K r) ∙ f.first)
      ∙ ap (λ (a : ℕ). to_target ps (within u (resolved u (slice a f.link.target_to v)))) f.from
      ∙ ap (λ (e : ℕ). to_target ps (within u (resolved u (slice sp.from.0 e v)))) f.to
      ∙ h ps l
