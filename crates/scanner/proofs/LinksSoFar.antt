-- The links of a header passed so far, and what each return of its scan says.
use Prim.Native.Nat.{ℕ, suc, ◌+◌, ◌≤◌, ◌<◌}
use native.Mathlib.Omega.{arith}
use native.Mathlib.Numerals.{add-one}
use mathlib.Core.Path.{◌≡◌, refl, sym, ap, subst, ◌∙◌}
use mathlib.Core.Bool.{false}
use mathlib.Core.List.{List, [], ◌∷◌, map, reverse}
use lib.ListN.{length}
use Rattle.octets.specs.Sets.{is_blank}
use Rattle.grammar.specs.Link.{Link}
use Rattle.grammar.specs.Grammar.{Extra, Admissible, At, Field}
use Rattle.grammar.specs.Targets.{ReferenceAt, References}
use Rattle.grammar.specs.Kept.{kept_link}
use Rattle.grammar.proofs.TargetsHeld.{each_reversed}
use Rattle.grammar.specs.Records.{count_params}
use Rattle.grammar.specs.Machine.{gap, target}
use Rattle.kinds.specs.declared.Counts.{Counts}
use Rattle.kinds.specs.declared.Place.{Place}
use Rattle.cursor.specs.Passed.{Passed, Looked}
use Rattle.cursor.specs.declared.Cursor.{Cursor}
use Rattle.scan_parts.specs.Stands.{Stands}
use Rattle.scan_parts.proofs.Standing.{stands_start, halts_at, finishes}
use Rattle.std.specs.Prelude.{Ok, Err}
use Rattle.scanner.specs.Linked.{WholeLink, LinkNoted, LinkScanned, no_link, a_link, ReadingNoted, HeaderScanned, malformed_at, counted}
use Rattle.scanner.proofs.ReadyBehindLink.{link_of, link_forward}
use Rattle.scanner.proofs.BetweenLinks.{
  ordered,
  ordered_length,
  ordered_count,
  gap_blanks,
  gap_comma,
  target_begins,
  link_last,
  link_comma,
  kept_with,
}
use Rattle.scanner.proofs.LinksInOrder.{noted_more, nothing_noted}

-- at place i, between links, the links held have been read, the last first, n counts them and their kept parameters, and all are noted
pub record LinksSoFar (extra : Extra) (s : List ℕ) (i : ℕ) (n : Counts) (L L' P P' : List ℕ) : Type 0 where
  pub links : List Link
  pub stands : Stands extra s (gap links) i
  pub references : References s links
  pub link_count : n.links ≡ length links
  pub param_count : n.params ≡ count_params (map (kept_link s) links)
  pub few_links : n.links ≤ i
  pub few_params : n.params ≤ i
  pub noted : ReadingNoted s (ordered s links) L L' P P'

-- a header that ends with these links read has their counts, and their records are noted
counts : (extra : Extra) (s : List ℕ) (ls : List Link) {n : Counts} {L L' P P' : List ℕ} → Field extra s (reverse ls) → References s ls
    → n.links ≡ length ls → n.params ≡ count_params (map (kept_link s) ls) → n.params ≤ length s → ReadingNoted s (ordered s ls) L L' P P'
    → HeaderScanned extra s L L' P P' (Ok n)
counts extra s ls f refs x y z k =
    counted
    (record {
      reading = ordered s ls;
      reads = record { links = reverse ls; derived = f; references = each_reversed (ReferenceAt s) ls refs; kept = refl };
      links = x ∙ sym (ordered_length s ls);
      params = y ∙ sym (ordered_count s ls);
      few_params = z;
    })
    k

-- with one link more, of which x parameters are kept
abbrev pub one_link_more : Counts → ℕ → Counts
one_link_more n x = record { links = n.links + 1; params = n.params + x }

module _ {extra : Extra} {s : List ℕ} where
  pub start : {i : ℕ} (L P : List ℕ) → Admissible extra → i ≡ 0 → LinksSoFar extra s i (record { links = 0; params = 0 }) L L P P
  start L P a e =
      subst (λ (i : ℕ). LinksSoFar extra s i (record { links = 0; params = 0 }) L L P P) (sym e)
      (record {
        links = [];
        stands = stands_start a s;
        references = tt;
        link_count = refl;
        param_count = refl;
        few_links = omega arith;
        few_params = omega arith;
        noted = nothing_noted s L P;
      })

  module _ {i j : ℕ} {n : Counts} {L L' P P' : List ℕ} (b : LinksSoFar extra s i n L L' P P') (p : Passed is_blank s i j) where
    here : Stands extra s (gap b.links) j
    here = gap_blanks b.stands p

    pub ended : length s ≤ j → HeaderScanned extra s L L' P P' (Ok n)
    ended h =
        counts extra s b.links (finishes here h refl) b.references b.link_count b.param_count
        (omega (arith, b.few_params, b.stands.inside)) b.noted

    pub comma : {k : ℕ} → At s j 44 → k ≡ j + 1 → LinksSoFar extra s k n L L' P P'
    comma q e =
        record {
          links = b.links;
          stands = gap_comma here q e;
          references = b.references;
          link_count = b.link_count;
          param_count = b.param_count;
          few_links = omega (arith, b.few_links, p.forward);
          few_params = omega (arith, b.few_params, p.forward);
          noted = b.noted;
        }

    pub no_start : j < length s → Looked s j 44 false → Looked s j 60 false → HeaderScanned extra s L L' P P' (Err (record { 0 = j }))
    no_start h l k = malformed_at (halts_at here refl h (rw (p.stops h, l.not refl h, k.not refl h)) b.references)

    module _ {k u v : ℕ} (q : At s j 60) (e : k ≡ j + 1) (number : u ≡ n.links) (first : v ≡ n.params) where
      begun : Stands extra s (target b.links k) k
      begun = target_begins here q e

      pub link_stuck : {L'' P'' : List ℕ} {p : Place} → LinkScanned extra s k u v L' L'' P' P'' (Err p) → HeaderScanned extra s L L'' P P'' (Err p)
      link_stuck (no_link f) = malformed_at (f b.links begun b.references)

      module _ {L'' P'' : List ℕ} {d : Cursor} {x : ℕ} (l : LinkScanned extra s k u v L' L'' P' P'' (Ok (d, x))) where
        judged : (w : WholeLink extra s k d.at.0 x) × ReferenceAt s k w.close × LinkNoted extra s w u v L' L'' P' P''
        judged = go l
          where
            go : {d : Cursor} {x : ℕ} → LinkScanned extra s k u v L' L'' P' P'' (Ok (d, x))
                → (w : WholeLink extra s k d.at.0 x) × ReferenceAt s k w.close × LinkNoted extra s w u v L' L'' P' P''
            go (a_link w y h) = (w, y, h)

        pub whole : WholeLink extra s k d.at.0 x
        whole = judged.0

        reference : ReferenceAt s k whole.close
        unfolding whole
        reference = judged.1

        noted_here : ReadingNoted s (ordered s (link_of whole ∷ b.links)) L L'' P P''
        unfolding whole
        noted_here = noted_more whole b.links (number ∙ b.link_count) (first ∙ b.param_count) b.noted judged.2

        -- the counts stay below the place
        pub whole_forward : (x + suc k ≤ d.at.0) × (d.at.0 ≤ length s)
        whole_forward = link_forward whole

        more_links : n.links + 1 ≡ suc (length b.links)
        more_links = add-one n.links ∙ ap suc b.link_count

        pub link_ended : length s ≤ d.at.0 → HeaderScanned extra s L L'' P P'' (Ok (one_link_more n x))
        link_ended h =
            counts extra s (link_of whole ∷ b.links) (link_last whole begun h) (reference, b.references) more_links
            (kept_with whole begun b.param_count)
            (omega (arith, b.few_params, p.forward, whole_forward.0, whole_forward.1)) noted_here

        pub more : {t : ℕ} → d.at.0 < length s → t ≡ d.at.0 + 1 → LinksSoFar extra s t (one_link_more n x) L L'' P P''
        more h f =
            record {
              links = link_of whole ∷ b.links;
              stands = link_comma whole begun h f;
              references = (reference, b.references);
              link_count = more_links;
              param_count = kept_with whole begun b.param_count;
              few_links = omega (arith, b.few_links, p.forward, whole_forward.0);
              few_params = omega (arith, b.few_params, p.forward, whole_forward.0);
              noted = noted_here;
            }
