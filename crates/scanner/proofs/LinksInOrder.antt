-- The records of links in order, and of one link more.
use Prim.Native.Nat.{ℕ, ◌+◌, ◌*◌}
use native.Mathlib.Omega.{arith}
use native.Mathlib.Nat.{zero-add}
use mathlib.Core.Path.{◌≡◌, sym, ap, ap₂, subst, ◌∙◌}
use mathlib.Core.List.{List, [], ◌∷◌, ◌++◌, map, map-append, reverse, reverse-cons, append-nil}
use lib.ListN.{length}
use Rattle.grammar.specs.Link.{Link, Param}
use Rattle.grammar.specs.Grammar.{Extra}
use Rattle.grammar.specs.Kept.{kept_link, keep_after}
use Rattle.grammar.specs.Records.{link_width, param_width, count_params, records_of, link_records, param_records}
use Rattle.grammar.proofs.Joining.{link_records_append, param_records_append}
use Rattle.tables.proofs.Filled.{link_records_length, param_records_length}
use Rattle.notes.specs.Noted.{Noted}
use Rattle.notes.proofs.InOrder.{noted_none, noted_then}
use Rattle.scanner.specs.Linked.{WholeLink, LinkNoted, ReadingNoted}
use Rattle.scanner.proofs.ReadyBehindLink.{link_of}
use Rattle.scanner.proofs.BetweenLinks.{ordered, ordered_length, ordered_count}

ordered_more : (s : List ℕ) (l : Link) (ls : List Link) → ordered s (l ∷ ls) ≡ ordered s ls ++ (kept_link s l ∷ [])
ordered_more s l ls = ap (map (kept_link s)) (reverse-cons l ls) ∙ map-append (kept_link s) (reverse ls) (l ∷ [])

module _ {extra : Extra} {s : List ℕ} {a j x : ℕ} (w : WholeLink extra s a j x) (ls : List Link) {n m : ℕ} (number : n ≡ length ls)
    (first : m ≡ count_params (map (kept_link s) ls)) where
  abbrev kept : List Param
  kept = keep_after s [] (reverse w.rest.params)

  -- where the link's record goes, and the first of its parameters'
  pub link_slot : link_width * n ≡ 0 + length (link_records 0 (ordered s ls))
  link_slot = omega (arith, link_records_length 0 (ordered s ls), ordered_length s ls, number)

  pub param_slot : param_width * m ≡ 0 + length (param_records s (ordered s ls))
  param_slot = omega (arith, param_records_length s (ordered s ls), ordered_count s ls, first)

  pub links_more : link_records 0 (ordered s ls) ++ (a ∷ w.close ∷ m ∷ x ∷ []) ≡ link_records 0 (ordered s (link_of w ∷ ls))
  links_more =
      let from : m ≡ 0 + count_params (ordered s ls) = first ∙ sym (zero-add (count_params (ordered s ls)) ∙ ordered_count s ls) in
      ap₂ (λ (y z : ℕ). link_records 0 (ordered s ls) ++ (a ∷ w.close ∷ y ∷ z ∷ [])) from w.rest.kept
      ∙ sym
      (ap (link_records 0) (ordered_more s (link_of w) ls) ∙ link_records_append 0 (ordered s ls) (kept_link s (link_of w) ∷ []))

  pub params_more : param_records s (ordered s ls) ++ records_of s kept
      ≡ param_records s (ordered s (link_of w ∷ ls))
  params_more =
      ap (λ (y : List ℕ). param_records s (ordered s ls) ++ y) (sym (append-nil (records_of s kept)))
      ∙ sym
      (ap (param_records s) (ordered_more s (link_of w) ls) ∙ param_records_append s (ordered s ls) (kept_link s (link_of w) ∷ []))

  -- a link noted behind those noted already
  pub noted_more : {L L' L'' P P' P'' : List ℕ} → ReadingNoted s (ordered s ls) L L' P P' → LinkNoted extra s w n m L' L'' P' P''
      → ReadingNoted s (ordered s (link_of w ∷ ls)) L L'' P P''
  noted_more {L} {L'' = L''} {P = P} {P'' = P''} h k =
      record {
        links = subst (Noted L L'' 0) links_more (noted_then (link_records 0 (ordered s ls)) _ h.links link_slot k.link);
        params = subst (Noted P P'' 0) params_more (noted_then (param_records s (ordered s ls)) _ h.params param_slot k.params);
      }

-- of no links nothing is noted
pub nothing_noted : (s L P : List ℕ) → ReadingNoted s (ordered s []) L L P P
nothing_noted s L P = record { links = noted_none L 0; params = noted_none P 0 }
