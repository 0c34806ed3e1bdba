-- Between two links the machine stands in a gap: past blanks, past a comma, at the `<` of a link, behind a whole link.
use Prim.Native.Nat.{ℕ, suc, ◌+◌, ◌≤◌, ◌<◌}
use native.Mathlib.Omega.{arith}
use native.Mathlib.Nat.{zero-add, add-zero}
use native.Mathlib.Numerals.{add-one}
use mathlib.Core.Path.{◌≡◌, sym, ap, subst, ◌∙◌}
use mathlib.Core.Logic.{◌⊎◌, inl, inr}
use mathlib.Core.List.{List, [], ◌∷◌, map, reverse, reverse_aux}
use lib.ListN.{length, length-map, length-reverse}
use Rattle.octets.specs.Sets.{is_blank}
use Rattle.grammar.specs.Link.{Link}
use Rattle.grammar.specs.Grammar.{Extra, At, Field}
use Rattle.grammar.specs.Kept.{kept_link}
use Rattle.grammar.specs.Records.{count_params}
use Rattle.grammar.specs.Machine.{gap, target}
use Rattle.grammar.proofs.Raise.{map_reverse_aux}
use Rattle.cursor.specs.Passed.{Passed}
use Rattle.scan_parts.specs.Stands.{Stands}
use Rattle.scan_parts.proofs.Standing.{stands_on, stands_run, finishes}
use Rattle.scanner.specs.Linked.{WholeLink}
use Rattle.scanner.proofs.ReadyBehindParams.{ready_comma}
use Rattle.scanner.proofs.ReadyBehindLink.{link_of, link_ready}

-- the order of links doesn't change the count of their parameters
pub count_reverse : (ls ms : List Link) → count_params (reverse_aux ls ms) ≡ count_params ls + count_params ms
count_reverse [] ms = sym (zero-add (count_params ms))
count_reverse (l ∷ ls) ms = count_reverse ls (l ∷ ms) ∙ omega arith

-- the kept links, in order, of links held last first
abbrev pub ordered : List ℕ → List Link → List Link
ordered s ls = map (kept_link s) (reverse ls)

pub ordered_length : (s : List ℕ) (ls : List Link) → length (ordered s ls) ≡ length ls
ordered_length s ls = length-map (reverse ls) (kept_link s) ∙ length-reverse ls

pub ordered_count : (s : List ℕ) (ls : List Link) → count_params (ordered s ls) ≡ count_params (map (kept_link s) ls)
ordered_count s ls =
    ap count_params (sym (map_reverse_aux (kept_link s) ls [])) ∙ count_reverse (map (kept_link s) ls) [] ∙ add-zero _

module _ {extra : Extra} {s : List ℕ} {ls : List Link} where
  pub gap_blanks : {i j : ℕ} → Stands extra s (gap ls) i → Passed is_blank s i j → Stands extra s (gap ls) j
  gap_blanks g p = stands_run (λ i c q. rw q) p.run g

  pub gap_comma : {j k : ℕ} → Stands extra s (gap ls) j → At s j 44 → k ≡ j + 1 → Stands extra s (gap ls) k
  unfolding is_blank
  gap_comma {j} g q e = subst (Stands extra s (gap ls)) (sym (e ∙ add-one j)) (stands_on (gap ls) g q.inside (rw q.is))

  pub target_begins : {j k : ℕ} → Stands extra s (gap ls) j → At s j 60 → k ≡ j + 1 → Stands extra s (target ls k) k
  unfolding is_blank
  target_begins {j} g q e =
      subst (λ (x : ℕ). Stands extra s (target ls x) x) (sym (e ∙ add-one j))
      (stands_on (target ls (suc j)) g q.inside (rw q.is))

  module _ {k d x : ℕ} (w : WholeLink extra s k d x) (t : Stands extra s (target ls k) k) where
    -- the header ends behind the link
    pub link_last : length s ≤ d → Field extra s (reverse (link_of w ∷ ls))
    link_last h = let r = link_ready ls w t in finishes r.stands h r.settles

    -- else a comma stands there
    pub link_comma : {v : ℕ} → d < length s → v ≡ d + 1 → Stands extra s (gap (link_of w ∷ ls)) v
    link_comma h e =
        subst (Stands extra s (gap (link_of w ∷ ls))) (sym (e ∙ add-one d)) (ready_comma (link_ready ls w t) (there w.rest.ends))
      where
        there : (length s ≤ d) ⊎ At s d 44 → At s d 44
        there (inl g) = absurd (omega arith)
        there (inr a) = a

    pub kept_with : {m : ℕ} → m ≡ count_params (map (kept_link s) ls) → m + x ≡ count_params (map (kept_link s) (link_of w ∷ ls))
    kept_with e = omega (arith, e, w.rest.kept)
