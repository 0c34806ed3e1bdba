-- Asking for a link's title has one outcome.
use Prim.Native.Nat.{ℕ}
use mathlib.Core.Path.{◌≡◌, refl, sym, ap, subst, ◌∙◌}
use mathlib.Core.Logic.{◌⊎◌, inl, inr}
use mathlib.Core.List.{List}
use mathlib.Core.Option.{none, some}
use Rattle.octets.specs.Text.{octets}
use Rattle.extended.specs.Value.{Extended, Wrong}
use Rattle.extended.proofs.Exact.{one_text}
use Rattle.grammar.specs.Link.{Param}
use Rattle.tables.specs.Table.{Table}
use Rattle.tables.specs.Meaning.{value_of}
use Rattle.outcomes.specs.Number.{no_such_link_number, not_found_number}
use Rattle.outcomes.specs.Kept.{kept}
use Rattle.outcomes.specs.Copy.{CopyOut, untouched}
use Rattle.outcomes.specs.Title.{Decoded, Undecoded, Title, decoded, plain, Untitled}
use Rattle.outcomes.specs.Title.{Titled, no_such_link, untitled, no_room, titled}
use Rattle.outcomes.specs.Laws.{Settled, TitleSettled}
use Rattle.outcomes.proofs.Cases.{Branch, this, that, Order, only, branch, order, settled}
use Rattle.outcomes.proofs.Options.{some_or_none, not_none, same_some}
use Rattle.outcomes.proofs.DecodeSettled.{right_or_wrong, Fits}
use Rattle.outcomes.proofs.Usable.{over_settled}

module _ (t : Table) (i : ℕ) where
  pub decoded_or_not : ((v : List ℕ) × Decoded t i v) ⊎ Undecoded t i
  decoded_or_not = go (some_or_none (kept t i (octets "title*")))
    where
      judged : {p : Param} → kept t i (octets "title*") ≡ some p
          → ((v : List ℕ) × Extended (value_of t.text p) v) ⊎ Wrong (value_of t.text p)
          → ((v : List ℕ) × Decoded t i v) ⊎ Undecoded t i
      judged {p} e (inl (v, x)) = inl (v, record { param = p; is_kept = e; right = x })
      judged {p} e (inr n) =
          inr (λ v d. n v (subst (λ (r : Param). Extended (value_of t.text r) v) (same_some d.is_kept e) d.right))

      go : ((p : Param) × (kept t i (octets "title*") ≡ some p)) ⊎ (kept t i (octets "title*") ≡ none)
          → ((v : List ℕ) × Decoded t i v) ⊎ Undecoded t i
      go (inl (p, e)) = judged e (right_or_wrong (value_of t.text p))
      go (inr n) = inr (λ v d. not_none d.is_kept n)

  pub title_or_none : ((v : List ℕ) × Title t i v) ⊎ Untitled t i
  title_or_none = go decoded_or_not (some_or_none (kept t i (octets "title")))
    where
      go : ((v : List ℕ) × Decoded t i v) ⊎ Undecoded t i
          → ((p : Param) × (kept t i (octets "title") ≡ some p)) ⊎ (kept t i (octets "title") ≡ none)
          → ((v : List ℕ) × Title t i v) ⊎ Untitled t i
      go (inl (v, d)) k = inl (v, decoded d)
      go (inr u) (inl (p, e)) = inl (value_of t.text p, plain u e refl)
      go (inr u) (inr n) = inr (record { undecoded = u; no_title = n })

module _ {t : Table} {i : ℕ} where
  pub not_untitled : {v : List ℕ} → Title t i v → Untitled t i → ⊥
  not_untitled {v} (decoded d) u = u.undecoded v d
  not_untitled (plain n e q) u = not_none e u.no_title

  pub one_decoded : {v u : List ℕ} → Decoded t i v → Decoded t i u → v ≡ u
  one_decoded {v} {u} a b =
      one_text (value_of t.text b.param) v u
      (subst (λ (r : Param). Extended (value_of t.text r) v) (same_some a.is_kept b.is_kept) a.right) b.right

  pub one_title : {v u : List ℕ} → Title t i v → Title t i u → v ≡ u
  one_title (decoded a) (decoded b) = one_decoded a b
  one_title {v} {u} (decoded a) (plain n e q) = absurd (n v a)
  one_title {v} {u} (plain n e q) (decoded b) = absurd (n u b)
  one_title (plain n e q) (plain m f r) = q ∙ ap (value_of t.text) (same_some e f) ∙ sym r

module _ (t : Table) (i : ℕ) (out : List ℕ) where
  abbrev Cases : CopyOut → Type 0
  Cases =
      Order t.link_count i (λ q. q ≡ untouched out no_such_link_number)
      (Branch ((v : List ℕ) × Title t i v) (λ x. Fits out x.0) (Untitled t i) (λ q. q ≡ untouched out not_found_number))

  cases : (q : CopyOut) → Titled t i out q → Cases q
  cases _ (no_such_link h) = this h refl
  cases _ (untitled h u) = that h (that u refl)
  cases _ (no_room h x l) = that h (this (_, x) (that l refl))
  cases _ (titled h x l) = that h (this (_, x) (this l refl))

  titles : Settled (Titled t i out)
  titles =
      settled cases
      (order (λ h. only (no_such_link h))
      (λ h. branch (title_or_none t i) (λ x u. not_untitled x.1 u)
      (λ x y q f. rw (one_title x.1 y.1) f)
      (λ x. order (λ l. only (titled h x.1 l)) (λ l. only (no_room h x.1 l)))
      (λ u. only (untitled h u))))

pub title_settled : TitleSettled
title_settled n t i out = over_settled (titles t i out)
