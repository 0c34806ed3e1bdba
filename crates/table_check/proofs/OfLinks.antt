-- A loop that passes the links of a table: it stands at link number i, whose parameters are to begin at `next`, and the links that
-- are left tell whether all of them follow one another and have good targets.
use Prim.Native.Nat.{ℕ, suc, ◌+◌, ◌-◌, ◌*◌, ◌≤◌, ◌<◌}
use native.Mathlib.Omega.{arith}
use native.Mathlib.Numerals.{add-one}
use native.Mathlib.Nat.{sub-zero, eq-or-lt_of_le}
use mathlib.Core.Path.{◌≡◌, sym, subst, ◌∙◌}
use mathlib.Core.Logic.{⊎_elim}
use mathlib.Core.Bool.{false}
use mathlib.Core.List.{List}
use lib.Dec.{eqb}
use lib.ListN.{get_or}
use Rattle.grammar.specs.Records.{link_width}
use Rattle.tables.specs.Table.{first_of, count_of}
use Rattle.tables.specs.Good.{Follows}
use Rattle.tables.proofs.InGood.{follows_le}
use Rattle.records.specs.Slots.{IsLink}
use Rattle.records.specs.declared.LinkRecord.{LinkRecord}
use Rattle.part_check.specs.Decides.{Decides}
use Rattle.part_check.proofs.Deciding.{also, not_so, tests_eq}
use Rattle.table_check.specs.Links.{GoodTarget, Linked}

module _ (s L : List ℕ) (n m : ℕ) where
  -- link number j has a good target
  abbrev TargetAt : ℕ → Type 0
  TargetAt j = GoodTarget s (get_or L (link_width * j) 0) (get_or L (link_width * j + 1) 0)

  -- what is asked of the links from number i on
  record LinksLeft (next i : ℕ) : Type 0 where
    follows : Follows L i (n - i) next m
    targets : (j : ℕ) → i ≤ j → j < n → TargetAt j

  pub record Walked (next i : ℕ) : Type 0 where
    pub within : i ≤ n
    pub below : next ≤ m
    back : LinksLeft next i → Linked s L n m
    on : Linked s L n m → LinksLeft next i

  pub begin : Walked 0 0
  begin =
      record {
        within = omega arith;
        below = omega arith;
        back = λ g. record { follows = rw (sub-zero n) at g.follows; targets = λ j l. g.targets j (omega arith) l };
        on = λ g. record { follows = rw (sub-zero n) g.follows; targets = λ j _ l. g.targets j l };
      }

module _ {s L : List ℕ} {n m next i : ℕ} (w : Walked s L n m next i) where
  pub through : n ≤ i → Decides (eqb next m) (Linked s L n m)
  through h =
      let z : n - i ≡ 0 = omega arith in
      also (λ q. w.back (record { follows = rw z q; targets = λ j a b. absurd (omega arith) })) (λ g. rw z at (w.on g).follows)
      (tests_eq next m)

  module _ (h : i < n) {l : LinkRecord} (e : IsLink L i l) where
    record FirstLink : Type 0 where
      first : l.first.0 ≡ next
      room : next + l.count ≤ m
      target : GoodTarget s l.target.from.0 l.target.to.0
      rest : LinksLeft s L n m (next + l.count) (i + 1)

    more : n - i ≡ suc (n - suc i)
    more = omega arith

    split : LinksLeft s L n m next i → FirstLink
    split g =
        let f : (first_of L i ≡ next) × Follows L (suc i) (n - suc i) (next + count_of L i) m =
        subst (λ (k : ℕ). Follows L i k next m) more g.follows
        in
        record {
          first = e.first ∙ f.0;
          room = rw e.count (follows_le L (suc i) (n - suc i) (next + count_of L i) m f.1);
          target = rw (e.from, e.to) (g.targets i (omega arith) h);
          rest = record { follows = rw (add-one i, e.count) f.1; targets = λ j a b. g.targets j (omega arith) b };
        }

    joined : FirstLink → LinksLeft s L n m next i
    joined g =
        record {
          follows = rw more (sym e.first ∙ g.first, rw (add-one i, e.count) at g.rest.follows);
          targets =
              λ j a b.
              ⊎_elim (λ q. subst (TargetAt s L n m) q (rw (e.from, e.to) at g.target)) (λ k. g.rest.targets j (omega arith) b)
              (eq-or-lt_of_le a);
        }

    -- the link does not begin where it should, or has more parameters than are left, or its target is not good
    pub elsewhere : (l.first.0 ≡ next → ⊥) → Decides false (Linked s L n m)
    elsewhere d = not_so (λ g. d (split (w.on g)).first)

    pub too_many : m - next < l.count → Decides false (Linked s L n m)
    too_many d = not_so (λ g. omega (arith, w.below, (split (w.on g)).room))

    pub bad_target : (GoodTarget s l.target.from.0 l.target.to.0 → ⊥) → Decides false (Linked s L n m)
    bad_target d = not_so (λ g. d (split (w.on g)).target)

    pub passed : l.first.0 ≡ next → l.count ≤ m - next → GoodTarget s l.target.from.0 l.target.to.0
        → Walked s L n m (next + l.count) (i + 1)
    passed f r g =
        let room : next + l.count ≤ m = omega (arith, w.below) in
        record {
          within = omega arith;
          below = room;
          back = λ x. w.back (joined (record { first = f; room = room; target = g; rest = x }));
          on = λ x. (split (w.on x)).rest;
        }
