-- What is asked and what checking answers settle a walk's outcome. Assumes nothing.
use Prim.Native.Nat.{ℕ, ◌+◌, ◌*◌, ◌≤◌, ◌<◌}
use native.Mathlib.Omega.{arith}
use mathlib.Core.Path.{◌≡◌, refl, sym, ap, subst, ◌∙◌}
use mathlib.Core.List.{List}
use lib.ListN.{length}
use lib.IntN.{ℤ, nat_abs}
use mir.Syntax.{w32}
use mir.Val.{SFits, to_z, of_z}
use mir.ValLaws.{to_z-of_z}
use Rattle.tables.specs.Good.{Each, each_none, each_more}
use Rattle.catalogues.specs.Packs.{pack_limit, Pack, Room, RightPack, Catalogue}
use Rattle.catalogues.specs.Walks.{Ended, walk, relation_of}
use Rattle.catalogues.specs.Outcome.{step_limit, walked, Walk, bad_catalogue, no_such_pack, no_room, walks, room_of}
use Rattle.answers.specs.Walk.{walk_numbers}
use Rattle.answers.specs.declared.Refusal.{Refusal}
use Rattle.answers.specs.declared.Refusal.TheVariants.{BadCatalogue}
use Rattle.answers.specs.declared.walk_answer.Ended as answer
use Rattle.paces.specs.Paces.{relation_on, IsPaces, far, go}
use Rattle.paces.specs.declared.Way.{Way}
use Rattle.paces.specs.declared.Paces.{Paces}
use Rattle.std.specs.Prelude.{Option, Some, Result, Err}
use Rattle.std.specs.Prelude as std
use Rattle.catalogue_check.specs.Checked.{Indexed, tables, None, IsChecked, right, wrong}
use Rattle.target_steps.specs.Stepped.{Listed}
use Rattle.stepping.specs.Known.{Known, KnownPacks}
use Rattle.pack_walk.specs.Walked.{walk_out, behind, WalksOn, WalksFrom, no_start, no_octets, from_start}
use Rattle.walking.specs.Asked.{Asks, WalksOver}

-- ---- the steps that are asked for

-- a number is passed on as its bits
pub passed : (F : ℤ → Type 0) (n : ℤ) → SFits w32 n → F (to_z w32 (of_z w32 n)) → F n
passed F n f h = subst F (to_z-of_z w32 n f) h

pub far_told : {n : ℤ} {r : Option Paces} → IsPaces n r → r ≡ std.None → step_limit < nat_abs n
far_told (far h) e = h
far_told (go h a b) e = let z : ◌≡◌ {A = ℕ} 0 1 = cc in absurd (omega arith)

pub within_told : {n : ℤ} {r : Option Paces} {p : Paces} → IsPaces n r → r ≡ Some p → Asks n p.way p.steps
within_told (far h) e = let z : ◌≡◌ {A = ℕ} 0 1 = cc in absurd (omega arith)
within_told {p = p} (go {w = v} {k = j} h a b) e =
    let same : record { way = v; steps = j } ≡ p = cc in
    record {
      inside = h;
      relation = a ∙ ap (λ (x : Paces). relation_on x.way) same;
      count = b ∙ ap (λ (x : Paces). x.steps) same;
    }

-- ---- the text that is checked, in any room with such tables

right_alike : {l p o o' : ℕ} {ps : List Pack} → Each (RightPack (record { link_slots = l; param_slots = p; octets = o })) ps
    → Each (RightPack (record { link_slots = l; param_slots = p; octets = o' })) ps
right_alike each_none = each_none
right_alike (each_more h a) =
    each_more
    (record { uri = h.uri; short = h.short; reading = h.reading; link_room = h.link_room; param_room = h.param_room })
    (right_alike a)

module _ {s : List ℕ} {l p o : ℕ} where
  pub in_room : {ps : List Pack} → Catalogue (tables l p) s ps → Catalogue (record { link_slots = l; param_slots = p; octets = o }) s ps
  in_room c = record { short = c.short; lines = c.lines; few = c.few; right = right_alike c.right; distinct = c.distinct }

  pub none_in_room : None s l p → (ps : List Pack) → Catalogue (record { link_slots = l; param_slots = p; octets = o }) s ps → ⊥
  none_in_room f ps c =
      f ps (record { short = c.short; lines = c.lines; few = c.few; right = right_alike c.right; distinct = c.distinct })

-- ---- what checking answers

pub record Right (s : List ℕ) (l p : ℕ) (X : List ℕ) (n : ℕ) : Type 0 where
  pub packs : List Pack
  pub count : length packs ≡ n
  pub catalogue : Catalogue (tables l p) s packs
  pub indexed : Indexed s X packs

module _ {s : List ℕ} {l p : ℕ} {X : List ℕ} where
  pub right_told : {r : Option ℕ} {n : ℕ} → IsChecked s l p X r → r ≡ Some n → Right s l p X n
  right_told (right ps c x) e =
      record { packs = ps; count = cc; catalogue = c; indexed = x }
  right_told (wrong f) e = let z : ◌≡◌ {A = ℕ} 0 1 = cc in absurd (omega arith)

  pub wrong_told : {r : Option ℕ} → IsChecked s l p X r → r ≡ std.None → None s l p
  wrong_told (right ps c x) e = let z : ◌≡◌ {A = ℕ} 0 1 = cc in absurd (omega arith)
  wrong_told (wrong f) e = f

  module _ {n : ℕ} (r : Right s l p X n) (room : 3 * pack_limit ≤ length X) where
    knows : Known s X n l p r.packs
    knows =
        record {
          listed = record { room = omega (arith, room, r.count, r.catalogue.few); count = r.count; indexed = r.indexed };
          right = r.catalogue.right;
        }

    pub known_packs : KnownPacks s X n l p
    known_packs = (r.packs, knows)

-- ---- the outcome

module _ (s L P W : List ℕ) (start : ℕ) (w : Way) (k : ℕ) where
  pub refused_catalogue : None s (length L) (length P) → WalksOver s (room_of L P W) start w k (Err BadCatalogue)
  refused_catalogue f z a = bad_catalogue a.inside (none_in_room f)

  module _ {X : List ℕ} {n : ℕ} (r : Right s (length L) (length P) X n) (room : 3 * pack_limit ≤ length X) where
    pub walks_all : {x : Result answer.Ended Refusal} → WalksFrom s X n (length L) (length P) (length W) (relation_on w) k start x
        → WalksOver s (room_of L P W) start w k x
    walks_all (no_start h) z a = no_such_pack a.inside (in_room r.catalogue) (omega (arith, h, r.count))
    walks_all (no_octets h g) z a = no_room a.inside (in_room r.catalogue) (omega (arith, h, r.count)) g
    walks_all {x} (from_start h g f) z a =
        subst (Walk s (room_of L P W) start z) (sym told)
        (walks a.inside (in_room r.catalogue) (omega (arith, h, r.count)) g)
      where
        from_none : (o : Ended) → behind 0 o ≡ o
        from_none o =
            let sum : 0 + o.steps ≡ o.steps = omega arith in
            ap (λ (j : ℕ). record { end = o.end; pack = o.pack; steps = j }) sum

        told : walk_out (walk_numbers x) ≡ walked (walk r.packs (relation_of z) (nat_abs z) start)
        told =
            f r.packs (knows r room)
            ∙ ap walked (from_none (walk r.packs (relation_on w) k start))
            ∙ ap (λ (q : List ℕ). walked (walk r.packs q k start)) (sym a.relation)
            ∙ ap (λ (j : ℕ). walked (walk r.packs (relation_of z) j start)) (sym a.count)
