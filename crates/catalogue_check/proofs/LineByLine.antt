-- A catalogue is checked line by line; the work tables and the index keep their lengths. Assumes nothing.
use Prim.Native.Nat.{ℕ, suc, ◌+◌, ◌≤◌, ◌<◌}
use native.Mathlib.Omega.{arith}
use native.Mathlib.Numerals.{add-one}
use mathlib.Core.Path.{◌≡◌, refl, sym, ap, subst, ◌∙◌}
use mathlib.Core.List.{List, [], ◌++◌, append-nil}
use lib.ListN.{length, drop}
use lib.Seq.{drop-length}
use Rattle.tables.specs.Good.{each_none}
use Rattle.kinds.specs.declared.Place.{Place}
use Rattle.catalogues.specs.Packs.{catalogue_limit, pack_limit, lines_of}
use Rattle.catalogues.specs.Packs as packs
use Rattle.std.specs.Prelude.{Option, Some}
use Rattle.std.specs.Prelude as std
use Rattle.catalogue_check.specs.Checked.{None, Begun, AddedTo, before, wrong, IsChecked, right}
use Rattle.catalogue_check.specs.Checked as spec
use Rattle.catalogue_check.proofs.Adding as adding

-- up to place a, with n packs; L, P and X were L₀, P₀ and X₀
pub record SoFar (s L₀ P₀ X₀ L P X : List ℕ) (n a : ℕ) : Type 0 where
  pub inside : a ≤ length s
  pub few : n ≤ pack_limit
  pub links : length L ≡ length L₀
  pub params : length P ≡ length P₀
  pub index : length X ≡ length X₀
  pub begun : Begun s (length L₀) (length P₀) X n a

pub begin : (s L P X : List ℕ) → SoFar s L P X L P X 0 0
begin s L P X =
    record {
      inside = omega arith;
      few = omega arith;
      links = refl;
      params = refl;
      index = refl;
      begun =
          record {
            packs = [];
            count = refl;
            right = each_none;
            distinct = packs.none;
            lines = refl;
            indexed = λ i p e. let z : ◌≡◌ {A = ℕ} 0 1 = cc in absurd (omega arith);
          };
    }

pub too_long : {s : List ℕ} {l p : ℕ} → catalogue_limit < length s → None s l p
too_long h qs c = omega (arith, h, c.short)

-- with tables that are as long
alike : (F : ℕ → ℕ → Type 0) {l m p q : ℕ} → l ≡ m → p ≡ q → F l p → F m q
alike F {m = m} {p} e f t = subst (F m) f (subst (λ (k : ℕ). F k p) e t)

module _ {s L₀ P₀ X₀ L P X : List ℕ} {n a : ℕ} (g : SoFar s L₀ P₀ X₀ L P X n a) where
  pub asked : Begun s (length L) (length P) X n a
  asked = alike (λ l p. Begun s l p X n a) (sym g.links) (sym g.params) g.begun

  pub too_many : {X' : List ℕ} → a < length s → pack_limit ≤ n → IsChecked s (length L₀) (length P₀) X' std.None
  too_many h m = spec.wrong (adding.too_many g.begun h m)

  pub all_read : length s ≤ catalogue_limit → length s ≤ a → IsChecked s (length L₀) (length P₀) X (Some n)
  all_read short h =
      let b = g.begun in
      let end : a ≡ length s = omega (arith, h, g.inside) in
      let nothing : drop a s ≡ [] = ap (λ (k : ℕ). drop k s) end ∙ drop-length s in
      let lines : s ≡ lines_of b.packs =
      b.lines ∙ ap (λ (w : List ℕ). lines_of b.packs ++ w) nothing ∙ append-nil (lines_of b.packs) in
      subst (λ (k : ℕ). IsChecked s (length L₀) (length P₀) X (Some k)) b.count
      (right b.packs
      (record {
        short = short;
        lines = lines;
        few = omega (arith, g.few, b.count);
        right = b.right;
        distinct = b.distinct;
      })
      b.indexed)

  -- one line more
  module _ {X' : List ℕ} {r : Option Place} (h : AddedTo s (length L) (length P) X' n a r) where
    told : {x : Option Place} → r ≡ x → AddedTo s (length L₀) (length P₀) X' n a x
    told e =
        subst (AddedTo s (length L₀) (length P₀) X' n a) e (alike (λ l p. AddedTo s l p X' n a r) g.links g.params h)

    pub none_more : r ≡ std.None → IsChecked s (length L₀) (length P₀) X' std.None
    none_more e = go (told e)
      where
        go : AddedTo s (length L₀) (length P₀) X' n a std.None → IsChecked s (length L₀) (length P₀) X' std.None
        go (wrong m) = spec.wrong m

    module _ {b : Place} (e : r ≡ Some b) where
      pub forward : (a < b.0) × (b.0 ≤ length s)
      forward = go (told e)
        where
          go : AddedTo s (length L₀) (length P₀) X' n a (Some b) → (a < b.0) × (b.0 ≤ length s)
          go (before f i m) = (f, i)

      pub on : {L' P' : List ℕ} → n < pack_limit → length L' ≡ length L → length P' ≡ length P → length X' ≡ length X
          → SoFar s L₀ P₀ X₀ L' P' X' (n + 1) b.0
      on {L'} {P'} k x y z = go (told e)
        where
          go : AddedTo s (length L₀) (length P₀) X' n a (Some b) → SoFar s L₀ P₀ X₀ L' P' X' (n + 1) b.0
          go (before f i m) =
              record {
                inside = i;
                few = omega (arith, k);
                links = x ∙ g.links;
                params = y ∙ g.params;
                index = z ∙ g.index;
                begun = subst (λ (j : ℕ). Begun s (length L₀) (length P₀) X' j b.0) (sym (add-one n)) m;
              }
