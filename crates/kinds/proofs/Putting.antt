-- Octets put into a buffer that held `old`, from place `at` on: of `whole`, `left` is still to be put; the buffer holds `new`, and the
-- next octet goes to place `to`.
use Prim.Native.Nat.{ℕ, suc, ◌+◌, ◌≤◌, ◌<◌}
use native.Mathlib.Omega.{arith}
use native.Mathlib.Numerals.{add-one}
use mathlib.Core.Path.{◌≡◌, refl, sym, ap, subst, ◌∙◌}
use mathlib.Core.List.{List, [], ◌∷◌, ◌++◌, append-nil}
use lib.ListN.{length, set, length-set, length-append}
use lib.Seq.{sets, length-sets}
use Rattle.kinds.specs.Put.{Put}
use Rattle.kinds.proofs.Stores.{sets_append}

-- what is put already and what is left make the whole
pub record Putting (old : List ℕ) (at : ℕ) (whole new : List ℕ) (to : ℕ) (left : List ℕ) : Type 0 where
  pub place : to + length left ≡ at + length whole
  pub lengths : length new ≡ length old
  pub fits : at + length whole ≤ length old
  pub same : sets new to left ≡ sets old at whole

-- nothing is put yet
pub begin : (old : List ℕ) (at : ℕ) (whole : List ℕ) → at + length whole ≤ length old → Putting old at whole old at whole
begin old at whole h = record { place = refl; lengths = refl; fits = h; same = refl }

-- what is left, written another way
pub onto : {old : List ℕ} {at : ℕ} {whole new : List ℕ} {to : ℕ} {left right : List ℕ} → left ≡ right
    → Putting old at whole new to left → Putting old at whole new to right
onto {old} {at} {whole} {new} {to} e w = subst (Putting old at whole new to) e w

-- nothing is left
pub finish : {old : List ℕ} {at : ℕ} {whole new : List ℕ} {to : ℕ} → Putting old at whole new to [] → Put old new at to whole
finish {old} {at} {whole} w = record { buffer = w.same; place = omega (arith, w.place) }

module _ {old : List ℕ} {at : ℕ} {whole new : List ℕ} {to : ℕ} where
  -- one octet, and there is room for it
  pub octet_room : {c : ℕ} {left : List ℕ} → Putting old at whole new to (c ∷ left) → to < length new
  octet_room w = omega (arith, w.place, w.lengths, w.fits)

  pub octet : {c : ℕ} {left : List ℕ} → Putting old at whole new to (c ∷ left) → Putting old at whole (set new to c) (to + 1) left
  octet {c} {left} w =
      rw (add-one to)
      (record {
        place = omega (arith, w.place);
        lengths = length-set new to c ∙ w.lengths;
        fits = w.fits;
        same = w.same;
      })

  -- several octets, and there is room for them
  pub room : (bs left : List ℕ) → Putting old at whole new to (bs ++ left) → to + length bs ≤ length new
  room bs left w = omega (arith, w.place, w.lengths, w.fits, length-append bs left)

  pub several : {bs left new' : List ℕ} {to' : ℕ} → Putting old at whole new to (bs ++ left) → Put new new' to to' bs
      → Putting old at whole new' to' left
  several {bs} {left} {new'} {to'} w p =
      record {
        place = omega (arith, w.place, p.place, length-append bs left);
        lengths = ap length p.buffer ∙ length-sets new to bs ∙ w.lengths;
        fits = w.fits;
        same =
            ap (λ (b : List ℕ). sets b to' left) p.buffer
            ∙ ap (λ (k : ℕ). sets (sets new to bs) k left) p.place
            ∙ sym (sets_append new to bs left)
            ∙ w.same;
      }

  -- the last octets
  pub last_room : {bs : List ℕ} → Putting old at whole new to bs → to + length bs ≤ length new
  last_room w = omega (arith, w.place, w.lengths, w.fits)

  pub last : {bs new' : List ℕ} {to' : ℕ} → Putting old at whole new to bs → Put new new' to to' bs → Put old new' at to' whole
  last {bs} w p = finish (several {left = []} (onto (sym (append-nil bs)) w) p)

-- one octet, two, and none
pub one : (l : List ℕ) (at c : ℕ) → at < length l → Put l (set l at c) at (at + 1) (c ∷ [])
one l at c h = finish (octet (begin l at (c ∷ []) (omega arith)))

pub two : (l : List ℕ) (at c d : ℕ) → at + 2 ≤ length l → Put l (set (set l at c) (at + 1) d) at (at + 2) (c ∷ d ∷ [])
two l at c d h =
    let e : at + 1 + 1 ≡ at + 2 = omega arith in
    subst (λ (k : ℕ). Put l (set (set l at c) (at + 1) d) at k (c ∷ d ∷ [])) e (finish (octet (octet (begin l at (c ∷ d ∷ []) h))))

pub none : (l : List ℕ) (at : ℕ) → at ≤ length l → Put l l at at []
none l at h = finish (begin l at [] (omega arith))
