-- A pack is found by its number, line by line. Assumes nothing.
use Prim.Native.Nat.{ℕ, zero, suc, ◌+◌, ◌-◌, ◌≤◌, ◌<◌}
use native.Mathlib.Omega.{arith}
use native.Mathlib.Numerals.{add-one}
use mathlib.Core.Path.{◌≡◌, refl, sym, ap, subst, ◌∙◌}
use mathlib.Core.List.{List, [], ◌∷◌, ◌++◌}
use mathlib.Core.Option.{some}
use lib.ListN.{length, drop, length-append, length-drop}
use lib.Seq.{slice}
use Rattle.tables.specs.Good.{Each, each_none, each_more}
use Rattle.catalogues.specs.Packs.{Pack, Room, RightPack, line_of, lines_of, Catalogue}
use Rattle.catalogues.specs.Steps.{pack_at}
use Rattle.catalogues.proofs.NoLf.{value_free}
use Rattle.catalogues.proofs.Lines.{uri_no_tab, laid, line_parts}
use Rattle.pack_index.specs.Index.{Placed, uri_in, value_in}
use Rattle.pack_index.specs.declared.PackPlaces.{PackPlaces}
use Rattle.pack_lines.specs.Lines.{IsLine, LineRead, line, none}
use Rattle.std.specs.Prelude.{Option, Some, None}
use Rattle.pack_uri.specs.Uri.{UriPart}

-- the lines of some right packs are all that stands from place a on, and p is number k of these packs
pub record StandsFrom (s : List ℕ) (a k : ℕ) (p : Pack) : Type 0 where
  pub room : Room
  pub packs : List Pack
  pub right : Each (RightPack room) packs
  pub lines : drop a s ≡ lines_of packs
  pub number : pack_at packs k ≡ some p

-- ---- the line that is read at place a

record LineAt (s : List ℕ) (a : ℕ) (l : PackPlaces) : Type 0 where
  from : l.from.0 ≡ a
  placed : Placed s l
  is : IsLine (drop a s) (uri_in s l) (value_in s l) (drop (suc l.end.0) s)

module _ {s : List ℕ} {a : ℕ} {r : Option PackPlaces} (h : LineRead s a r) where
  line_told : {l : PackPlaces} → r ≡ Some l → LineAt s a l
  line_told {l} e = go (subst (LineRead s a) e h)
    where
      go : LineRead s a (Some l) → LineAt s a l
      go (line f p i) = record { from = f; placed = p; is = i }

  -- no pack stands there
  none_told : r ≡ None → {k : ℕ} {p : Pack} → StandsFrom s a k p → ⊥
  none_told e {k} {p} t = go (subst (LineRead s a) e h) t.packs t.right t.lines t.number
    where
      go : LineRead s a None → (ps : List Pack) → Each (RightPack t.room) ps → drop a s ≡ lines_of ps → pack_at ps k ≡ some p → ⊥
      go (none f) [] each_none w n = let z : ◌≡◌ {A = ℕ} 0 1 = cc in omega arith
      go (none f) (q ∷ qs) (each_more c cs) w n =
          f q.uri q.value (lines_of qs)
          (record { uri = c.uri; value = value_free c.reading; whole = w ∙ laid q (lines_of qs) })

-- it is the first of the lines that stand there
module _ {s : List ℕ} {a : ℕ} {l : PackPlaces} (g : LineAt s a l) where
  same_line : {room : Room} {q : Pack} (qs : List Pack) → RightPack room q → drop a s ≡ line_of q ++ lines_of qs
      → (q.uri ≡ uri_in s l) × (lines_of qs ≡ drop (suc l.end.0) s)
  same_line qs c w =
      let i = g.is in
      let t =
      line_parts c (uri_in s l) (value_in s l) (lines_of qs) (drop (suc l.end.0) s) (uri_no_tab (uri_in s l) i.uri) i.value
      (sym w ∙ i.whole) in
      (t.0, t.2)

  -- of the pack itself
  here : {p : Pack} → StandsFrom s a 0 p → uri_in s l ≡ p.uri
  here {p} t = go t.packs t.right t.lines t.number
    where
      go : (ps : List Pack) → Each (RightPack t.room) ps → drop a s ≡ lines_of ps → pack_at ps 0 ≡ some p → uri_in s l ≡ p.uri
      go [] each_none w n = let z : ◌≡◌ {A = ℕ} 0 1 = cc in absurd (omega arith)
      go (q ∷ qs) (each_more c cs) w n =
          let same : q ≡ p = cc in sym (same_line qs c w).0 ∙ ap (λ (x : Pack). x.uri) same

  -- of one before it
  behind : {k : ℕ} {p : Pack} → StandsFrom s a (suc k) p → StandsFrom s (suc l.end.0) k p
  behind {k} {p} t = go t.packs t.right t.lines t.number
    where
      go : (ps : List Pack) → Each (RightPack t.room) ps → drop a s ≡ lines_of ps → pack_at ps (suc k) ≡ some p
          → StandsFrom s (suc l.end.0) k p
      go [] each_none w n = let z : ◌≡◌ {A = ℕ} 0 1 = cc in absurd (omega arith)
      go (q ∷ qs) (each_more c cs) w n =
          record { room = t.room; packs = qs; right = cs; lines = sym (same_line qs c w).1; number = n }

-- nothing stands at the end
none_left : {s : List ℕ} {a k : ℕ} {p : Pack} → length s ≤ a → StandsFrom s a k p → ⊥
none_left {s} {a} {k} {p} h t = go t.packs t.lines t.number
  where
    go : (ps : List Pack) → drop a s ≡ lines_of ps → pack_at ps k ≡ some p → ⊥
    go [] w n = let z : ◌≡◌ {A = ℕ} 0 1 = cc in omega arith
    go (q ∷ qs) w n =
        omega (
          arith,
          length-drop a s,
          ap length (w ∙ laid q (lines_of qs)),
          length-append q.uri (9 ∷ (q.value ++ (10 ∷ lines_of qs))),
        )

-- ---- pack number n of the text is number k of those from place a on

pub record SoFar (s : List ℕ) (n k a : ℕ) : Type 0 where
  pub inside : a ≤ length s
  pub leads : (p : Pack) → StandsFrom s 0 n p → StandsFrom s a k p

pub begin : (s : List ℕ) (n : ℕ) → SoFar s n n 0
begin s n = record { inside = omega arith; leads = λ p t. t }

-- a part is the URI of any pack that has the number
is_part : {s : List ℕ} {n : ℕ} (a e : ℕ) → a ≤ e → e ≤ length s → ((p : Pack) → StandsFrom s 0 n p → slice a e s ≡ p.uri)
    → UriPart s n a e
is_part a e ordered inside f =
    record {
      part = record { ordered = ordered; inside = inside };
      uri = λ room ps p c n. f p (record { room = room; packs = ps; right = c.right; lines = c.lines; number = n });
    }

module _ {s : List ℕ} {n k a : ℕ} (g : SoFar s n k a) where
  -- an empty part, where there is no such pack
  nothing : ((p : Pack) → StandsFrom s a k p → ⊥) → UriPart s n 0 0
  nothing f = is_part 0 0 (omega arith) (omega arith) (λ p t. absurd (f p (g.leads p t)))

  pub at_its_end : length s ≤ a → UriPart s n 0 0
  at_its_end h = nothing (λ p. none_left h)

  module _ {r : Option PackPlaces} (h : LineRead s a r) where
    pub no_line : r ≡ None → UriPart s n 0 0
    no_line e = nothing (λ p. none_told h e)

    module _ {l : PackPlaces} (e : r ≡ Some l) where
      pub forward : (a < suc l.end.0) × (l.end.0 < length s)
      forward =
          let t = line_told h e in
          (omega (arith, t.from, t.placed.uri, t.placed.value), t.placed.inside)

      pub found : k ≡ 0 → UriPart s n l.from.0 l.tab.0
      found z =
          let t = line_told h e in
          is_part l.from.0 l.tab.0 t.placed.uri (omega (arith, t.placed.value, t.placed.inside))
          (λ p x. here t (subst (λ (j : ℕ). StandsFrom s a j p) z (g.leads p x)))

      pub on : (k ≡ 0 → ⊥) → SoFar s n (k - 1) (l.end.0 + 1)
      on z =
          let more : k ≡ suc (k - 1) = omega (arith, z) in
          record {
            inside = omega (arith, forward.1);
            leads =
                λ p x. rw (add-one l.end.0) (behind (line_told h e) (subst (λ (j : ℕ). StandsFrom s a j p) more (g.leads p x)));
          }
