-- Lines of packs tell their packs: no URI has a tab in it, and no Link value an LF. Assumes nothing.
use Prim.Native.Nat.{ℕ, ◌+◌}
use native.Mathlib.Omega.{arith}
use mathlib.Core.Path.{◌≡◌, refl, sym, ap, subst, ◌∙◌}
use mathlib.Core.Bool.{true}
use mathlib.Core.List.{List, [], ◌∷◌, ◌++◌, append_assoc}
use lib.ListN.{length, drop, length-append}
use Rattle.octets.specs.Sets.{one_of}
use Rattle.octets.specs.Editions.{further}
use Rattle.octets.specs.declared.editions.Edition.TheVariants.{Rfc8288}
use Rattle.references.specs.AppendixA.{absolute_uri, IsAbsoluteURI}
use Rattle.references.specs.Components.{before, from}
use Rattle.references.proofs.Clear.{Free, clear_free}
use Rattle.references.proofs.Cuts.{before_free, from_free}
use Rattle.grammar.specs.Link.{Link}
use Rattle.grammar.specs.Kept.{Reading}
use Rattle.grammar.proofs.Editions.{apart}
use Rattle.grammar.proofs.Readings.{one_reading}
use Rattle.tables.specs.Good.{Each, each_none, each_more}
use Rattle.catalogues.specs.Packs.{Pack, Room, RightPack, line_of, lines_of}
use Rattle.catalogues.proofs.NoLf.{value_free}

-- no absolute-URI has a tab, an LF or a `#` in it
pub uri_free : (w : List ℕ) → IsAbsoluteURI w → Free (9 ∷ 10 ∷ 35 ∷ []) w
uri_free = clear_free (9 ∷ 10 ∷ 35 ∷ []) absolute_uri refl

pub uri_no_tab : (w : List ℕ) → IsAbsoluteURI w → Free (9 ∷ []) w
uri_no_tab = clear_free (9 ∷ []) absolute_uri refl

-- a line with its parts one behind another
pub laid : (p : Pack) (x : List ℕ) → line_of p ++ x ≡ p.uri ++ (9 ∷ (p.value ++ (10 ∷ x)))
laid p x =
    append_assoc p.uri (9 ∷ (p.value ++ (10 ∷ []))) x
    ∙ ap (λ (v : List ℕ). p.uri ++ (9 ∷ v)) (append_assoc p.value (10 ∷ []) x)

-- two texts with one octet c, each behind octets that are none
pub parted : (c : ℕ) → one_of (c ∷ []) c ≡ true → (u v x y : List ℕ) → Free (c ∷ []) u → Free (c ∷ []) v
    → u ++ (c ∷ x) ≡ v ++ (c ∷ y) → (u ≡ v) × (x ≡ y)
parted c is u v x y f g e = (
  sym (before_free (c ∷ []) u (c ∷ x) f is) ∙ ap (before (c ∷ [])) e ∙ before_free (c ∷ []) v (c ∷ y) g is,
  ap (drop 1) (sym (from_free (c ∷ []) u (c ∷ x) f is) ∙ ap (from (c ∷ [])) e ∙ from_free (c ∷ []) v (c ∷ y) g is),
)

pub same_pack : (p q : Pack) → p.uri ≡ q.uri → p.value ≡ q.value → p.links ≡ q.links → p ≡ q
same_pack p q a b c =
    ap (λ (u : List ℕ). record { uri = u; value = p.value; links = p.links }) a
    ∙ ap (λ (v : List ℕ). record { uri = q.uri; value = v; links = p.links }) b
    ∙ ap (λ (ls : List Link). record { uri = q.uri; value = q.value; links = ls }) c

-- the first line tells its pack
module _ {room : Room} {p : Pack} (right : RightPack room p) where
  pub line_parts : (u v x y : List ℕ) → Free (9 ∷ []) u → Free (10 ∷ []) v → line_of p ++ x ≡ u ++ (9 ∷ (v ++ (10 ∷ y)))
      → (p.uri ≡ u) × (p.value ≡ v) × (x ≡ y)
  line_parts u v x y f g e =
      let a = parted 9 refl p.uri u _ _ (uri_no_tab p.uri right.uri) f (sym (laid p x) ∙ e) in
      let b = parted 10 refl p.value v _ _ (value_free right.reading) g a.1 in
      (a.0, b.0, b.1)

  pub same_line : {other : Room} {q : Pack} → RightPack other q → (x y : List ℕ) → line_of p ++ x ≡ line_of q ++ y → (p ≡ q) × (x ≡ y)
  same_line {q = q} r x y e =
      let t = line_parts q.uri q.value x y (uri_no_tab q.uri r.uri) (value_free r.reading) (e ∙ laid q y) in
      let same_links : p.links ≡ q.links =
      one_reading (further Rfc8288) (apart Rfc8288) p.value p.links q.links right.reading
      (subst (λ (v : List ℕ). Reading (further Rfc8288) v q.links) (sym t.1) r.reading)
      in
      (same_pack p q t.0 t.1 same_links, t.2)

pub each_append : {P : Pack → Type 0} {ps qs : List Pack} → Each P ps → Each P qs → Each P (ps ++ qs)
each_append each_none b = b
each_append (each_more h a) b = each_more h (each_append a b)

pub each_behind : {P : Pack → Type 0} (ps : List Pack) {qs : List Pack} → Each P (ps ++ qs) → Each P qs
each_behind [] a = a
each_behind (p ∷ ps) (each_more h a) = each_behind ps a

pub lines_append : (ps qs : List Pack) → lines_of (ps ++ qs) ≡ lines_of ps ++ lines_of qs
lines_append [] qs = refl
lines_append (p ∷ ps) qs = ap (λ (v : List ℕ). line_of p ++ v) (lines_append ps qs) ∙ sym (append_assoc (line_of p) (lines_of ps) (lines_of qs))

-- lines that a text begins with are the first lines of it, if it is all lines
pub record LinesLeft (ps qs : List Pack) (x : List ℕ) : Type 0 where
  pub packs : List Pack
  pub all : qs ≡ ps ++ packs
  pub lines : x ≡ lines_of packs

nothing_before : (p : Pack) (x : List ℕ) → line_of p ++ x ≡ [] → ⊥
nothing_before p x e = omega (arith, ap length (sym (laid p x) ∙ e), length-append p.uri (9 ∷ (p.value ++ (10 ∷ x))))

pub lines_left : {room other : Room} {ps qs : List Pack} {x : List ℕ} → Each (RightPack room) ps → Each (RightPack other) qs
    → lines_of ps ++ x ≡ lines_of qs → LinesLeft ps qs x
lines_left {qs = qs} each_none b e = record { packs = qs; all = refl; lines = e }
lines_left {x = x} (each_more {x = p} {xs = ps} h a) each_none e =
    absurd (nothing_before p (lines_of ps ++ x) (sym (append_assoc (line_of p) (lines_of ps) x) ∙ e))
lines_left {x = x} (each_more {x = p} {xs = ps} h a) (each_more {x = q} {xs = qs} g b) e =
    let t = same_line h g (lines_of ps ++ x) (lines_of qs) (sym (append_assoc (line_of p) (lines_of ps) x) ∙ e) in
    let more = lines_left a b t.1 in
    record { packs = more.packs; all = ap (λ (r : Pack). r ∷ qs) (sym t.0) ∙ ap (λ (rs : List Pack). p ∷ rs) more.all; lines = more.lines }
