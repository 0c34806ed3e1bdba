-- What the two runs of a line tell of it. Assumes nothing.
use Prim.Native.Nat.{ℕ, suc, ◌+◌, ◌-◌, ◌≤◌, ◌<◌}
use native.Mathlib.Omega.{arith}
use native.Mathlib.Numerals.{add-one}
use mathlib.Core.Path.{◌≡◌, refl, sym, ap, subst, ◌∙◌}
use mathlib.Core.Bool.{Bool, true, false, not, ◌&&◌, ◌||◌, false≢true}
use mathlib.Core.List.{List, [], ◌∷◌, ◌++◌}
use mathlib.Core.Option.{Option, none, some}
use lib.Dec.{eqb}
use lib.ListN.{length, get_or, take, drop}
use lib.Seq.{slice, drop-cons}
use Rattle.octets.specs.Text.{octets}
use Rattle.octets.specs.Sets.{one_of}
use Rattle.octets.proofs.Laws.{slice_take_drop}
use borrow.Author.Tests.{eqb-true}
use Rattle.references.specs.AppendixA.{absolute_uri, IsURI, IsAbsoluteURI}
use Rattle.references.specs.Components.{Parts, marked, ended, recompose, split}
use Rattle.references.proofs.Clear.{Free, clear_free}
use Rattle.references.proofs.Splitting.{uris_split, absolutes_split}
use Rattle.cursor.specs.Passed.{Passed}
use Rattle.pack_index.specs.declared.PackPlaces.{PackPlaces}
use Rattle.pack_index.specs.Index.{Placed, uri_in, value_in}
use Rattle.pack_lines.specs.Lines.{in_uri, in_value, IsLine, LineRead, line, none as no_line}
use Rattle.std.specs.Prelude.{Some, None}
use Rattle.pack_lines.proofs.Cutting.{Outside, two_parts, passed_free, cut_front, cut_behind, first_left}

uri_outside : Outside (9 ∷ 10 ∷ 35 ∷ []) in_uri
uri_outside =
    record {
      free = λ c. free (eqb c 9) (eqb c 10) (eqb c 35);
      stops = λ c. stops (eqb c 9) (eqb c 10) (eqb c 35);
    }
  where
    free : (x y z : Bool) → (not x && not y && not z) ≡ true → (x || (y || (z || false))) ≡ false
    free true y z e = sym e
    free false true z e = sym e
    free false false true e = sym e
    free false false false e = refl

    stops : (x y z : Bool) → (not x && not y && not z) ≡ false → (x || (y || (z || false))) ≡ true
    stops true y z e = refl
    stops false true z e = refl
    stops false false true e = refl
    stops false false false e = sym e

value_outside : Outside (10 ∷ []) in_value
value_outside = record { free = λ c. free (eqb c 10); stops = λ c. stops (eqb c 10) }
  where
    free : (x : Bool) → not x ≡ true → (x || false) ≡ false
    free true e = sym e
    free false e = refl

    stops : (x : Bool) → not x ≡ false → (x || false) ≡ true
    stops true e = refl
    stops false e = sym e

-- ---- an absolute-URI is a URI without `#`

pub absolute_uri_lem : (w : List ℕ) → IsAbsoluteURI w → IsURI w
absolute_uri_lem w a = uris_split.only_so w (split w) (absolutes_split.splits w a) (absolutes_split.scheme w a)

free_second : (cs u v : List ℕ) → Free cs (u ++ v) → Free cs v
free_second cs [] v f = f
free_second cs (c ∷ u) v f = free_second cs u v f.1

no_fragment : (p : Parts) → Free (9 ∷ 10 ∷ 35 ∷ []) (recompose p) → p.fragment ≡ none
no_fragment p f =
    go p.fragment
    (free_second cs (marked (octets "?") p.query) _
    (free_second cs p.path _
    (free_second cs (marked (octets "//") p.authority) _ (free_second cs (ended (octets ":") p.scheme) _ f))))
  where
    cs : List ℕ
    cs = 9 ∷ 10 ∷ 35 ∷ []

    go : (o : Option (List ℕ)) → Free (9 ∷ 10 ∷ 35 ∷ []) (marked (octets "#") o) → o ≡ none
    go none g = refl
    go (some u) g = absurd (false≢true (sym g.0))

pub uri_absolute : (w : List ℕ) → IsURI w → Free (9 ∷ 10 ∷ 35 ∷ []) w → IsAbsoluteURI w
uri_absolute w u f =
    let parts = uris_split.splits w u in
    absolutes_split.only_so w (split w) parts (uris_split.scheme w u)
    (no_fragment (split w) (subst (Free (9 ∷ 10 ∷ 35 ∷ [])) parts.whole f))

-- ---- the URI of a line goes up to t

module _ {s : List ℕ} {a t : ℕ} (p : Passed in_uri s a t) where
  module _ {u v x : List ℕ} (l : IsLine (drop a s) u v x) where
    uri_here : slice a t s ≡ u
    uri_here =
        cut_front uri_outside p u (9 ∷ (v ++ (10 ∷ x))) (clear_free (9 ∷ 10 ∷ 35 ∷ []) absolute_uri refl u l.uri) refl l.whole

    left_here : (t < length s) × (get_or s t 0 ≡ 9) × (drop (suc t) s ≡ v ++ (10 ∷ x))
    left_here =
        first_left s t 9
        (cut_behind uri_outside p u (9 ∷ (v ++ (10 ∷ x))) (clear_free (9 ∷ 10 ∷ 35 ∷ []) absolute_uri refl u l.uri) refl l.whole)

  pub ends_early : length s ≤ t → LineRead s a None
  ends_early h = no_line (λ u v x l. omega (arith, h, (left_here l).0))

  pub no_tab : (get_or s t 0 ≡ 9 → ⊥) → LineRead s a None
  no_tab n = no_line (λ u v x l. n (left_here l).1)

  pub no_uri : (IsURI (take (t - a) (drop a s)) → ⊥) → LineRead s a None
  no_uri n =
      no_line
      (λ u v x l. n
      (subst IsURI (sym (uri_here l) ∙ slice_take_drop a t s p.forward) (absolute_uri_lem u l.uri)))

  -- its value goes up to e
  module _ {e : ℕ} (q : Passed in_value s (t + 1) e) where
    value_behind : {u v x : List ℕ} → IsLine (drop a s) u v x → e < length s
    value_behind {u} {v} {x} l =
        (first_left s e 10
        (cut_behind value_outside q v (10 ∷ x) l.value refl (ap (λ (k : ℕ). drop k s) (add-one t) ∙ (left_here l).2))).0

    pub no_end : length s ≤ e → LineRead s a None
    no_end h = no_line (λ u v x l. omega (arith, h, value_behind l))

    module _ (tab : get_or s t 0 ≡ 9) (inside : e < length s) (uri : IsURI (take (t - a) (drop a s))) where
      pub told : LineRead s a (Some (record { from = record { 0 = a }; tab = record { 0 = t }; end = record { 0 = e } }))
      told =
          line {p = record { from = record { 0 = a }; tab = record { 0 = t }; end = record { 0 = e } }} refl
          (record { uri = p.forward; value = omega (arith, q.forward); inside = inside })
          (record {
            uri =
                uri_absolute (slice a t s) (subst IsURI (sym (slice_take_drop a t s p.forward)) uri) (passed_free uri_outside p);
            value = passed_free value_outside q;
            whole = whole;
          })
        where
          lf : get_or s e 0 ≡ 10
          lf = eqb-true (get_or s e 0) 10 (ends (eqb (get_or s e 0) 10) (q.stops inside))
            where
              ends : (b : Bool) → not b ≡ false → b ≡ true
              ends true w = refl
              ends false w = sym w

          behind_tab : drop (suc t) s ≡ slice (t + 1) e s ++ (10 ∷ drop (suc e) s)
          behind_tab =
              ap (λ (k : ℕ). drop k s) (sym (add-one t))
              ∙ two_parts s (t + 1) e q.forward q.inside
              ∙ ap (λ (w : List ℕ). slice (t + 1) e s ++ w)
              (drop-cons s e 0 inside ∙ ap (λ (c : ℕ). c ∷ drop (suc e) s) lf)

          whole : drop a s ≡ slice a t s ++ (9 ∷ (slice (t + 1) e s ++ (10 ∷ drop (suc e) s)))
          whole =
              two_parts s a t p.forward p.inside
              ∙ ap (λ (w : List ℕ). slice a t s ++ w)
              (drop-cons s t 0 (omega (arith, q.forward, inside)) ∙ ap (λ (c : ℕ). c ∷ drop (suc t) s) tab
              ∙ ap (λ (w : List ℕ). 9 ∷ w) behind_tab)
