-- The pack of a number: where its parts stand, and a step from it. Assumes nothing.
use Prim.Native.Nat.{ℕ, ◌+◌, ◌-◌, ◌≤◌, ◌<◌}
use native.Mathlib.Omega.{arith}
use mathlib.Core.Path.{◌≡◌, refl, sym, ap, subst, ◌∙◌}
use mathlib.Core.List.{List, [], ◌∷◌}
use mathlib.Core.Option.{Option, some}
use lib.ListN.{length, take, drop}
use Rattle.references.specs.AppendixA.{absolute_uri}
use Rattle.references.proofs.Clear.{Free, clear_free}
use Rattle.catalogues.specs.Packs.{Pack, RightPack}
use Rattle.catalogues.specs.Steps.{pack_at, step_by, step_of}
use Rattle.pack_index.specs.declared.PackPlaces.{PackPlaces}
use Rattle.pack_index.specs.Index.{places_at, Placed, uri_in, value_in}
use Rattle.accepting.specs.Accepted.{Accepted}
use Rattle.catalogue_check.specs.Checked.{tables}
use Rattle.catalogues.proofs.Packing.{pack_there, each_at}
use Rattle.catalogue_check.proofs.Adding.{uri_part, value_part}
use Rattle.std.specs.Prelude.{Result}
use Rattle.kinds.specs.declared.PackNumber.{PackNumber}
use Rattle.answers.specs.declared.walk_answer.End.{End}
use Rattle.target_steps.specs.Stepped.{Listed, Stands, step_out}
use Rattle.stepping.specs.Known.{Known, KnownPacks, StepsOn, StepsFrom}

-- pack number i, and the places that are read for it
record PackOf (s : List ℕ) (l p : ℕ) (ps : List Pack) (i : ℕ) (x : PackPlaces) : Type 0 where
  pack : Pack
  at : pack_at ps i ≡ some pack
  right : RightPack (tables l p) pack
  placed : Placed s x
  uri : take (x.tab.0 - x.from.0) (drop x.from.0 s) ≡ pack.uri
  value : take (x.end.0 - (x.tab.0 + 1)) (drop (x.tab.0 + 1) s) ≡ pack.value

pack_of : {s X : List ℕ} {n l p : ℕ} {ps : List Pack} → Known s X n l p ps → {i : ℕ} → i < n → {x : PackPlaces} → x ≡ places_at X i
    → PackOf s l p ps i x
pack_of {s} {ps = ps} k {i} h {x} e =
    let (q, at) = pack_there ps i (omega (arith, h, k.listed.count)) in
    let here = k.listed.indexed i q at in
    let placed = subst (Placed s) (sym e) here.placed in
    record {
      pack = q;
      at = at;
      right = each_at ps i k.right at;
      placed = placed;
      uri = uri_part placed ∙ ap (uri_in s) e ∙ here.uri;
      value = value_part placed ∙ ap (value_in s) e ∙ here.value;
    }

module _ {s X : List ℕ} {n l p : ℕ} (k : KnownPacks s X n l p) {i : ℕ} (h : i < n) {x : PackPlaces} (e : x ≡ places_at X i) where
  pub placed_here : Placed s x
  placed_here = (pack_of k.1 h e).placed

  pub stands : Stands s X n
  stands = (k.0, k.1.listed)

  pub uri_clean : Free (92 ∷ []) (take (x.tab.0 - x.from.0) (drop x.from.0 s))
  uri_clean =
      let q = pack_of k.1 h e in
      subst (Free (92 ∷ [])) (sym q.uri) (clear_free (92 ∷ []) absolute_uri refl q.pack.uri q.right.uri)

  pub value_accepted : Accepted (take (x.end.0 - (x.tab.0 + 1)) (drop (x.tab.0 + 1) s)) l p
  value_accepted =
      let q = pack_of k.1 h e in
      subst (λ (v : List ℕ). Accepted v l p) (sym q.value)
      (record {
        links = q.pack.links;
        short = q.right.short;
        reading = q.right.reading;
        link_room = q.right.link_room;
        param_room = q.right.param_room;
      })

  pub steps_from : (q : List ℕ) (r : Result PackNumber End)
      → StepsOn s X n (take (x.tab.0 - x.from.0) (drop x.from.0 s)) (take (x.end.0 - (x.tab.0 + 1)) (drop (x.tab.0 + 1) s)) q r
      → StepsFrom s X n l p q i r
  steps_from q r f ps known =
      let o = pack_of known h e in
      let g : StepsOn s X n o.pack.uri o.pack.value q r =
      subst (λ (v : List ℕ). StepsOn s X n o.pack.uri v q r) o.value (subst (λ (u : List ℕ). StepsOn s X n u (take (x.end.0 - (x.tab.0 + 1)) (drop (x.tab.0 + 1) s)) q r) o.uri f) in
      ap (step_by ps q) o.at ∙ g ps known.listed o.pack.links o.right.reading
