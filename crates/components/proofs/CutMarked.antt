-- An authority and a query as code finds them: each stands behind its mark, or isn't there. Assumes nothing.
use Prim.Native.Nat.{ℕ, ◌+◌, ◌≤◌, ◌<◌}
use native.Mathlib.Omega.{arith}
use mathlib.Core.Path.{◌≡◌, refl, ap, ◌∙◌}
use mathlib.Core.List.{List, [], ◌∷◌, ◌++◌}
use mathlib.Core.Option.{none}
use lib.ListN.{length}
use Rattle.octets.specs.Text.{octets}
use Rattle.references.specs.Components.{behind}
use Rattle.bare.specs.Bare.{bare_of, Past}
use Rattle.components.specs.Looks.{At, Plain, Found}
use Rattle.components.specs.Steps.{AuthorityCut, QueryCut}
use Rattle.components.proofs.Marks.{mark_first, mark_none, past_over}
use Rattle.components.proofs.CutOff.{marked_none, marked_some, cut_past}

module _ {s : List ℕ} {a e : ℕ} (h : a ≤ e) (l : e ≤ length s) where
  pub no_query : Plain s a e → (At s a e 63 → ⊥) → QueryCut s a e a
  no_query p n = marked_none (octets "?") (octets "#") h (mark_none n p l [])

  pub some_query : At s a e 63 → {j r : ℕ} → j ≡ a + 1 → Found (octets "#") s j e r → QueryCut s a e r
  some_query t {j} {r} m f =
      marked_some (octets "?") (octets "#") (omega (arith, m))
      (ap (behind (octets "?")) (mark_first t refl m e (omega (arith, m, t.place)) l))
      f
      (mark_first t refl m r f.forward (omega (arith, f.inside)))

  no_slashes : Plain s a e → behind (octets "//") (bare_of s a e) ≡ none → AuthorityCut s a e a
  no_slashes p q = record { cut = marked_none (octets "//") (octets "/?#") h q; plain = p }

  pub no_slash : Plain s a e → (At s a e 47 → ⊥) → AuthorityCut s a e a
  no_slash p n = no_slashes p (mark_none n p l (octets "/"))

  -- behind one slash, at place k past backslashes
  module _ (t : At s a e 47) {j k : ℕ} (m : j ≡ a + 1) (p : Past s j e k) where
    one_slash : (r : ℕ) → k ≤ r → r ≤ e → bare_of s a r ≡ 47 ∷ bare_of s k r
    one_slash r g i =
        mark_first t refl m r (omega (arith, p.from)) (omega arith) ∙ ap (λ (u : List ℕ). 47 ∷ u) (past_over p r g)

    pub no_second : Plain s a e → (At s k e 47 → ⊥) → AuthorityCut s a e a
    no_second q n =
        no_slashes q (ap (behind (octets "//")) (one_slash e p.to (omega arith)) ∙ mark_none n p.octet l [])

    two_slashes : At s k e 47 → {i : ℕ} → i ≡ k + 1 → (r : ℕ) → i ≤ r → r ≤ e → bare_of s a r ≡ octets "//" ++ bare_of s i r
    two_slashes v w r g z =
        one_slash r (omega (arith, w)) z ∙ ap (λ (u : List ℕ). 47 ∷ u) (mark_first v refl w r g (omega arith))

    pub some_authority : At s k e 47 → {i n r : ℕ} → i ≡ k + 1 → Found (octets "/?#") s i e n → Past s n e r → AuthorityCut s a e r
    some_authority v {i} {n} w f z =
        let forward : a < i = omega (arith, m, w, p.from) in
        let cut' =
        marked_some (octets "//") (octets "/?#") forward
        (ap (behind (octets "//")) (two_slashes v w e (omega (arith, w, v.place)) (omega arith)))
        f
        (two_slashes v w n f.forward f.inside)
        in
        record { cut = cut_past (omega (arith, f.forward)) cut' z; plain = z.octet }
