-- From a derivation to components, and back. Assumes nothing.
use Prim.Native.Nat.{ℕ}
use mathlib.Core.Path.{◌≡◌, refl, sym, ◌∙◌}
use mathlib.Core.Bool.{true}
use mathlib.Core.List.{List, [], ◌∷◌, ◌++◌, append_assoc, append-nil}
use mathlib.Core.Logic.{inl, inr}
use mathlib.Core.Option.{Option, none, some}
use borrow.Author.Tests.{eqb-true}
use Rattle.octets.specs.Text.{octets}
use Rattle.rules.specs.Rule.{Rule, one, ◌then◌, ◌or◌, optional, Single, Derives}
use Rattle.references.specs.Octets.{Octets, has, slash, question, hash}
use Rattle.references.specs.AppendixA as rule
use Rattle.references.specs.Components.{marked, DerivesPart, path_rule}
use Rattle.references.proofs.Apart.{tail}

-- the octet c, by a set that has it, and none other
pub alone : (f : Octets) (c : ℕ) → has f c ≡ true → Single (has f) (c ∷ [])
alone f c h = record { octet = c; is = refl; inside = h }

-- ---- an optional part with its mark

-- the octet c is the only one of f
abbrev Only : Octets → ℕ → Type 0
Only f c = (x : ℕ) → has f x ≡ true → x ≡ c

optional_part : (f : Octets) (c : ℕ) (only : Only f c) (r : Rule Octets) (w : List ℕ) → Derives has (optional (one f then r)) w
    → (o : Option (List ℕ)) × (w ≡ marked (c ∷ []) o) × DerivesPart r o
optional_part f c only r w (inl d) =
    (some d.right, rw (d.whole, d.first.is, only d.first.octet d.first.inside) refl, d.second)
optional_part f c only r w (inr e) = (none, e, tt)

part_optional : (f : Octets) (c : ℕ) → has f c ≡ true → (r : Rule Octets) (o : Option (List ℕ)) → DerivesPart r o
    → Derives has (optional (one f then r)) (marked (c ∷ []) o)
part_optional f c h r none d = inr refl
part_optional f c h r (some u) d =
    inl (record { left = c ∷ []; right = u; whole = refl; first = alone f c h; second = d })

-- ---- an authority and a path

-- relative-part, or behind a scheme hier-part
abbrev pub hier_rule : Option (List ℕ) → Rule Octets
hier_rule s = one slash then one slash then rule.authority then rule.path_abempty or path_rule s none

pub record Hier (s : Option (List ℕ)) (w : List ℕ) : Type 0 where
  pub authority : Option (List ℕ)
  pub path : List ℕ
  pub whole : w ≡ marked (octets "//") authority ++ path
  pub by_authority : DerivesPart rule.authority authority
  pub by_path : Derives has (path_rule s authority) path

slash_is : (w : List ℕ) (d : Single (has slash) w) → w ≡ 47 ∷ []
slash_is w d = rw (d.is, eqb-true d.octet 47 d.inside) refl

hier_parts : (s : Option (List ℕ)) (w : List ℕ) → Derives has (hier_rule s) w → Hier s w
hier_parts s w (inl d) =
    let e = d.second in
    let g = e.second in
    record {
      authority = some g.left;
      path = g.right;
      whole = rw (d.whole, e.whole, g.whole, slash_is d.left d.first, slash_is e.left e.first) refl;
      by_authority = g.first;
      by_path = g.second;
    }
hier_parts s w (inr d) = record { authority = none; path = w; whole = refl; by_authority = tt; by_path = d }

parts_hier : (s a : Option (List ℕ)) (v : List ℕ) → DerivesPart rule.authority a → Derives has (path_rule s a) v
    → Derives has (hier_rule s) (marked (octets "//") a ++ v)
parts_hier s none v d e = inr e
parts_hier s (some a) v d e =
    inl
    (record {
      left = 47 ∷ [];
      right = 47 ∷ (a ++ v);
      whole = refl;
      first = alone slash 47 refl;
      second =
          record {
            left = 47 ∷ [];
            right = a ++ v;
            whole = refl;
            first = alone slash 47 refl;
            second = record { left = a; right = v; whole = refl; first = d; second = e };
          };
    })

-- ---- all that follows the scheme

abbrev pub query_rule : Rule Octets
query_rule = optional (one question then rule.query)

abbrev pub rest_rule : Option (List ℕ) → Rule Octets
rest_rule s = hier_rule s then query_rule then optional (one hash then rule.fragment)

-- what follows the scheme s is of these parts
pub record Rest (s : Option (List ℕ)) (w : List ℕ) : Type 0 where
  pub authority : Option (List ℕ)
  pub path : List ℕ
  pub query : Option (List ℕ)
  pub fragment : Option (List ℕ)
  pub whole : w ≡ marked (octets "//") authority ++ (path ++ tail query fragment)
  pub by_authority : DerivesPart rule.authority authority
  pub by_path : Derives has (path_rule s authority) path
  pub by_query : DerivesPart rule.query query
  pub by_fragment : DerivesPart rule.fragment fragment

joined : (w l r x y a v q f : List ℕ) → w ≡ l ++ r → l ≡ a ++ v → r ≡ x ++ y → x ≡ q → y ≡ f → w ≡ a ++ (v ++ (q ++ f))
joined w l r x y a v q f e g h i j = rw (e, g, h, i, j) (append_assoc a v (q ++ f))

pub rest_parts : (s : Option (List ℕ)) (w : List ℕ) → Derives has (rest_rule s) w → Rest s w
rest_parts s w d =
    let h = hier_parts s d.left d.first in
    let e = d.second in
    let q = optional_part question 63 (λ x. eqb-true x 63) rule.query e.left e.first in
    let f = optional_part hash 35 (λ x. eqb-true x 35) rule.fragment e.right e.second in
    record {
      authority = h.authority;
      path = h.path;
      query = q.0;
      fragment = f.0;
      whole =
          joined w d.left d.right e.left e.right (marked (octets "//") h.authority) h.path
          (marked (octets "?") q.0) (marked (octets "#") f.0) d.whole h.whole e.whole q.1 f.1;
      by_authority = h.by_authority;
      by_path = h.by_path;
      by_query = q.2;
      by_fragment = f.2;
    }

pub parts_rest : (s : Option (List ℕ)) (w : List ℕ) → Rest s w → Derives has (rest_rule s) w
parts_rest s w r =
    record {
      left = marked (octets "//") r.authority ++ r.path;
      right = tail r.query r.fragment;
      whole = r.whole ∙ sym (append_assoc (marked (octets "//") r.authority) r.path (tail r.query r.fragment));
      first = parts_hier s r.authority r.path r.by_authority r.by_path;
      second =
          record {
            left = marked (octets "?") r.query;
            right = marked (octets "#") r.fragment;
            whole = refl;
            first = part_optional question 63 refl rule.query r.query r.by_query;
            second = part_optional hash 35 refl rule.fragment r.fragment r.by_fragment;
          };
    }

-- ---- without a fragment

pub whole_rest : (s : Option (List ℕ)) (w : List ℕ) → Derives has (hier_rule s then query_rule) w → Derives has (rest_rule s) w
whole_rest s w d =
    record {
      left = d.left;
      right = d.right;
      whole = d.whole;
      first = d.first;
      second = record { left = d.right; right = []; whole = sym (append-nil d.right); first = d.second; second = inr refl };
    }

pub whole_has_none : (s : Option (List ℕ)) (w : List ℕ) (d : Derives has (hier_rule s then query_rule) w)
    → (rest_parts s w (whole_rest s w d)).fragment ≡ none
unfolding rest_parts whole_rest optional_part
whole_has_none s w d = refl

pub rest_whole : (s : Option (List ℕ)) (w : List ℕ) (r : Rest s w) → r.fragment ≡ none → Derives has (hier_rule s then query_rule) w
rest_whole s w r e =
    record {
      left = marked (octets "//") r.authority ++ r.path;
      right = marked (octets "?") r.query;
      whole =
          rw (r.whole, e, append-nil (marked (octets "?") r.query))
          (sym (append_assoc (marked (octets "//") r.authority) r.path (marked (octets "?") r.query)));
      first = parts_hier s r.authority r.path r.by_authority r.by_path;
      second = part_optional question 63 refl rule.query r.query r.by_query;
    }
