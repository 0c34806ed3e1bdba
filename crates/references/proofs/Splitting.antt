-- A text is a reference, a URI or an absolute-URI just if it splits so. Assumes nothing.
use Prim.Native.Nat.{ℕ}
use mathlib.Core.Path.{◌≡◌, refl, sym, ap, subst, ◌∙◌}
use mathlib.Core.List.{List, [], ◌∷◌, ◌++◌, append_assoc}
use mathlib.Core.Logic.{inl, inr}
use mathlib.Core.Option.{Option, none, some, IsSome}
use borrow.Author.Tests.{eqb-true}
use Rattle.octets.specs.Text.{octets}
use Rattle.rules.specs.Rule.{Rule, one, ◌then◌, Derives}
use Rattle.references.specs.Octets.{Octets, has, colon}
use Rattle.references.specs.AppendixA as rule
use Rattle.references.specs.AppendixA.{IsReference, IsURI, IsAbsoluteURI}
use Rattle.references.specs.Components.{Parts, Splits, ended, marked, DerivesPart, path_rule, split}
use Rattle.references.specs.Laws.{ReferenceSplits, URISplits, AbsoluteSplits}
use Rattle.references.proofs.Apart.{tail}
use Rattle.references.proofs.OneSplit.{one_split}
use Rattle.references.proofs.Parted.{Rest, rest_rule, hier_rule, query_rule, rest_parts}
use Rattle.references.proofs.Parted.{parts_rest, whole_rest, whole_has_none, rest_whole, alone}

-- ---- components with this scheme

abbrev parts_of : (s : Option (List ℕ)) (v : List ℕ) → Rest s v → Parts
parts_of s v r =
    record { scheme = s; authority = r.authority; path = r.path; query = r.query; fragment = r.fragment }

rest_splits : (s : Option (List ℕ)) (w v : List ℕ) → w ≡ ended (octets ":") s ++ v → DerivesPart rule.scheme s → (r : Rest s v)
    → Splits w (parts_of s v r)
rest_splits s w v e d r =
    record {
      whole = e ∙ ap (λ (x : List ℕ). ended (octets ":") s ++ x) r.whole;
      scheme = d;
      authority = r.by_authority;
      path = r.by_path;
      query = r.by_query;
      fragment = r.by_fragment;
    }

-- ---- behind a scheme

-- a scheme, and r behind its colon
abbrev schemed : Rule Octets → Rule Octets
schemed r = rule.scheme then one colon then r

schemed_whole : (r : Rule Octets) (w : List ℕ) (d : Derives has (schemed r) w) → w ≡ ended (octets ":") (some d.left) ++ d.second.right
schemed_whole r w d =
    go d.right d.second.left d.whole d.second.whole d.second.first.octet d.second.first.is
    (eqb-true d.second.first.octet 58 d.second.first.inside)
  where
    go : (x y : List ℕ) → w ≡ d.left ++ x → x ≡ y ++ d.second.right → (c : ℕ) → y ≡ c ∷ [] → c ≡ 58
        → w ≡ ended (octets ":") (some d.left) ++ d.second.right
    go x y e f c g h = rw (e, f, g, h) (sym (append_assoc d.left (octets ":") d.second.right))

schemed_derived : (r : Rule Octets) (w u v : List ℕ) → w ≡ ended (octets ":") (some u) ++ v → Derives has rule.scheme u → Derives has r v
    → Derives has (schemed r) w
schemed_derived r w u v e d h =
    record {
      left = u;
      right = 58 ∷ v;
      whole = e ∙ append_assoc u (octets ":") v;
      first = d;
      second = record { left = 58 ∷ []; right = v; whole = refl; first = alone colon 58 refl; second = h };
    }

-- ---- from a derivation

found : (w : List ℕ) (p : Parts) → Splits w p → Splits w (split w)
found w p h = subst (Splits w) (one_split p h) h

-- what follows the scheme of a URI
abbrev rest_of : (w : List ℕ) (d : IsURI w) → Rest (some d.left) d.second.right
rest_of w d = rest_parts (some d.left) d.second.right d.second.second

abbrev parts_of_uri : (w : List ℕ) → IsURI w → Parts
parts_of_uri w d = parts_of (some d.left) d.second.right (rest_of w d)

uri_parts : (w : List ℕ) (d : IsURI w) → Splits w (parts_of_uri w d)
uri_parts w d =
    rest_splits (some d.left) w d.second.right (schemed_whole (rest_rule (some [])) w d) d.first (rest_of w d)

uri_scheme : (w : List ℕ) → IsURI w → IsSome (split w).scheme
uri_scheme w d = subst (λ p. IsSome p.scheme) (one_split (parts_of_uri w d) (uri_parts w d)) tt

reference_splits : (w : List ℕ) → IsReference w → Splits w (split w)
reference_splits w (inl d) = found w (parts_of_uri w d) (uri_parts w d)
reference_splits w (inr d) =
    found w (parts_of none w (rest_parts none w d)) (rest_splits none w w refl tt (rest_parts none w d))

absolute_uri_lem : (w : List ℕ) → IsAbsoluteURI w → IsURI w
absolute_uri_lem w d =
    schemed_derived (rest_rule (some [])) w d.left d.second.right (schemed_whole (hier_rule (some []) then query_rule) w d)
    d.first (whole_rest (some d.left) d.second.right d.second.second)

absolute_fragment : (w : List ℕ) → IsAbsoluteURI w → (split w).fragment ≡ none
unfolding absolute_uri_lem schemed_derived
absolute_fragment w d =
    let e = absolute_uri_lem w d in
    ap (λ (p : Parts). p.fragment) (sym (one_split (parts_of_uri w e) (uri_parts w e)))
    ∙ whole_has_none (some d.left) d.second.right d.second.second

-- ---- from components

behind_scheme : (w : List ℕ) (p : Parts) → Splits w p
    → Rest p.scheme (marked (octets "//") p.authority ++ (p.path ++ tail p.query p.fragment))
behind_scheme w p h =
    record {
      authority = p.authority;
      path = p.path;
      query = p.query;
      fragment = p.fragment;
      whole = refl;
      by_authority = h.authority;
      by_path = h.path;
      by_query = h.query;
      by_fragment = h.fragment;
    }

schemed_reference : (s : Option (List ℕ)) (w v : List ℕ) → w ≡ ended (octets ":") s ++ v → DerivesPart rule.scheme s → Rest s v
    → IsReference w
schemed_reference none w v e d r = inr (rw e (parts_rest none v r))
schemed_reference (some u) w v e d r = inl (schemed_derived (rest_rule (some u)) w u v e d (parts_rest (some u) v r))

schemed_uri : (s : Option (List ℕ)) (w v : List ℕ) → w ≡ ended (octets ":") s ++ v → DerivesPart rule.scheme s → Rest s v → IsSome s
    → IsURI w
schemed_uri none w v e d r i = absurd i
schemed_uri (some u) w v e d r i = schemed_derived (rest_rule (some u)) w u v e d (parts_rest (some u) v r)

schemed_absolute : (s : Option (List ℕ)) (w v : List ℕ) → w ≡ ended (octets ":") s ++ v → DerivesPart rule.scheme s → (r : Rest s v)
    → IsSome s → r.fragment ≡ none → IsAbsoluteURI w
schemed_absolute none w v e d r i n = absurd i
schemed_absolute (some u) w v e d r i n =
    schemed_derived (hier_rule (some u) then query_rule) w u v e d (rest_whole (some u) v r n)

one_of_five : (s a : Option (List ℕ)) (w : List ℕ) → Derives has (path_rule s a) w → Derives has rule.path w
one_of_five s (some a) w d = inl d
one_of_five (some s) none w (inl d) = inr (inl d)
one_of_five (some s) none w (inr (inl d)) = inr (inr (inr (inl d)))
one_of_five (some s) none w (inr (inr d)) = inr (inr (inr (inr d)))
one_of_five none none w (inl d) = inr (inl d)
one_of_five none none w (inr (inl d)) = inr (inr (inl d))
one_of_five none none w (inr (inr d)) = inr (inr (inr (inr d)))

-- ---- the laws

pub references_split : ReferenceSplits
references_split =
    record {
      splits = reference_splits;
      only_so = λ w p h. schemed_reference p.scheme w _ h.whole h.scheme (behind_scheme w p h);
      one = λ w p h. one_split p h;
      path = λ w p h. one_of_five p.scheme p.authority p.path h.path;
    }

pub uris_split : URISplits
uris_split =
    record {
      splits = λ w d. reference_splits w (inl d);
      scheme = uri_scheme;
      only_so = λ w p h. schemed_uri p.scheme w _ h.whole h.scheme (behind_scheme w p h);
    }

pub absolutes_split : AbsoluteSplits
unfolding behind_scheme
absolutes_split =
    record {
      splits = λ w d. reference_splits w (inl (absolute_uri_lem w d));
      scheme = λ w d. uri_scheme w (absolute_uri_lem w d);
      fragment = absolute_fragment;
      only_so = λ w p h. schemed_absolute p.scheme w _ h.whole h.scheme (behind_scheme w p h);
    }
