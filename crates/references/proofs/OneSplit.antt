-- The components of a text are the ones that `split` finds. Assumes nothing.
use Prim.Native.Nat.{ℕ}
use mathlib.Core.Path.{◌≡◌, refl}
use mathlib.Core.List.{List, ◌++◌}
use Rattle.octets.specs.Text.{octets}
use Rattle.references.specs.AppendixA as rule
use Rattle.references.specs.Components.{Parts, Splits, marked, cut_scheme, cut_marked, recompose, split, before, from}
use Rattle.references.proofs.Clear.{Free}
use Rattle.references.proofs.Cuts.{before_free, from_free, cut_marked_lem, cut_scheme_lem, fragment_back}
use Rattle.references.proofs.Apart.{tail, part_free, tail_stops, query_follows, authority_follows, scheme_follows, path_free}

module _ (p : Parts) {w : List ℕ} (h : Splits w p) where
  -- what follows the scheme, and what follows the authority
  abbrev behind_authority : List ℕ
  behind_authority = p.path ++ tail p.query p.fragment

  abbrev behind_scheme : List ℕ
  behind_scheme = marked (octets "//") p.authority ++ behind_authority

  scheme_cut : cut_scheme (recompose p) ≡ record { part = p.scheme; rest = behind_scheme }
  scheme_cut =
      cut_scheme_lem p.scheme behind_scheme (part_free (octets ":/?#") rule.scheme p.scheme refl h.scheme)
      (scheme_follows p.scheme p.authority p.path p.query p.fragment h.path)

  authority_cut : cut_marked (octets "//") (octets "/?#") behind_scheme ≡ record { part = p.authority; rest = behind_authority }
  authority_cut =
      cut_marked_lem (octets "//") (octets "/?#") p.authority behind_authority
      (part_free (octets "/?#") rule.authority p.authority refl h.authority)
      (authority_follows p.scheme p.authority p.path p.query p.fragment h.path)

  path_is_free : Free (octets "?#") p.path
  path_is_free = path_free p.scheme p.authority p.path h.path

  path_cut : before (octets "?#") behind_authority ≡ p.path
  path_cut =
      before_free (octets "?#") p.path (tail p.query p.fragment) path_is_free
      (tail_stops (octets "?#") refl refl p.query p.fragment)

  path_left : from (octets "?#") behind_authority ≡ tail p.query p.fragment
  path_left =
      from_free (octets "?#") p.path (tail p.query p.fragment) path_is_free
      (tail_stops (octets "?#") refl refl p.query p.fragment)

  query_cut : cut_marked (octets "?") (octets "#") (tail p.query p.fragment)
      ≡ record { part = p.query; rest = marked (octets "#") p.fragment }
  query_cut =
      cut_marked_lem (octets "?") (octets "#") p.query (marked (octets "#") p.fragment)
      (part_free (octets "#") rule.query p.query refl h.query) (query_follows p.query p.fragment)

  pub one_split : p ≡ split w
  one_split =
      rw (h.whole, scheme_cut, authority_cut, path_cut, path_left, query_cut, fragment_back p.fragment) refl
