-- A path with a slash first, or one that is merged.
use native.Mathlib.Omega.{arith}
use Rattle.routing.proofs.Rooting.{cut_clean}
use Rattle.routing.proofs.Planning.{by_slash, by_merge}
use Rattle.routing.proofs.by_path.Goals as goal

pub bounds-s-at : goal.bounds-s-at
bounds-s-at c =
    omega (arith, c.requires.scheme_value.2, c.requires.in_text.1.fragment_after, c.requires.in_text.1.in_part, c.requires.in_text.0.inside)

pub returns-then-s-at-eq47 : goal.returns-then-s-at-eq47
returns-then-s-at-eq47 c =
    let k = cut_clean _ _ c.requires.cuts_of.1 c.requires.cuts_of.0 in
    rw c.up_to.ensures (by_slash _ _ _ _ _ _ c.requires.cuts_of.1 k c.requires.in_text.1 c.requires.scheme_value.0 c.requires.scheme_value.1 c.requires.scheme_value.2 c.if-s-at-eq47.true)

pub returns : goal.returns
returns c =
    let k = cut_clean _ _ c.requires.cuts_of.1 c.requires.cuts_of.0 in
    by_merge _ _ _ _ _ _ c.requires.cuts_of.1 k c.requires.in_text.1 c.requires.scheme_value.0 c.requires.scheme_value.1 c.requires.scheme_value.2 c.if-s-at-eq47.false _ c.root.ensures
