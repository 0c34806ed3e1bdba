-- One case for each kind of reference.
use Rattle.routing.proofs.Rooting.{cut_clean}
use Rattle.routing.proofs.Planning.{by_scheme, by_authority, by_query, by_nothing}
use Rattle.routing.proofs.planned.Goals as goal

pub returns-then-r : goal.returns-then-r
returns-then-r c =
    let k = cut_clean _ _ c.requires.cuts_of.1 c.requires.cuts_of.0 in
    rw c.up_to.ensures (by_scheme _ _ _ _ _ _ c.requires.cuts_of.1 k c.requires.in_text.1 c.if-r.true)

pub returns-then-r-2 : goal.returns-then-r-2
returns-then-r-2 c =
    let k = cut_clean _ _ c.requires.cuts_of.1 c.requires.cuts_of.0 in
    rw c.up_to-then-r-2.ensures (by_authority _ _ _ _ _ _ c.requires.cuts_of.1 k c.requires.in_text.1 c.if-r.false c.if-r-2.true)

pub by_path-requires : goal.by_path-requires
by_path-requires c =
    record {
      cuts_of = c.requires.cuts_of;
      in_text = c.requires.in_text;
      scheme_value = (c.if-r.false, c.if-r-2.false, c.if-r-3.true);
    }

pub returns-then-r-4 : goal.returns-then-r-4
returns-then-r-4 c =
    let k = cut_clean _ _ c.requires.cuts_of.1 c.requires.cuts_of.0 in
    let m = c.if-r.false in
    let n = c.if-r-2.false in
    rw c.up_to-then-r-4.ensures (by_query _ _ _ _ _ _ c.requires.cuts_of.1 k c.requires.in_text.1 m n c.if-r-3.false c.if-r-4.true)

pub returns : goal.returns
returns c =
    let k = cut_clean _ _ c.requires.cuts_of.1 c.requires.cuts_of.0 in
    let m = c.if-r.false in
    let n = c.if-r-2.false in
    rw c.up_to-2.ensures (by_nothing _ _ _ _ _ _ c.requires.cuts_of.1 k c.requires.in_text.1 m n c.if-r-3.false c.if-r-4.false)
