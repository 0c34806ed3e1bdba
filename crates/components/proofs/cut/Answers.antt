-- The cuts stand one behind another.
use Rattle.components.proofs.Whole.{path_end, cuts_of}
use Rattle.components.proofs.cut.Goals as goal

pub past_query-fragment-requires : goal.past_query-fragment-requires
past_query-fragment-requires c =
    let inside = c.requires.inside in
    let end = c.find-query.ensures in
    (record { ordered = end.inside; inside = inside }, path_end end)

pub returns : goal.returns
returns c =
    let from' = c.past-from.ensures in
    let scheme' = c.past_scheme-scheme.ensures in
    let authority' = c.past_authority-path.ensures in
    cuts_of c.args.s.now _ _ c.requires.inside _ from' scheme' authority' c.find-query.ensures c.past_query-fragment.ensures
