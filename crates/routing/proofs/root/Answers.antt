-- A slash of the authority, or the folder.
use mathlib.Core.Logic.{inl, inr}
use borrow.Author.Tests.{ltb-true}
use Rattle.routing.proofs.Rooting.{cut_clean, slash_root, folder_root}
use Rattle.routing.proofs.root.Goals as goal
use Rattle.routing.proofs.root.Goals.{else-query-path-via-then-query-path+else-scheme-path, else-query-path-via-else-query-path}

pub returns-then-scheme-path : goal.returns-then-scheme-path
returns-then-scheme-path c =
    let p = c.requires in
    let e = c.if-query-path.true in
    slash_root _ _ p.1 (cut_clean _ _ p.1 p.0) e (ltb-true _ _ c.if-scheme-path.true-raw) _
    c.next.ensures

pub returns : goal.returns
returns c =
    let p = c.requires in
    folder_root _ _ p.1 (cut_clean _ _ p.1 p.0) _ c.folder_end.ensures
    (elim c.else-query-path.branch [
      | else-query-path-via-then-query-path+else-scheme-path w ↦ inr w.if-scheme-path.false
      | else-query-path-via-else-query-path w ↦ inl w.if-query-path.false
    ])
