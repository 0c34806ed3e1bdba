-- A link is looked for, and its target followed.
use Rattle.paces.specs.Paces.{relation_on}
use Rattle.stepping.proofs.OnPack.{target_told, nowhere_told, no_link_on, target_on_lem}
use Rattle.stepping.proofs.step_along.Goals as goal

pub target_pack-requires : goal.target_pack-requires
target_pack-requires c =
    let f = target_told c.followed.ensures c.in-Some.is in
    record {
      stands = (c.requires.stands.0, c.requires.stands.1, c.requires.stands.2);
      in_text = (f.inside, f.reference, c.requires.table_read.usable.short);
    }

pub returns-in_default : goal.returns-in_default
returns-in_default c =
    let g = c.args in
    no_link_on g.p.now.text.now g.p.now.index.now g.p.now.count g.uri.now g.t.now.text.now (relation_on g.way) c.requires.table_read
    (nowhere_told c.followed.ensures c.in_default.is)

pub returns : goal.returns
returns c =
    let g = c.args in
    target_on_lem g.p.now.text.now g.p.now.index.now g.p.now.count g.uri.now g.t.now.text.now (relation_on g.way) c.requires.table_read c.target_pack.result
    (target_told c.followed.ensures c.in-Some.is) c.target_pack.ensures
