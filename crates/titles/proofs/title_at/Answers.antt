-- A right `title*` is written, and else `title`.
use Rattle.outcomes.specs.Title.{no_such_link}
use Rattle.decoding.proofs.Judging.{right_given, right_counted}
use Rattle.titles.proofs.TitleOf.{listed_here, no_star, star_inside, wrong_star, plain_titled, right_titled}
use Rattle.titles.proofs.title_at.Goals as goal

pub returns-then-link-t : goal.returns-then-link-t
returns-then-link-t c = no_such_link c.if-link-t.true

pub first_of-requires : goal.first_of-requires
first_of-requires c =
    (listed_here c.requires c.if-link-t.false c.link_at-l.ensures).room

pub plain_title-requires : goal.plain_title-requires
plain_title-requires c =
    listed_here c.requires c.if-link-t.false c.link_at-l.ensures

pub judge-judged-requires : goal.judge-judged-requires
judge-judged-requires c =
    (star_inside c.requires c.if-link-t.false c.link_at-l.ensures c.first_of.result
    c.first_of.ensures c.in-Some.is).inside

pub plain_title-requires-in-None : goal.plain_title-requires-in-None
plain_title-requires-in-None c =
    listed_here c.requires c.if-link-t.false c.link_at-l.ensures

pub write_given-requires : goal.write_given-requires
write_given-requires c =
    let inside =
    (star_inside c.requires c.if-link-t.false c.link_at-l.ensures c.first_of.result
    c.first_of.ensures c.in-Some.is).inside
    in
    let right = rw c.in-Some-judged.is at c.judge-judged.ensures in
    (inside, right_given right, right_counted right)

pub returns-in_default : goal.returns-in_default
returns-in_default c =
    let none =
    no_star c.requires c.if-link-t.false c.link_at-l.ensures c.first_of.result
    c.first_of.ensures c.in_default.is
    in
    plain_titled c.requires c.if-link-t.false c.link_at-l.ensures none c.plain_title.ensures

pub returns-in-None : goal.returns-in-None
returns-in-None c =
    let wrong = rw c.in-None.is at c.judge-judged.ensures in
    let none =
    wrong_star c.requires c.if-link-t.false c.link_at-l.ensures c.first_of.result
    c.first_of.ensures c.in-Some.is wrong
    in
    plain_titled c.requires c.if-link-t.false c.link_at-l.ensures none c.plain_title-in-None.ensures

pub returns-in-Some-judged : goal.returns-in-Some-judged
returns-in-Some-judged c =
    let right = rw c.in-Some-judged.is at c.judge-judged.ensures in
    right_titled c.requires c.if-link-t.false c.link_at-l.ensures c.first_of.result
    c.first_of.ensures c.in-Some.is right c.write_given.ensures
