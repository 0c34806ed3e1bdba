-- The first link that is followed is the one that is looked for, at each turn among those that are left.
use native.Mathlib.Omega.{arith}
use mathlib.Core.Path.{refl}
use Rattle.kinds.proofs.Counted.{from_first}
use Rattle.tables.proofs.InGood.{link_slots}
use Rattle.following.proofs.LinksLeft.{all_left, none_left, onward, here}
use Rattle.following.proofs.first_followed.Goals as goal

pub loop-i-init : goal.loop-i-init
loop-i-init c = all_left refl

pub is_followed-requires : goal.is_followed-requires
is_followed-requires c =
    record {
      usable = c.requires;
      link_lt_links = omega (arith, c.loop-i-test.true, c.first-first.ensures, c.plus-link.ensures);
    }

pub link_at-requires : goal.link_at-requires
link_at-requires c =
    rw (from_first c.first-first.ensures c.plus-link.ensures) (link_slots c.requires.good c.loop-i-test.true)

pub returns-then-is_followed : goal.returns-then-is_followed
returns-then-is_followed c =
    let nth = from_first c.first-first.ensures c.plus-link.ensures in
    here c.loop-i.invariant c.loop-i-test.true (rw nth at c.is_followed.ensures) c.requires.good (rw nth at c.link_at.ensures)
    c.if-is_followed.true

pub loop-i-preserved : goal.loop-i-preserved
loop-i-preserved c =
    let nth = from_first c.first-first.ensures c.plus-link.ensures in
    onward c.loop-i.invariant c.loop-i-test.true (rw nth at c.is_followed.ensures) c.if-is_followed.false

pub returns : goal.returns
returns c = none_left c.loop-i.invariant c.loop-i-test.false
