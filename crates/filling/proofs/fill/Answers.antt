-- Each turn passes an empty item or fills in a link.
use Prim.Native.Nat.{◌-◌}
use native.Mathlib.Omega.{arith}
use borrow.Author.Rules.{rules}
use Rattle.grammar.proofs.Editions.{apart}
use Rattle.filling.proofs.LinksWritten.{filling_start, filling_lengths, links_few, filled_at_end, comma_on, before_link, filled_behind, link_on, behind_inside, lengths_kept}
use Rattle.filling.proofs.fill.Goals as goal

pub loop-edition-init : goal.loop-edition-init
loop-edition-init c =
    filling_start c.requires (apart c.args.edition) c.start-c.ensures c.first-n.ensures c.first-m.ensures

pub past_blanks-i-requires : goal.past_blanks-i-requires
past_blanks-i-requires c = (c.loop-edition.invariant.stands.inside)

pub shape_of-links-then-i-s : goal.shape_of-links-then-i-s
shape_of-links-then-i-s c =
    (filling_lengths c.requires c.loop-edition.invariant).0

pub shape_of-params-then-i-s : goal.shape_of-params-then-i-s
shape_of-params-then-i-s c =
    (filling_lengths c.requires c.loop-edition.invariant).1

pub returns-then-i-s : goal.returns-then-i-s
returns-then-i-s c =
    filled_at_end c.requires c.loop-edition.invariant c.past_blanks-i.ensures c.if-i-s.true

pub loop-edition-preserved-then-sees : goal.loop-edition-preserved-then-sees
loop-edition-preserved-then-sees c =
    comma_on c.requires c.loop-edition.invariant c.past_blanks-i.ensures
    (c.sees.ensures.yes c.if-sees.true) c.past_octet-c.ensures

pub fill_link-behind-requires : goal.fill_link-behind-requires
fill_link-behind-requires c = (
    before_link c.requires c.loop-edition.invariant c.past_blanks-i.ensures c.if-i-s.false
    (c.sees.ensures.not c.if-sees.false c.if-i-s.false) c.past_octet.ensures)

pub next-n-requires : goal.next-n-requires
next-n-requires c =
    omega (
      arith,
      links_few c.requires c.loop-edition.invariant c.past_blanks-i.ensures c.if-i-s.false
          (c.sees.ensures.not c.if-sees.false c.if-i-s.false) c.past_octet.ensures
          c.fill_link-behind.ensures,
      c.well_formed.1.1.1.0.0,
    )

pub shape_of-links-then-d-s : goal.shape_of-links-then-d-s
shape_of-links-then-d-s c =
    (lengths_kept c.requires c.loop-edition.invariant c.past_blanks-i.ensures c.if-i-s.false
    (c.sees.ensures.not c.if-sees.false c.if-i-s.false) c.past_octet.ensures
    c.fill_link-behind.ensures).0

pub shape_of-params-then-d-s : goal.shape_of-params-then-d-s
shape_of-params-then-d-s c =
    (lengths_kept c.requires c.loop-edition.invariant c.past_blanks-i.ensures c.if-i-s.false
    (c.sees.ensures.not c.if-sees.false c.if-i-s.false) c.past_octet.ensures
    c.fill_link-behind.ensures).1

pub returns-then-d-s : goal.returns-then-d-s
returns-then-d-s c =
    filled_behind c.requires c.loop-edition.invariant c.past_blanks-i.ensures c.if-i-s.false
    (c.sees.ensures.not c.if-sees.false c.if-i-s.false) c.past_octet.ensures
    c.fill_link-behind.ensures c.if-d-s.true

pub loop-edition-smaller : goal.loop-edition-smaller
loop-edition-smaller c =
    omega (
      arith,
      c.past_octet-c-in-loop-edition.ensures,
      c.past_blanks-i.ensures.forward,
      c.past_octet.ensures,
      c.if-d-s.false,
      (behind_inside c.requires c.loop-edition.invariant c.past_blanks-i.ensures c.if-i-s.false
          (c.sees.ensures.not c.if-sees.false c.if-i-s.false) c.past_octet.ensures
          c.fill_link-behind.ensures).0,
    )

pub loop-edition-preserved : goal.loop-edition-preserved
loop-edition-preserved c =
    link_on c.requires c.loop-edition.invariant c.past_blanks-i.ensures c.if-i-s.false
    (c.sees.ensures.not c.if-sees.false c.if-i-s.false) c.past_octet.ensures
    c.fill_link-behind.ensures c.if-d-s.false c.past_octet-c-in-loop-edition.ensures c.next-n.ensures
