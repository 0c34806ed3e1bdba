-- The loop passes one item at each turn; each return says why the header ends there, or is malformed.
use native.Mathlib.Omega.{arith}
use mathlib.Core.Path.{refl}
use Rattle.grammar.proofs.Editions.{apart}
use Rattle.scanner.proofs.LinksSoFar.{start, ended, comma, no_start, link_stuck, whole_forward, link_ended, more}
use borrow.Author.Rules.{rules}
use Rattle.scanner.proofs.header.scan.Goals as goal

pub loop-edition-init : goal.loop-edition-init
loop-edition-init c =
    start c.args.links.now c.args.params.now (apart c.args.edition) c.start-c.ensures

pub returns-then-i-s : goal.returns-then-i-s
returns-then-i-s c =
    ended c.loop-edition.invariant c.past_blanks-i.ensures c.if-i-s.true

pub loop-edition-preserved-then-sees : goal.loop-edition-preserved-then-sees
loop-edition-preserved-then-sees c =
    comma c.loop-edition.invariant c.past_blanks-i.ensures (c.sees.ensures.yes c.if-sees.true) c.past_octet-c.ensures

pub returns-then-not-sees : goal.returns-then-not-sees
returns-then-not-sees c =
    no_start c.loop-edition.invariant c.past_blanks-i.ensures c.if-i-s.false c.if-sees.ensures c.if-not-sees.ensures

pub returns-in_err-d : goal.returns-in_err-d
returns-in_err-d c =
    search (
      rules,
      link_stuck c.loop-edition.invariant c.past_blanks-i.ensures (c.if-not-sees.ensures.yes refl) c.past_octet.ensures c.next_link-n.ensures c.next_param-m.ensures
          c.in_err-d.ensures,
    )

pub overflow_add-counts-in-loop-edition : goal.overflow_add-counts-in-loop-edition
overflow_add-counts-in-loop-edition c =
    let w = whole_forward c.loop-edition.invariant c.past_blanks-i.ensures (c.if-not-sees.ensures.yes refl) c.past_octet.ensures c.next_link-n.ensures c.next_param-m.ensures c.in_ok-d.ensures in omega (
      arith,
      c.loop-edition.invariant.few_params,
      c.past_blanks-i.ensures.forward,
      c.past_octet.ensures,
      w.0,
      w.1,
      c.well_formed.1.1.0,
    )

pub returns-then-d-s : goal.returns-then-d-s
returns-then-d-s c =
    link_ended c.loop-edition.invariant c.past_blanks-i.ensures (c.if-not-sees.ensures.yes refl) c.past_octet.ensures c.next_link-n.ensures c.next_param-m.ensures
    c.in_ok-d.ensures c.if-d-s.true

pub loop-edition-smaller : goal.loop-edition-smaller
loop-edition-smaller c =
    let w = whole_forward c.loop-edition.invariant c.past_blanks-i.ensures (c.if-not-sees.ensures.yes refl) c.past_octet.ensures c.next_link-n.ensures c.next_param-m.ensures c.in_ok-d.ensures in omega (
      arith,
      c.past_octet-c-in-loop-edition.ensures,
      c.past_blanks-i.ensures.forward,
      c.past_octet.ensures,
      w.0,
      c.if-d-s.false,
    )

pub loop-edition-preserved : goal.loop-edition-preserved
loop-edition-preserved c =
    more c.loop-edition.invariant c.past_blanks-i.ensures (c.if-not-sees.ensures.yes refl) c.past_octet.ensures c.next_link-n.ensures c.next_param-m.ensures
    c.in_ok-d.ensures c.if-d-s.false c.past_octet-c-in-loop-edition.ensures
