-- A target, the parameters, and the note of a link that is whole.
use native.Mathlib.Omega.{arith}
use borrow.Author.Rules.{rules}
use Rattle.scanner.proofs.ReadyBehindLink.{target_stuck, target_inside, target_forward, params_stuck, link_passed}
use Rattle.scanner.proofs.link.past_link.Goals as goal

pub past_params-requires : goal.past_params-requires
past_params-requires c = (
  omega (arith, c.past_octet.ensures, target_inside c.in_ok-c.ensures),
  omega (arith, c.past_octet.ensures, c.requires.1, target_forward c.in_ok-c.ensures),
)

pub returns-in_err-c : goal.returns-in_err-c
returns-in_err-c c = search (rules, target_stuck)

pub returns-in_err-d : goal.returns-in_err-d
returns-in_err-d c =
    search (rules, params_stuck)

pub returns : goal.returns
returns c =
    link_passed c.in_ok-c.ensures c.past_octet.ensures c.args.n.0 c.in_ok-d.ensures c.span_to-target.ensures
    c.note_link.ensures
