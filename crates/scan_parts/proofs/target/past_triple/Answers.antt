-- Each return says which digit was missing or wrong, or that both are there.
use borrow.Author.Rules.{rules}
use Rattle.scan_parts.proofs.OneOctet.{first_stuck, second_scanned}
use Rattle.scan_parts.proofs.target.past_triple.Goals as goal

pub returns-in_err-d : goal.returns-in_err-d
returns-in_err-d c = search (rules, first_stuck)

pub returns : goal.returns
returns c = second_scanned c.in_ok-d.ensures c.past_hex-2.ensures
