-- In each phase, the octets that leave it and then one more.
use Rattle.octets.specs.Editions.{further}
use Rattle.grammar.proofs.Editions.{apart}
use Rattle.part_scan.proofs.Leading.{blank_gap, blank_after, blank_semi, blank_named, blank_equals, token_name, token_bare}
use Rattle.part_scan.proofs.Stepping.{out_run, out_stays}
use borrow.Author.Rules.{rules}
use Rattle.part_scan.proofs.outside.pass.Goals as goal

pub beyond-requires-in-10 : goal.beyond-requires-in-10
beyond-requires-in-10 c = ((c.past_quoted.ensures (further c.args.edition) 0).inside, c.requires.1)

pub returns-in-0 : goal.returns-in-0
returns-in-0 c = out_run c.in-0.is blank_gap c.past_blanks.ensures c.beyond.ensures

pub returns-in-4 : goal.returns-in-4
returns-in-4 c = out_run c.in-4.is blank_after c.past_blanks-in-4.ensures c.beyond-in-4.ensures

pub returns-in-5 : goal.returns-in-5
returns-in-5 c = out_run c.in-5.is blank_semi c.past_blanks-in-5.ensures c.beyond-in-5.ensures

pub returns-in-6 : goal.returns-in-6
returns-in-6 c = out_run c.in-6.is token_name c.past_token.ensures c.beyond-in-6.ensures

pub returns-in-7 : goal.returns-in-7
returns-in-7 c = out_run c.in-7.is blank_named c.past_blanks-in-7.ensures c.beyond-in-7.ensures

pub returns-in-8 : goal.returns-in-8
returns-in-8 c = out_run c.in-8.is blank_equals c.past_blanks-in-8.ensures c.beyond-in-8.ensures

pub returns-in-9 : goal.returns-in-9
returns-in-9 c = out_run c.in-9.is (token_bare (apart c.args.edition)) c.past_token-in-9.ensures c.beyond-in-9.ensures

pub returns-in-10 : goal.returns-in-10
returns-in-10 c = out_stays c.in-10.is (c.past_quoted.ensures _) c.beyond-in-10.ensures
