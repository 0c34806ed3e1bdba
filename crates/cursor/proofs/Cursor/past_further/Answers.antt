-- RFC 8288's edition has no further octets, so that nothing is passed; the older one passes a run of its bare octets.
use borrow.Author.Rules.{rules}
use Rattle.cursor.proofs.BareRun.{none_further, ptoken_run}
use Rattle.cursor.proofs.Cursor.past_further.Goals as goal

pub past-requires : goal.past-requires
past-requires c = (c.requires.inside)

pub returns-in-Rfc8288 : goal.returns-in-Rfc8288
returns-in-Rfc8288 c = rw c.in-Rfc8288.is (none_further c.requires)

pub returns-in-Rfc5988 : goal.returns-in-Rfc5988
returns-in-Rfc5988 c = rw c.in-Rfc5988.is (ptoken_run c.past.ensures)
