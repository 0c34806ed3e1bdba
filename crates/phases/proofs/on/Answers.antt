-- Each arm is the step of its phase.
use mathlib.Core.Path.{sym}
use Rattle.octets.specs.Editions.{further}
use Rattle.phases.proofs.Steps.{on_gap, on_target, on_percent, on_hex, on_after, on_semi, on_name, on_named, on_equals, on_bare, on_quote, on_escape, on_none}
use Rattle.phases.proofs.on.Goals as goal

pub returns-in-0 : goal.returns-in-0
returns-in-0 c = cc (on_gap (further c.args.edition) c.args.c)

pub returns-in-1 : goal.returns-in-1
returns-in-1 c = cc (on_target (further c.args.edition) c.args.c)

pub returns-in-2 : goal.returns-in-2
returns-in-2 c = cc (on_percent (further c.args.edition) c.args.c)

pub returns-in-3 : goal.returns-in-3
returns-in-3 c = cc (on_hex (further c.args.edition) c.args.c)

pub returns-in-4 : goal.returns-in-4
returns-in-4 c = cc (on_after (further c.args.edition) c.args.c)

pub returns-in-5 : goal.returns-in-5
returns-in-5 c = cc (on_semi (further c.args.edition) c.args.c)

pub returns-in-6 : goal.returns-in-6
returns-in-6 c = cc (on_name (further c.args.edition) c.args.c)

pub returns-in-7 : goal.returns-in-7
returns-in-7 c = cc (on_named (further c.args.edition) c.args.c)

pub returns-in-8 : goal.returns-in-8
returns-in-8 c = cc (on_equals (further c.args.edition) c.args.c)

pub returns-in-9 : goal.returns-in-9
returns-in-9 c = cc (on_bare (further c.args.edition) c.args.c)

pub returns-in-10 : goal.returns-in-10
returns-in-10 c = cc (on_quote (further c.args.edition) c.args.c)

pub returns-in-11 : goal.returns-in-11
returns-in-11 c = cc (on_escape (further c.args.edition) c.args.c)

pub returns-in_default : goal.returns-in_default
returns-in_default c = sym (on_none (further c.args.edition) c.args.phase c.args.c c.in_default.in_default-own.rest)
