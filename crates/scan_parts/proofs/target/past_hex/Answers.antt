-- The octet is in the set, or it is another, or none stands there.
use Rattle.scan_parts.proofs.OneOctet.{is_there, is_another}
use Rattle.scan_parts.proofs.target.past_hex.Goals as goal

pub returns-then-not-sees_in : goal.returns-then-not-sees_in
returns-then-not-sees_in c = is_another c.if-not-sees_in.ensures

pub returns : goal.returns
returns c = is_there c.if-not-sees_in.ensures c.past_octet.ensures
