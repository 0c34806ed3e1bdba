-- The table is right: the one place where its text is looked at. Assumes nothing.
use mathlib.Core.Path.{refl}
use Rattle.octets.specs.Sets.{is_letter, is_digit, is_token, is_plain, is_escapable, is_target, is_hex, is_older, is_blank, is_ptoken}
use Rattle.octet_classes.proofs.Tested.{holds}
use Rattle.octet_classes.proofs.table.Goals as goal

pub returns : goal.returns
unfolding is_letter is_digit is_token is_plain is_escapable is_target is_hex is_older is_blank is_ptoken
returns c = holds _ refl
