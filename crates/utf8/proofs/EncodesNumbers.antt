-- A text is well formed just if it encodes a list of numbers, and it encodes no other list. Assumes nothing.
use mathlib.Core.Path.{refl}
use Rattle.utf8.specs.Laws.{EncodesNumbers}
use Rattle.utf8.proofs.Encoded.{numbers_of_lem}
use Rattle.utf8.proofs.Formed.{formed}
use Rattle.utf8.proofs.OneList.{one_list}

pub encodes_numbers : EncodesNumbers
encodes_numbers =
    record {
      numbers = λ w d. numbers_of_lem d;
      well_formed = λ ns w e. formed e;
      one_list = λ ns ms w e f. one_list e f refl;
    }
