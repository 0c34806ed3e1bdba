use Rattle.walk_words.proofs.Reading.{digit_low}
use Rattle.walk_words.proofs.with_digit.Goals as goal

pub overflow_sub-digit : goal.overflow_sub-digit
overflow_sub-digit c = digit_low c.args.c c.requires
