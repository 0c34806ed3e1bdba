-- The numbers of refusals.
use Rattle.std.specs.Prelude.{ℕ}
use Rattle.outcomes.specs.Number as number
use Rattle.answers.specs.declared.Refusal.{Refusal}
use Rattle.answers.specs.declared.Refusal.TheVariants.{
  TooLong,
  NoLinkRoom,
  NoParamRoom,
  BadTable,
  NoRelation,
  NoOutputRoom,
  NoSuchLink,
  NotFound,
  UnknownEdition,
  BadExtended,
  BadBase,
  BadReference,
  OutOfRange,
  BadCatalogue,
}

abbrev pub refusal_number : Refusal → ℕ
refusal_number TooLong = number.too_long_number
refusal_number NoLinkRoom = number.no_link_room_number
refusal_number NoParamRoom = number.no_param_room_number
refusal_number BadTable = number.bad_table_number
refusal_number NoRelation = number.no_relation_number
refusal_number NoOutputRoom = number.no_output_room_number
refusal_number NoSuchLink = number.no_such_link_number
refusal_number NotFound = number.not_found_number
refusal_number UnknownEdition = number.unknown_edition_number
refusal_number BadExtended = number.bad_extended_number
refusal_number BadBase = number.bad_base_number
refusal_number BadReference = number.bad_reference_number
refusal_number OutOfRange = number.out_of_range_number
refusal_number BadCatalogue = number.bad_catalogue_number
