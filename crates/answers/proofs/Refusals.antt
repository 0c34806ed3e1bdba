-- A refusal's number is never that of an answer that refuses nothing.
use mathlib.Core.Path.{◌≡◌, refl}
use mathlib.Core.Bool.{false}
use lib.Dec.{eqb}
use Rattle.outcomes.specs.Number.{done}
use Rattle.answers.specs.Refusal.{refusal_number}
use Rattle.answers.specs.declared.Refusal.{Refusal}
use Rattle.answers.specs.declared.Refusal.TheVariants.{
  TooLong,
  NoLinkRoom,
  NoParamRoom,
  BadTable,
  NoRelation,
  NoOutputRoom,
  NoSuchLink,
  NotFound,
  UnknownEdition,
  BadExtended,
  BadBase,
  BadReference,
  OutOfRange,
  BadCatalogue,
}

pub no_refusal_is_done : (w : Refusal) → eqb (refusal_number w) done ≡ false
no_refusal_is_done TooLong = refl
no_refusal_is_done NoLinkRoom = refl
no_refusal_is_done NoParamRoom = refl
no_refusal_is_done BadTable = refl
no_refusal_is_done NoRelation = refl
no_refusal_is_done NoOutputRoom = refl
no_refusal_is_done NoSuchLink = refl
no_refusal_is_done NotFound = refl
no_refusal_is_done UnknownEdition = refl
no_refusal_is_done BadExtended = refl
no_refusal_is_done BadBase = refl
no_refusal_is_done BadReference = refl
no_refusal_is_done OutOfRange = refl
no_refusal_is_done BadCatalogue = refl
