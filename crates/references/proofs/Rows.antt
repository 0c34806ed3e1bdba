-- Rows and examples, by computing. Assumes nothing.
use mathlib.Core.Path.{refl}
use Rattle.references.specs.Rows.{RowsHold}
use Rattle.references.specs.Addresses.{AddressesHold}
use Rattle.references.specs.Examples.{ExamplesHold}

pub rows_hold : RowsHold
rows_hold = record { paths = refl; schemes = refl; segments = refl; triples = refl; tails = refl; authorities = refl }

pub addresses_hold : AddressesHold
addresses_hold = record { gapped = refl; ungapped = refl; colons = refl; digits = refl; dotted = refl; decimals = refl; later = refl }

pub examples_hold : ExamplesHold
examples_hold = record { split = refl; recomposed = refl }
