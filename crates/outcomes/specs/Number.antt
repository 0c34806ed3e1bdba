-- The numbers that entries answer, and when each is given.
use Rattle.std.specs.Prelude.{ℕ}

-- none of those below
abbrev pub done : ℕ
done = 0

-- the header, all feeds together, the text, the extended value, the written form, or a reference, its base or its result have more octets
-- than the limit
abbrev pub too_long_number : ℕ
too_long_number = 1

-- the grammar doesn't derive the header, or a target is no reference; at a feed, something is wrong with the octets so far
abbrev pub malformed_header_number : ℕ
malformed_header_number = 2

-- more links than room
abbrev pub no_link_room_number : ℕ
no_link_room_number = 3

-- more kept parameters than room
abbrev pub no_param_room_number : ℕ
no_param_room_number = 4

-- the table is not good
abbrev pub bad_table_number : ℕ
bad_table_number = 5

-- some link to be written has no `rel`, or one with no relations
abbrev pub no_relation_number : ℕ
no_relation_number = 6

-- the output buffer is shorter than the result, or a gathering buffer, or the octets for a walk's resolving, than the limit
abbrev pub no_output_room_number : ℕ
no_output_room_number = 7

-- the link number is not below the count, or the number of the pack that a walk starts from
abbrev pub no_such_link_number : ℕ
no_such_link_number = 8

-- no such parameter, no title, or no link has the relation
abbrev pub not_found_number : ℕ
not_found_number = 9

-- no edition has the number asked for
abbrev pub unknown_edition_number : ℕ
unknown_edition_number = 10

-- no right extended value
abbrev pub bad_extended_number : ℕ
bad_extended_number = 11

-- the base is no URI
abbrev pub bad_base_number : ℕ
bad_base_number = 12

-- no reference
abbrev pub bad_reference_number : ℕ
bad_reference_number = 13

-- a walk of more steps than there may be
abbrev pub out_of_range_number : ℕ
out_of_range_number = 14

-- no catalogue, or a Link value in it that is refused when read by itself
abbrev pub bad_catalogue_number : ℕ
bad_catalogue_number = 15

-- the most octets of a header, a text, an extended value, a written form, a reference, a base or a result, and the least of a gathering
-- buffer and for a walk's resolving
abbrev pub limit : ℕ
limit = 8192
