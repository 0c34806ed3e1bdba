-- RFC 3986's grammar, rule by rule as its Appendix A has it, by its names. A name stands behind those that it uses, so the order is
-- from the smallest rule to the largest. Two names are added, `gap` and `group`, for what the forms of an IPv6 address have in common.
use Rattle.std.specs.Prelude.{List, ℕ}
use Rattle.rules.specs.Rule.{Rule, nothing, one, ◌then◌, ◌or◌, many, optional, some, times, up_to, Derives}
use Rattle.references.specs.Octets.{Octets, has}
use Rattle.references.specs.Octets.{ALPHA, DIGIT, HEXDIG, unreserved, sub_delims, colon, slash, question, hash, bracket, end_bracket, at}
use Rattle.references.specs.Octets.{percent, dot, plus, hyphen, vee, from_1_to_9, from_0_to_4, from_0_to_5, digit_1, digit_2, digit_5}

-- these two are named there and used by no other rule
abbrev pub gen_delims : Rule Octets
gen_delims = one colon or one slash or one question or one hash or one bracket or one end_bracket or one at

abbrev pub reserved : Rule Octets
reserved = gen_delims or one sub_delims

abbrev pub pct_encoded : Rule Octets
pct_encoded = one percent then one HEXDIG then one HEXDIG

abbrev pub pchar : Rule Octets
pchar = one unreserved or pct_encoded or one sub_delims or one colon or one at

abbrev pub query : Rule Octets
query = many (pchar or one slash or one question)

abbrev pub fragment : Rule Octets
fragment = many (pchar or one slash or one question)

abbrev pub segment : Rule Octets
segment = many pchar

abbrev pub segment_nz : Rule Octets
segment_nz = some pchar

-- not empty, and without a colon
abbrev pub segment_nz_nc : Rule Octets
segment_nz_nc = some (one unreserved or pct_encoded or one sub_delims or one at)

abbrev pub path_abempty : Rule Octets
path_abempty = many (one slash then segment)

abbrev pub path_absolute : Rule Octets
path_absolute = one slash then optional (segment_nz then many (one slash then segment))

abbrev pub path_noscheme : Rule Octets
path_noscheme = segment_nz_nc then many (one slash then segment)

abbrev pub path_rootless : Rule Octets
path_rootless = segment_nz then many (one slash then segment)

abbrev pub path_empty : Rule Octets
path_empty = nothing

abbrev pub path : Rule Octets
path = path_abempty or path_absolute or path_noscheme or path_rootless or path_empty

abbrev pub reg_name : Rule Octets
reg_name = many (one unreserved or pct_encoded or one sub_delims)

abbrev pub dec_octet : Rule Octets
dec_octet =
    one DIGIT
    or one from_1_to_9 then one DIGIT
    or one digit_1 then one DIGIT then one DIGIT
    or one digit_2 then one from_0_to_4 then one DIGIT
    or one digit_2 then one digit_5 then one from_0_to_5

abbrev pub IPv4address : Rule Octets
IPv4address = dec_octet then one dot then dec_octet then one dot then dec_octet then one dot then dec_octet

-- one to four
abbrev pub h16 : Rule Octets
h16 = one HEXDIG then up_to 3 (one HEXDIG)

abbrev pub ls32 : Rule Octets
ls32 = h16 then one colon then h16 or IPv4address

-- `::`
abbrev pub gap : Rule Octets
gap = one colon then one colon

-- h16 and a colon, one of a number of such groups
abbrev pub group : Rule Octets
group = h16 then one colon

abbrev pub IPv6address : Rule Octets
IPv6address =
    times 6 group then ls32
    or gap then times 5 group then ls32
    or optional h16 then gap then times 4 group then ls32
    or optional (up_to 1 group then h16) then gap then times 3 group then ls32
    or optional (up_to 2 group then h16) then gap then times 2 group then ls32
    or optional (up_to 3 group then h16) then gap then group then ls32
    or optional (up_to 4 group then h16) then gap then ls32
    or optional (up_to 5 group then h16) then gap then h16
    or optional (up_to 6 group then h16) then gap

abbrev pub IPvFuture : Rule Octets
IPvFuture = one vee then some (one HEXDIG) then one dot then some (one unreserved or one sub_delims or one colon)

abbrev pub ip_literal : Rule Octets
ip_literal = one bracket then (IPv6address or IPvFuture) then one end_bracket

abbrev pub port : Rule Octets
port = many (one DIGIT)

abbrev pub host : Rule Octets
host = ip_literal or IPv4address or reg_name

abbrev pub userinfo : Rule Octets
userinfo = many (one unreserved or pct_encoded or one sub_delims or one colon)

abbrev pub authority : Rule Octets
authority = optional (userinfo then one at) then host then optional (one colon then port)

abbrev pub scheme : Rule Octets
scheme = one ALPHA then many (one ALPHA or one DIGIT or one plus or one hyphen or one dot)

abbrev pub relative_part : Rule Octets
relative_part = one slash then one slash then authority then path_abempty or path_absolute or path_noscheme or path_empty

abbrev pub relative_ref : Rule Octets
relative_ref = relative_part then optional (one question then query) then optional (one hash then fragment)

abbrev pub hier_part : Rule Octets
hier_part = one slash then one slash then authority then path_abempty or path_absolute or path_rootless or path_empty

abbrev pub absolute_uri : Rule Octets
absolute_uri = scheme then one colon then hier_part then optional (one question then query)

abbrev pub URI : Rule Octets
URI = scheme then one colon then hier_part then optional (one question then query) then optional (one hash then fragment)

abbrev pub uri_reference : Rule Octets
uri_reference = URI or relative_ref

-- the grammar derives the text
abbrev pub IsReference : List ℕ → Type 0
IsReference w = Derives has uri_reference w

abbrev pub IsURI : List ℕ → Type 0
IsURI w = Derives has URI w

abbrev pub IsAbsoluteURI : List ℕ → Type 0
IsAbsoluteURI w = Derives has absolute_uri w
