-- A machine that judges a reference one octet at a time. Its state is one number, so that a header that comes in parts can be judged
-- with it; the grammar says what a reference is, and the machine says the same step by step (law `StepsExact`). A step asks of the octet
-- only in which sets of the grammar it is: `is f` says that it is in f.
--
--    0, 1, 2           nothing read; a scheme or a first segment; a first segment that is no scheme any more
--    3, 4, 5           behind the scheme's colon; behind one slash; behind two
--    6, 7, 8           userinfo or host; the same behind a colon and digits, which may be a port; userinfo for certain
--    9, 10, 11, 12     behind the `@`; a host; a port; behind the bracket that ends an IP literal
--    13, 15            a path, or a query, which goes on alike; a fragment
--    16 and 32 more    behind a `%`, and behind its first hex digit
--    48, 49            behind a bracket; behind a bracket and a colon
--    50 to 53          IPvFuture: behind the `v`, in its version, behind the dot, and in what follows
--    54                no reference begins so
--    55, 56            where a URI begins; in its scheme
--    60 + 6 n + t      in an IPv4 address at the end of an IPv6 address, behind n dots; t is how its number may go on
--    100 + ..          in an IPv6 address, `in_group`
use Rattle.std.specs.Prelude.{ℕ, ◌+◌, ◌-◌, ◌*◌, ◌/◌, ◌%◌, Bool, cond, not, ◌&&◌, ◌||◌, List, [], ◌∷◌, eqb, leb, ltb, get_or}
use Rattle.references.specs.Octets.{Octets, has}
use Rattle.references.specs.Octets.{ALPHA, DIGIT, HEXDIG, unreserved, sub_delims, colon, slash, question, hash, bracket, end_bracket, at}
use Rattle.references.specs.Octets.{percent, dot, plus, hyphen, vee, from_1_to_9, from_0_to_4, from_0_to_5, digit_1, digit_2, digit_5}

-- ---- states in an IP literal, and what follows whatever the octet is

-- an IPv4 address behind n dots, if t is a number
abbrev pub dotted : ℕ → ℕ → ℕ
dotted n t = cond (eqb t 0) 54 (60 + 6 * n + t)

-- an IPv6 address: z is 1 behind `::`, else 0; g groups are finished; d digits of the next are read; t is its number where an IPv4 address
-- may stand, else 0. With no digit t is 1 behind `::`, and 0 behind a colon
abbrev pub grouped : ℕ → ℕ → ℕ → ℕ → ℕ
grouped z g d t = 100 + ((8 * z + g) * 5 + d) * 6 + t

-- an IPv4 address takes the place of the last two groups
abbrev pub fits4 : ℕ → ℕ → Bool
fits4 z g = cond (eqb z 0) (eqb g 6) (leb g 5)

-- behind a colon
abbrev pub group_ends : ℕ → ℕ → ℕ → ℕ → ℕ
group_ends z g d t =
    cond (eqb d 0) (cond (eqb t 0 && eqb z 0) (grouped 1 g 0 1) 54) (cond (leb (g + 1 + z) 7) (grouped z (g + 1) 0 0) 54)

-- behind a bracket: all eight groups are there, or `::` stands for those that aren't
abbrev pub address_ends : ℕ → ℕ → ℕ → ℕ → ℕ
address_ends z g d t = cond (cond (eqb d 0) (eqb t 1) (eqb z 1 || eqb g 7)) 12 54

module _ (is : Octets → Bool) where
  -- ---- sets that states share

  -- an octet of userinfo, host and segments
  abbrev pub plain : Bool
  plain = is unreserved || is sub_delims

  -- an octet of a path's segment
  abbrev pub in_segment : Bool
  in_segment = plain || is colon || is at

  abbrev pub in_scheme : Bool
  in_scheme = is ALPHA || is DIGIT || is plus || is hyphen || is dot

  -- ---- what may follow

  abbrev pub behind_path : ℕ
  behind_path = cond (is question) 13 (cond (is hash) 15 54)

  -- behind an authority, and behind a first segment
  abbrev pub path_on : ℕ
  path_on = cond (is slash) 13 behind_path

  abbrev pub port_on : ℕ
  port_on = cond (is colon) 11 path_on

  abbrev pub first_segment : ℕ
  first_segment = cond (plain || is at) 2 (cond (is percent) 18 path_on)

  -- in a path or in a query
  abbrev pub in_path : ℕ
  in_path = cond (in_segment || is slash || is question) 13 (cond (is percent) 29 (cond (is hash) 15 54))

  abbrev pub in_authority : ℕ
  in_authority = cond plain 6 (cond (is percent) 22 (cond (is colon) 7 (cond (is at) 9 path_on)))

  abbrev pub in_host : ℕ
  in_host = cond plain 10 (cond (is percent) 26 port_on)

  -- ---- the states below 16

  abbrev pub outer : List ℕ
  outer =
      cond (is ALPHA) 1 (cond (plain || is at) 2 (cond (is percent) 18 (cond (is slash) 4 behind_path)))
      ∷ cond in_scheme 1 (cond (is colon) 3 first_segment)
      ∷ first_segment
      ∷ cond (is slash) 4 in_path
      ∷ cond (is slash) 5 in_path
      ∷ cond (is bracket) 48 in_authority
      ∷ in_authority
      ∷ cond (is DIGIT) 7 (cond (plain || is colon) 8 (cond (is percent) 24 (cond (is at) 9 path_on)))
      ∷ cond (plain || is colon) 8 (cond (is percent) 24 (cond (is at) 9 54))
      ∷ cond (is bracket) 48 in_host
      ∷ in_host
      ∷ cond (is DIGIT) 11 path_on
      ∷ port_on
      ∷ in_path
      ∷ 54
      ∷ cond (in_segment || is slash || is question) 15 (cond (is percent) 31 54)
      ∷ []

  -- ---- a number up to 255 without leading zeros

  -- t tells how it may go on: 1 not at all, 2 by any digit, 3 by `0` to `5`, 4 it is `1`, 5 it is `2`; and 0 stands for no digit yet,
  -- and for no such number. What t becomes behind its first digit
  abbrev pub first_digit : ℕ
  first_digit = cond (is from_1_to_9) (cond (is digit_1) 4 (cond (is digit_2) 5 2)) 1

  -- behind a second one, where it was `2`
  abbrev pub second_digit : ℕ
  second_digit = cond (is from_0_to_4) 2 (cond (is digit_5) 3 1)

  -- behind any digit but the first
  abbrev pub later_digit : ℕ → ℕ
  later_digit t =
      cond (eqb t 2) 1 (cond (eqb t 3) (cond (is from_0_to_5) 1 0) (cond (eqb t 4) 2 (cond (eqb t 5) second_digit 0)))

  -- behind any octet
  abbrev pub number : ℕ → ℕ
  number t = cond (is DIGIT) (cond (eqb t 0) first_digit (later_digit t)) 0

  -- behind a number, n dots before it
  abbrev pub number_ends : ℕ → ℕ
  number_ends n = cond (is dot && ltb n 3) (60 + 6 * (n + 1)) (cond (is end_bracket && eqb n 3) 12 54)

  abbrev pub in_dotted : ℕ → ℕ → ℕ
  in_dotted n t = cond (is DIGIT) (dotted n (number t)) (cond (eqb t 0) 54 (number_ends n))

  -- ---- an IPv6 address

  -- behind the first digit of a group, and behind a later one
  abbrev pub group_begins : ℕ → ℕ → ℕ
  group_begins z g = cond (leb (g + z) 7) (grouped z g 1 (cond (fits4 z g) (number 0) 0)) 54

  abbrev pub group_goes_on : ℕ → ℕ → ℕ → ℕ → ℕ
  group_goes_on z g d t = cond (ltb d 4) (grouped z g (d + 1) (cond (eqb t 0) 0 (number t))) 54

  -- a hex digit
  abbrev pub more_digits : ℕ → ℕ → ℕ → ℕ → ℕ
  more_digits z g d t = cond (eqb d 0) (group_begins z g) (group_goes_on z g d t)

  abbrev pub in_group : ℕ → ℕ → ℕ → ℕ → ℕ
  in_group z g d t =
      cond (is HEXDIG) (more_digits z g d t)
      (cond (is colon) (group_ends z g d t)
      (cond (is end_bracket) (address_ends z g d t) (cond (is dot && ltb 0 d && ltb 0 t) 66 54)))

  -- ---- the states from 48 to 59

  abbrev pub inner : List ℕ
  inner =
      cond (is colon) 49 (cond (is vee) 50 (cond (is HEXDIG) (more_digits 0 0 0 0) 54))
      ∷ cond (is colon) (grouped 1 0 0 1) 54
      ∷ cond (is HEXDIG) 51 54
      ∷ cond (is HEXDIG) 51 (cond (is dot) 52 54)
      ∷ cond (plain || is colon) 53 54
      ∷ cond (plain || is colon) 53 (cond (is end_bracket) 12 54)
      ∷ 54
      ∷ cond (is ALPHA) 56 54
      ∷ cond in_scheme 56 (cond (is colon) 3 54)
      ∷ []

  -- ---- every state

  abbrev pub move : ℕ → ℕ
  move q =
      cond (ltb q 16) (get_or outer q 54)
      (cond (ltb q 48) (cond (is HEXDIG) (cond (ltb q 32) (q + 16) (q - 32)) 54)
      (cond (ltb q 60) (get_or inner (q - 48) 54)
      (cond (ltb q 100) (in_dotted ((q - 60) / 6) ((q - 60) % 6))
      (cond (ltb q 580) (in_group ((q - 100) / 240) ((q - 100) / 30 % 8) ((q - 100) / 6 % 5) ((q - 100) % 6)) 54))))

-- the octet c in the state q
unfoldable pub step : ℕ → ℕ → ℕ
step q c = move (λ f. has f c) q

-- the state behind w
abbrev pub run : ℕ → List ℕ → ℕ
run q [] = q
run q (c ∷ w) = run (step q c) w

-- the text may end here
abbrev pub accepts : ℕ → Bool
accepts q = ltb q 16 && not (eqb q 8)
