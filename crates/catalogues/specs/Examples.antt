-- Walks over small catalogues, judged by hand, and the limits in numbers.
use Rattle.std.specs.Prelude.{ℕ, ◌≤◌, ◌<◌, ◌≡◌, List, [], ◌∷◌, map, length, ℤ, pos, negsuc}
use Prim.Native.String.{String}
use Rattle.std.proofs.Math.Option.{some}
use Rattle.std.proofs.Math.Seq.{slice}
use Rattle.octets.specs.Text.{octets}
use Rattle.grammar.specs.Link.{Link}
use Rattle.tables.specs.Good.{Each}
use Rattle.resolution.specs.Resolve.{resolved}
use Rattle.outcomes.specs.Number.{done, no_such_link_number, out_of_range_number, bad_catalogue_number}
use Rattle.catalogues.specs.Packs.{Pack, lines_of, Room, RightPack, Distinct, Catalogue}
use Rattle.catalogues.specs.Steps.{End, arrived, no_link, no_target, no_pack, stop, along}
use Rattle.catalogues.specs.Outcome.{WalkOut, refused, end_number, Walk}

pub record Example : Type 0 where
  pub text : String
  pub start : ℕ
  pub steps : ℤ
  pub outcome : WalkOut

-- over the catalogue t, n steps from pack i end so, at pack j, with k of them taken
abbrev pub goes : String → ℕ → ℤ → End → ℕ → ℕ → Example
goes t i n e j k =
    record { text = t; start = i; steps = n; outcome = record { number = done; end = end_number e; pack = j; steps = k } }

-- they are refused with the number a
abbrev pub refuses : String → ℕ → ℤ → ℕ → Example
refuses t i n a = record { text = t; start = i; steps = n; outcome = refused a }

-- three packs, each with its neighbours
abbrev pub chain : String
chain = "x:/1\t<2>;rel=next\nx:/2\t<1>;rel=prev,<3>;rel=next\nx:/3\t<2>;rel=prev\n"

abbrev pub walks : List Example
walks =
    goes chain 0 (pos 2) arrived 2 2
    ∷ goes chain 2 (negsuc 1) arrived 0 2
    ∷ goes chain 1 (pos 0) arrived 1 0
    ∷ goes chain 0 (pos 3) no_link 2 2
    ∷ goes chain 1 (negsuc 1) no_link 0 1
    -- a link with an `anchor` is passed over, though that is empty
    ∷ goes "x:/1\t<3>;rel=next;anchor=a,<2>;rel=next\nx:/2\t\nx:/3\t\n" 0 (pos 1) arrived 1 1
    ∷ goes "x:/1\t<3>;rel=next;anchor=\"\",<2>;rel=next\nx:/2\t\nx:/3\t\n" 0 (pos 1) arrived 1 1
    -- the first link that has the relation counts, wherever it leads
    ∷ goes "x:/1\t<9>;rel=\"a NEXT\",<2>;rel=next\nx:/2\t\n" 0 (pos 1) no_pack 0 0
    -- a fragment is part of the target, and octets are compared as they are
    ∷ goes "x:/1\t<2#f>;rel=next\nx:/2\t\n" 0 (pos 1) no_pack 0 0
    ∷ goes "x:/1\t<X:/2>;rel=next\nx:/2\t\n" 0 (pos 1) no_pack 0 0
    -- a relative target with dots, and round and round
    ∷ goes "x://h/a/b?c\t<../d?e>\t;rel=next\nx://h/d?e\t</a/b?c>;rel=next\n" 0 (pos 3) arrived 1 3
    -- to itself, as often as may be
    ∷ goes "x:/1\t<>;rel=next\n" 0 (pos 64) arrived 0 64
    ∷ []

abbrev pub refusals : List Example
refusals =
    refuses chain 3 (pos 0) no_such_link_number
    ∷ refuses "" 0 (pos 0) no_such_link_number
    ∷ refuses "" 0 (pos 65) out_of_range_number
    ∷ refuses chain 0 (negsuc 64) out_of_range_number
    -- no LF; no tab; an empty line; the same URI twice; a URI that isn't absolute, or has a fragment
    ∷ refuses "x:/1\t" 0 (pos 0) bad_catalogue_number
    ∷ refuses "x:/1\n" 0 (pos 0) bad_catalogue_number
    ∷ refuses "x:/1\t\n\n" 0 (pos 0) bad_catalogue_number
    ∷ refuses "x:/1\t\nx:/2\t\nx:/1\t\n" 0 (pos 0) bad_catalogue_number
    ∷ refuses "1\t\n" 0 (pos 0) bad_catalogue_number
    ∷ refuses "x:/1#f\t\n" 0 (pos 0) bad_catalogue_number
    -- a Link value that is malformed, or only RFC 5988's edition reads, or has more links or parameters than there is room for
    ∷ refuses "x:/1\t<2>\r\n" 0 (pos 0) bad_catalogue_number
    ∷ refuses "x:/1\t<2>;a=/\n" 0 (pos 0) bad_catalogue_number
    ∷ refuses "x:/1\t<>,<>,<>\n" 0 (pos 0) bad_catalogue_number
    ∷ refuses "x:/1\t<>;a;b;c;d;e\n" 0 (pos 0) bad_catalogue_number
    ∷ []

-- two links, four parameters, and the octets for resolving
abbrev pub room : Room
room = record { link_slots = 11; param_slots = 29; octets = 8192 }

abbrev pub Holds : Example → Type 0
Holds r = Walk (octets r.text) room r.start r.steps r.outcome

pub record ExamplesHold : Type 0 where
  pub walks : Each Holds walks
  pub refusals : Each Holds refusals
  -- a catalogue has at most 65,536 octets and 256 packs, and may have as many
  pub most : (room : Room) (text : List ℕ) (ps : List Pack) → Catalogue room text ps → (length text ≤ 65536) × (length ps ≤ 256)
  pub as_many : (room : Room) (ps : List Pack) → Each (RightPack room) ps → Distinct ps → length (lines_of ps) ≤ 65536 → length ps ≤ 256
      → Catalogue room (lines_of ps) ps
  -- no target is resolved on a URI of more than 8,192 octets, or to more
  pub long_uri : (ps : List Pack) (p : Pack) (l : Link) → 8192 < length p.uri → along ps p (some l) ≡ stop no_target
  pub long_target : (ps : List Pack) (p : Pack) (l : Link)
      → 8192 < length (resolved p.uri (slice l.target_from l.target_to p.value)) → along ps p (some l) ≡ stop no_target
  -- the ends are told apart
  pub ends : map end_number (arrived ∷ no_link ∷ no_target ∷ no_pack ∷ []) ≡ 1 ∷ 2 ∷ 3 ∷ 4 ∷ []
