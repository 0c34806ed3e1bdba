-- Texts and what they are, some for each rule of Appendix A: what is just allowed, and what is just too much.
use Prim.Native.String.{String}
use Rattle.std.specs.Prelude.{◌≡◌, Bool, true, false, cond, ◌&&◌, List, [], ◌∷◌, ◌++◌}
use Rattle.std.specs.Bool.{beq}
use Rattle.octets.specs.Text.{octets}
use Rattle.rules.specs.Left.{matches}
use Rattle.references.specs.Octets.{has}
use Rattle.references.specs.AppendixA.{uri_reference, URI, absolute_uri}

-- texts that are no references; references without a scheme; URIs with a fragment, and without one, which are absolute-URIs
pub data Row : Type 0 where
  wrong relative fragmented absolute : List String → Row

-- whether the grammar, tried octet by octet, says so: the text is a reference, a URI, an absolute-URI, or it isn't
abbrev pub judged : Bool → Bool → Bool → String → Bool
judged r u a t =
    beq (matches has uri_reference (octets t)) r
    && beq (matches has URI (octets t)) u
    && beq (matches has absolute_uri (octets t)) a

-- the texts for which f doesn't hold
abbrev pub without : (String → Bool) → List String → List String
without f [] = []
without f (t ∷ ts) = cond (f t) (without f ts) (t ∷ without f ts)

abbrev pub failing_in : Row → List String
failing_in (wrong ts) = without (judged false false false) ts
failing_in (relative ts) = without (judged true false false) ts
failing_in (fragmented ts) = without (judged true true false) ts
failing_in (absolute ts) = without (judged true true true) ts

-- the texts of which the grammar says something else
abbrev pub failing : List Row → List String
failing [] = []
failing (r ∷ rs) = failing_in r ++ failing rs

-- the five kinds of path, and a first segment with a colon, which would be read as a scheme
abbrev pub paths : List Row
paths =
    relative ("" ∷ "a" ∷ "/" ∷ "/a" ∷ "a/" ∷ "a/b//c/" ∷ "/a/b" ∷ "/a//b" ∷ "/a:b" ∷ "a/b:c" ∷ "a/:" ∷ "./a:b" ∷ "@" ∷ "//"
    ∷ "///" ∷ "////" ∷ "//a" ∷ "//a/" ∷ "//a//b" ∷ [])
    ∷ wrong ("1:a" ∷ ":" ∷ "%61:b" ∷ "@:" ∷ "~a:b/c" ∷ [])
    ∷ absolute ("a:" ∷ "a:b" ∷ "a::" ∷ "a:b:c" ∷ "a:b/c" ∷ "a:b//c" ∷ "a:/" ∷ "a:/b" ∷ "a:/b//c" ∷ "a://" ∷ "a:///" ∷ "a:////"
    ∷ "a://b" ∷ "a://b//c" ∷ [])
    ∷ []

-- a scheme is a letter, and letters, digits and three marks behind it
abbrev pub schemes : List Row
schemes =
    absolute ("A:" ∷ "Z:" ∷ "a:" ∷ "z:" ∷ "aAzZ09+-.:" ∷ "a1+:" ∷ "a.-:" ∷ [])
    ∷ wrong ("0:" ∷ "9a:" ∷ "+a:" ∷ "-a:" ∷ ".a:" ∷ "a_:" ∷ "a~:" ∷ "a!:" ∷ "a%41:" ∷ "a@:" ∷ "a :" ∷ [])
    ∷ []

-- the octets of a segment: the first one, one behind a scheme, and others. The last two characters are the octets 128 and 255
abbrev pub segments : List Row
segments =
    relative ("AZaz09-._~!$&'()*+,;=@" ∷ "/AZaz09-._~!$&'()*+,;=@:" ∷ "a/AZaz09-._~!$&'()*+,;=@:" ∷ [])
    ∷ absolute ("a:AZaz09-._~!$&'()*+,;=@:" ∷ "a:/AZaz09-._~!$&'()*+,;=@:" ∷ "a://b/AZaz09-._~!$&'()*+,;=@:" ∷ [])
    ∷ wrong ("/[" ∷ "/]" ∷ "a[" ∷ "a/[" ∷ "a:[" ∷ "a:/[" ∷ "//a/[" ∷ " " ∷ "\"" ∷ "<" ∷ ">" ∷ "[" ∷ "\\" ∷ "]" ∷ "^" ∷ "`" ∷ "{"
    ∷ "|" ∷ "}" ∷ "\0" ∷ "\u{1f}" ∷ "\u{7f}" ∷ "\u{80}" ∷ "ÿ" ∷ [])
    ∷ []

-- `%` and two hex digits of either case
abbrev pub triples : List Row
triples =
    relative ("%09" ∷ "%AF" ∷ "%af" ∷ "%0a%Fa" ∷ "/%41" ∷ "a/%41" ∷ "?%41" ∷ "#%41" ∷ "//%41" ∷ "//%41@" ∷ [])
    ∷ wrong ("%" ∷ "%4" ∷ "a%" ∷ "%%" ∷ "%%41" ∷ "%/0" ∷ "%:0" ∷ "%@0" ∷ "%G0" ∷ "%`0" ∷ "%g0" ∷ "%0/" ∷ "%0:" ∷ "%0@" ∷ "%0G"
    ∷ "%0`" ∷ "%0g" ∷ "/%4" ∷ "a/%4" ∷ "?%4" ∷ "#%4" ∷ "//%4" ∷ "//%4@" ∷ "a:%4" ∷ [])
    ∷ []

-- a query goes up to the first `#`, and a fragment to the end
abbrev pub tails : List Row
tails =
    relative ("?" ∷ "#" ∷ "?#" ∷ "a?b" ∷ "a#b" ∷ "a?b#c" ∷ "//a?b" ∷ "//a#b" ∷ "/?b" ∷ "a?b?c" ∷ "a#b?c"
    ∷ "?AZaz09-._~!$&'()*+,;=:@/?%41" ∷ "#AZaz09-._~!$&'()*+,;=:@/?%41" ∷ [])
    ∷ wrong ("a#b#c" ∷ "##" ∷ "?#a#" ∷ "?[" ∷ "?]" ∷ "#[" ∷ "#]" ∷ "?^" ∷ "#^" ∷ "a:#b#c" ∷ "a:?[" ∷ "a:#[" ∷ "a:##" ∷ [])
    ∷ absolute ("a:?" ∷ "a:?b:c/d?e" ∷ "a:b?c?d" ∷ "a://b?c" ∷ [])
    ∷ fragmented ("a:#" ∷ "a:?#" ∷ "a:b#c" ∷ "a:b?c#d" ∷ "a://b#c" ∷ "a:/#" ∷ "a:#b:c/d?e@f" ∷ [])
    ∷ []

-- userinfo, host and port
abbrev pub authorities : List Row
authorities =
    relative ("//a:1" ∷ "//a:" ∷ "//:" ∷ "//:1" ∷ "//a:0123456789" ∷ "//a@b" ∷ "//@" ∷ "//a@" ∷ "//@:" ∷ "//a:b@c"
    ∷ "//a:b:c@d:1" ∷ "//a/b@c@d" ∷ "//AZaz09-._~!$&'()*+,;=" ∷ "//AZaz09-._~!$&'()*+,;=:%41@b" ∷ "//a%41b:1" ∷ "//256.1.1.1"
    ∷ "//[::]" ∷ "//[::]:" ∷ "//[::]:1" ∷ "//a@[::]" ∷ "//[::]/a" ∷ [])
    ∷ wrong ("//a:b" ∷ "//a:1b" ∷ "//a:1:2" ∷ "//a:%31" ∷ "//a:-" ∷ "//::" ∷ "//a::" ∷ "//v1.:a" ∷ "//@@" ∷ "//a@b@c" ∷ "//a@b:c"
    ∷ "//@:a" ∷ "//^" ∷ "//^@" ∷ "//[::]:a" ∷ "//[::]1" ∷ "//[::]a" ∷ "//[::][::]" ∷ "//[::]@a" ∷ "//[" ∷ "//]" ∷ "//[]"
    ∷ "//[a]" ∷ "//a[" ∷ "//a]" ∷ "//[::" ∷ "//::]" ∷ "//[[::]" ∷ "//[::]]" ∷ "//[[::]]" ∷ "///[::]" ∷ "[::]" ∷ "/[::]"
    ∷ "a:[::]" ∷ "a://b:c" ∷ "a://b@c@d" ∷ "a://[b]" ∷ "a:///[::]" ∷ "a:://[::]" ∷ [])
    ∷ absolute ("a://b:1" ∷ "a://@b" ∷ "a://[::]:1/c?d" ∷ [])
    ∷ []

-- no row fails
pub record RowsHold : Type 0 where
  pub paths : failing paths ≡ []
  pub schemes : failing schemes ≡ []
  pub segments : failing segments ≡ []
  pub triples : failing triples ≡ []
  pub tails : failing tails ≡ []
  pub authorities : failing authorities ≡ []
