-- References on a base and what they resolve to: RFC 3986's examples, normal and abnormal (section 5.4), and others of what is undefined
-- and what is empty, and of dots taken literally.
use Rattle.std.specs.Prelude.{ℕ, ◌≡◌, List, [], ◌∷◌, ◌++◌, map}
use Prim.Native.String.{String}
use Rattle.octets.specs.Text.{octets}
use Rattle.resolution.specs.Resolve.{resolved}

pub record Example : Type 0 where
  pub base : String
  pub reference : String
  pub result : String

abbrev pub on : String → String → String → Example
on b r t = record { base = b; reference = r; result = t }

-- on the base of section 5.4
abbrev pub gives : String → String → Example
gives = on "http://a/b/c/d;p?q"

-- section 5.4.1
abbrev pub normal : List Example
normal =
    gives "g:h" "g:h"
    ∷ gives "g" "http://a/b/c/g"
    ∷ gives "./g" "http://a/b/c/g"
    ∷ gives "g/" "http://a/b/c/g/"
    ∷ gives "/g" "http://a/g"
    ∷ gives "//g" "http://g"
    ∷ gives "?y" "http://a/b/c/d;p?y"
    ∷ gives "g?y" "http://a/b/c/g?y"
    ∷ gives "#s" "http://a/b/c/d;p?q#s"
    ∷ gives "g#s" "http://a/b/c/g#s"
    ∷ gives "g?y#s" "http://a/b/c/g?y#s"
    ∷ gives ";x" "http://a/b/c/;x"
    ∷ gives "g;x" "http://a/b/c/g;x"
    ∷ gives "g;x?y#s" "http://a/b/c/g;x?y#s"
    ∷ gives "" "http://a/b/c/d;p?q"
    ∷ gives "." "http://a/b/c/"
    ∷ gives "./" "http://a/b/c/"
    ∷ gives ".." "http://a/b/"
    ∷ gives "../" "http://a/b/"
    ∷ gives "../g" "http://a/b/g"
    ∷ gives "../.." "http://a/"
    ∷ gives "../../" "http://a/"
    ∷ gives "../../g" "http://a/g"
    ∷ []

-- section 5.4.2
abbrev pub abnormal : List Example
abnormal =
    gives "../../../g" "http://a/g"
    ∷ gives "../../../../g" "http://a/g"
    ∷ gives "/./g" "http://a/g"
    ∷ gives "/../g" "http://a/g"
    ∷ gives "g." "http://a/b/c/g."
    ∷ gives ".g" "http://a/b/c/.g"
    ∷ gives "g.." "http://a/b/c/g.."
    ∷ gives "..g" "http://a/b/c/..g"
    ∷ gives "./../g" "http://a/b/g"
    ∷ gives "./g/." "http://a/b/c/g/"
    ∷ gives "g/./h" "http://a/b/c/g/h"
    ∷ gives "g/../h" "http://a/b/c/h"
    ∷ gives "g;x=1/./y" "http://a/b/c/g;x=1/y"
    ∷ gives "g;x=1/../y" "http://a/b/c/y"
    ∷ gives "g?y/./x" "http://a/b/c/g?y/./x"
    ∷ gives "g?y/../x" "http://a/b/c/g?y/../x"
    ∷ gives "g#s/./x" "http://a/b/c/g#s/./x"
    ∷ gives "g#s/../x" "http://a/b/c/g#s/../x"
    ∷ gives "http:g" "http:g"
    ∷ []

abbrev pub others : List Example
others =
    on "a:b?q" "?" "a:b?"
    ∷ on "a:b?q" "#" "a:b?q#"
    ∷ on "a:b?q#f" "" "a:b?q"
    ∷ on "a:b?q#f" "c" "a:c"
    ∷ on "a://" "b" "a:///b"
    ∷ on "a://b" "c" "a://b/c"
    ∷ on "a://b?q" "c" "a://b/c"
    ∷ on "a:///b" "?" "a:///b?"
    ∷ on "a:/b" "//" "a://"
    ∷ on "a:/b/../c/." "#f" "a:/b/../c/.#f"
    ∷ on "a:/b" ".//c" "a://c"
    ∷ on "a:/b/c" "%2e%2E/d" "a:/b/%2e%2E/d"
    ∷ on "a:b/c" "../../d" "a:/d"
    ∷ on "a:../b" "c" "a:c"
    ∷ on "a:b" "../c" "a:c"
    ∷ on "a:b" "c:../d" "c:d"
    ∷ []

abbrev pub examples : List Example
examples = normal ++ (abnormal ++ others)

-- each reference, resolved on its base, gives its result
abbrev pub ExamplesHold : Type 0
ExamplesHold = map (λ e. resolved (octets e.base) (octets e.reference)) examples ≡ map (λ e. octets e.result) examples
