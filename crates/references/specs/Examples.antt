-- References and their components: examples of RFC 3986 (sections 1.1.2 and 3), and others of what is undefined and what is empty.
use Rattle.std.specs.Prelude.{ℕ, ◌≡◌, List, [], ◌∷◌, map}
use Prim.Native.String.{String}
use Rattle.std.proofs.Math.Option.{Option, none, some}
use Rattle.octets.specs.Text.{octets}
use Rattle.references.specs.Components.{Parts, recompose, split}

pub record Example : Type 0 where
  pub text : String
  pub parts : Parts

abbrev defined : Option String → Option (List ℕ)
defined none = none
defined (some t) = some (octets t)

-- the text, and its scheme, authority, path, query and fragment
abbrev pub example : String → Option String → Option String → String → Option String → Option String → Example
example t s a p q f =
    record {
      text = t;
      parts =
          record { scheme = defined s; authority = defined a; path = octets p; query = defined q; fragment = defined f };
    }

abbrev pub examples : List Example
examples =
    example "foo://example.com:8042/over/there?name=ferret#nose" (some "foo") (some "example.com:8042") "/over/there"
    (some "name=ferret") (some "nose")
    ∷ example "urn:example:animal:ferret:nose" (some "urn") none "example:animal:ferret:nose" none none
    ∷ example "ftp://ftp.is.co.za/rfc/rfc1808.txt" (some "ftp") (some "ftp.is.co.za") "/rfc/rfc1808.txt" none none
    ∷ example "ldap://[2001:db8::7]/c=GB?objectClass?one" (some "ldap") (some "[2001:db8::7]") "/c=GB" (some "objectClass?one") none
    ∷ example "mailto:John.Doe@example.com" (some "mailto") none "John.Doe@example.com" none none
    ∷ example "tel:+1-816-555-1212" (some "tel") none "+1-816-555-1212" none none
    ∷ example "telnet://192.0.2.16:80/" (some "telnet") (some "192.0.2.16:80") "/" none none
    ∷ example "" none none "" none none
    ∷ example "?" none none "" (some "") none
    ∷ example "#" none none "" none (some "")
    ∷ example "//" none (some "") "" none none
    ∷ example "a:" (some "a") none "" none none
    ∷ example "a:///?#" (some "a") (some "") "/" (some "") (some "")
    ∷ example "//a?b/c:d#e?f/g:h" none (some "a") "" (some "b/c:d") (some "e?f/g:h")
    ∷ example "/a:b//c" none none "/a:b//c" none none
    ∷ example "a/b:c" none none "a/b:c" none none
    ∷ example "a?b:c" none none "a" (some "b:c") none
    ∷ example "a#b:c" none none "a" none (some "b:c")
    ∷ []

-- each text splits into its parts, and they make it again
pub record ExamplesHold : Type 0 where
  pub split : map (λ e. split (octets e.text)) examples ≡ map (λ e. e.parts) examples
  pub recomposed : map (λ e. recompose e.parts) examples ≡ map (λ e. octets e.text) examples
