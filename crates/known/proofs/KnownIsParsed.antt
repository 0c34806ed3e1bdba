-- A value or a parameter that is known to be derived is parsed: what would be refused can't stand there.
use Prim.Native.Nat.{ℕ, suc, ◌+◌}
use mathlib.Core.Path.{◌≡◌, refl}
use mathlib.Core.Bool.{Bool, false, cond}
use mathlib.Core.List.{List}
use lib.Dec.{eqb}
use Rattle.octets.specs.Sets.{is_blank, is_token}
use Rattle.grammar.specs.Grammar.{Extra, is_bare, At}
use Rattle.kinds.specs.declared.Span.{Span}
use Rattle.cursor.specs.Passed.{Passed, Looked}
use Rattle.scan_parts.proofs.Standing.{dies}
use Rattle.scan_parts.specs.Parsed.{ParsedValue}
use Rattle.scan_parts.proofs.ReadyBehindValue.{first_of, no_value_step, quote_starts}
use Rattle.scan_parts.proofs.ReadyBehindParam.{no_name, equals_reached}
use Rattle.scan_parts.proofs.PassedIsParsed.{FromTo, bare_parsed}
use Rattle.known.specs.Known.{KnownQuoted, KnownValue, KnownParam}

module _ {extra : Extra} {s : List ℕ} where
  module _ {v : ℕ} (k : KnownValue extra s v) where
    pub known_quoted : {j : ℕ} → At s v 34 → j ≡ v + 1 → KnownQuoted s j
    known_quoted q e =
        record {
          extra = extra;
          link = k.link;
          name = k.name;
          end = k.end;
          value = suc v;
          known =
              record {
                all = k.known.all;
                derived = k.known.derived;
                stands = quote_starts q e k.link k.name k.end k.known.stands;
              };
        }

    pub bare_value : {m e f : ℕ} {a : Span} {b : Bool} → Looked s v 34 b → b ≡ false → Passed is_token s v m
        → Passed (is_bare extra) s m e → FromTo a v e → f ≡ cond (eqb m e) 1 3
        → ParsedValue extra s v a.from.0 a.to.0 f e
    bare_value l f t w x z =
        bare_parsed t w
        (λ e.
        dies k.known.stands refl (no_value_step extra k.clear (l.not f) t w e k.link k.name k.end) k.known.derived)
        x z

  module _ {a e : ℕ} (k : KnownParam extra s a) (t : Passed is_token s a e) where
    pub has_name : e ≡ a → ⊥
    has_name q = dies k.known.stands refl (no_name extra k.clear t q k.link) k.known.derived

    pub known_value : {i j v : ℕ} → Passed is_blank s e i → At s i 61 → j ≡ i + 1 → Passed is_blank s j v → KnownValue extra s v
    known_value b q m w =
        record {
          link = k.link;
          name = a;
          end = e;
          known =
              record {
                all = k.known.all;
                derived = k.known.derived;
                stands = equals_reached k.link (first_of t has_name) t b q m w k.known.stands;
              };
          clear = record { inside = w.inside; clear = w.stops };
        }
