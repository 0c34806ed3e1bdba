-- What the scan of a part says of the whole that it is a part of.
use Prim.Native.Nat.{ℕ, suc, ◌+◌}
use mathlib.Core.Path.{◌≡◌, refl, sym, subst}
use mathlib.Core.List.{List}
use Rattle.octets.specs.Sets.{is_blank, is_token}
use Rattle.grammar.specs.Grammar.{Extra, At}
use Rattle.kinds.specs.declared.Place.{Place}
use Rattle.kinds.specs.declared.Span.{Span}
use Rattle.records.specs.declared.ParamParts.{ParamParts}
use Rattle.cursor.specs.Passed.{Passed}
use Rattle.cursor.specs.declared.Cursor.{Cursor}
use Rattle.std.specs.Prelude.{Result, Ok, Err}
use Rattle.scan_parts.specs.Scanned.{
  InsideScanned,
  no_quote,
  unquoted,
  ValueScanned,
  no_value,
  a_value,
  ParamScanned,
  no_param,
  a_param,
}
use Rattle.scan_parts.proofs.ReadyBehindValue.{first_of, quote_starts}
use Rattle.scan_parts.proofs.ReadyBehindParam.{equals_reached}
use Rattle.scan_parts.proofs.PassedIsParsed.{FromTo, quoted_parsed, valued_parsed}

module _ {extra : Extra} {s : List ℕ} where
  -- ---- the inside of a quoted string

  module _ {v j : ℕ} {name : Span} (q : At s v 34) (k : j ≡ v + 1) where
    pub quote_stuck : {p : Place} → InsideScanned s j (Err p) → ValueScanned extra s name v (Err p)
    quote_stuck (no_quote f) = no_value (λ o n e p r. f extra o n e (suc v) (quote_starts q k o n e p) r)

    pub quote_passed : {a : Span} {c d : Cursor} → InsideScanned s j (Ok c) → FromTo a j c.at.0 → d.at.0 ≡ c.at.0 + 1
        → ValueScanned extra s name v (Ok (record { name = name; value = a; form = 2 }, d))
    quote_passed {a} (unquoted t z) w n = a_value refl (quoted_parsed {a = a} q k t z w n)

  -- ---- a value

  pub value_scanned : {a e k j v : ℕ} {name : Span} {u : Result (ParamParts × Cursor) Place} → Passed is_token s a e → (e ≡ a → ⊥) → Passed is_blank s e k
      → FromTo name a e → At s k 61 → j ≡ k + 1 → Passed is_blank s j v → ValueScanned extra s name v u → ParamScanned extra s a u
  value_scanned {a} {e} {v = v} {name = name} t n b x q m w i = go i
    where
      named : (r : ParamParts) → r.name ≡ name → FromTo r.name a e
      named r y = subst (λ (z : Span). FromTo z a e) (sym y) x

      go : {u : Result (ParamParts × Cursor) Place} → ValueScanned extra s name v u → ParamScanned extra s a u
      go (no_value f) = no_param (λ o p r. f o a e (equals_reached o (first_of t n) t b q m w p) r)
      go (a_value {r = r} y h) = a_param (valued_parsed {r = r} t n b (named r y) q m w h (refl, refl) refl)
