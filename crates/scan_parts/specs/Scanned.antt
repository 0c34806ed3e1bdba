-- What each scan promises of its answer: what it passed, or that the header is malformed there, if the machine stood before it. What
-- stands in a target or in quotes is the same in every edition.
use Rattle.std.specs.Prelude.{ℕ, suc, ◌<◌, ◌≡◌, Bool, false, List, length, get_or, Result, Ok, Err}
use Rattle.octets.specs.Sets.{is_hex}
use Rattle.grammar.specs.Link.{Link}
use Rattle.grammar.specs.Grammar.{Extra, At, In, Inside, Target}
use Rattle.grammar.specs.Targets.{ReferenceAt, References}
use Rattle.grammar.specs.Place.{MalformedAt}
use Rattle.grammar.specs.Machine.{target, percent, semi, equals, quote, Open, close}
use Rattle.kinds.specs.declared.Place.{Place}
use Rattle.kinds.specs.declared.Span.{Span}
use Rattle.records.specs.declared.ParamParts.{ParamParts}
use Rattle.records.specs.Slots.{to_param}
use Rattle.cursor.specs.declared.Cursor.{Cursor}
use Rattle.scan_parts.specs.Stands.{Stands}
use Rattle.scan_parts.specs.Parsed.{ParsedValue, Parsed}

-- one octet of the set f at place a
pub data OneScanned (f : ℕ → Bool) (s : List ℕ) (a : ℕ) : Result Cursor Place → Type 0 where
  none_there : {p : Place} → p.0 ≡ a → (a < length s → f (get_or s a 0) ≡ false) → OneScanned f s a (Err p)
  one_there : {c : Cursor} → c.at.0 ≡ suc a → In s f a → OneScanned f s a (Ok c)

-- two hex digits at place a, behind `%`
pub data TripleScanned (s : List ℕ) (a : ℕ) : Result Cursor Place → Type 0 where
  no_digit : {p : Place} → ((extra : Extra) (ls : List Link) (b : ℕ) → Stands extra s (percent ls b) a → References s ls
      → MalformedAt extra s p.0)
      → TripleScanned s a (Err p)
  digits : {c : Cursor} → c.at.0 ≡ suc (suc a) → In s is_hex a → In s is_hex (suc a) → TripleScanned s a (Ok c)

-- a target from place a, and the `>` behind it
pub data TargetScanned (s : List ℕ) (a : ℕ) : Result Cursor Place → Type 0 where
  no_target : {p : Place} → ((extra : Extra) (ls : List Link) (b : ℕ) → Stands extra s (target ls b) a → References s ls
      → MalformedAt extra s p.0)
      → TargetScanned s a (Err p)
  closed : {c : Cursor} → Target s a c.at.0 → At s c.at.0 62 → TargetScanned s a (Ok c)

-- a target that begins at place a and is a reference, and the `>` behind it
pub data ReferenceScanned (s : List ℕ) (a : ℕ) : Result Cursor Place → Type 0 where
  no_reference : {p : Place}
      → ((extra : Extra) (ls : List Link) → Stands extra s (target ls a) a → References s ls → MalformedAt extra s p.0)
      → ReferenceScanned s a (Err p)
  a_reference : {c : Cursor} → Target s a c.at.0 → ReferenceAt s a c.at.0 → At s c.at.0 62 → ReferenceScanned s a (Ok c)

-- the inside of a quoted string from place a, and the quote behind it
pub data InsideScanned (s : List ℕ) (a : ℕ) : Result Cursor Place → Type 0 where
  no_quote : {p : Place} → ((extra : Extra) (o : Open) (n e v : ℕ) → Stands extra s (quote o n e v) a → References s (close o)
      → MalformedAt extra s p.0)
      → InsideScanned s a (Err p)
  unquoted : {c : Cursor} → Inside s a c.at.0 → At s c.at.0 34 → InsideScanned s a (Ok c)

-- the value, from place v on, of a parameter of this name
pub data ValueScanned (extra : Extra) (s : List ℕ) (name : Span) (v : ℕ) : Result (ParamParts × Cursor) Place → Type 0 where
  no_value : {p : Place} → ((o : Open) (n e : ℕ) → Stands extra s (equals o n e) v → References s (close o) → MalformedAt extra s p.0)
      → ValueScanned extra s name v (Err p)
  a_value : {r : ParamParts} {c : Cursor} → r.name ≡ name
      → ParsedValue extra s v r.value.from.0 r.value.to.0 r.form c.at.0 → ValueScanned extra s name v (Ok (r, c))

-- a parameter from place a on
pub data ParamScanned (extra : Extra) (s : List ℕ) (a : ℕ) : Result (ParamParts × Cursor) Place → Type 0 where
  no_param : {p : Place} → ((o : Open) → Stands extra s (semi o) a → References s (close o) → MalformedAt extra s p.0) → ParamScanned extra s a (Err p)
  a_param : {r : ParamParts} {c : Cursor} → Parsed extra s a (to_param r) c.at.0 → ParamScanned extra s a (Ok (r, c))
