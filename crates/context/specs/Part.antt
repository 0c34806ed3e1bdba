-- What the answer tells of a link's context, whatever the base is.
use Rattle.std.specs.Prelude.{ℕ, ◌+◌, ◌≡◌, List, Result, Ok, Err, length}
use Rattle.std.specs.Borrow.{Bor}
use Rattle.tables.specs.Table.{Table}
use Rattle.tables.specs.Good.{InText}
use Rattle.outcomes.specs.Context.{ContextOf, Context, ContextOut, of_text, of_base, context_octets}
use Rattle.answers.specs.Context.{context_out}
use Rattle.answers.specs.declared.Refusal.{Refusal}
use Rattle.answers.specs.declared.context_answer.Context as told
use Rattle.answers.specs.declared.context_answer.Context.TheVariants.{Anchored, Base}

-- a part of the text lies in it
abbrev pub Within : List ℕ → Result told.Context Refusal → Type 0
Within s (Ok (Anchored p)) = InText s p.from.0 p.to.0
Within s (Ok Base) = Unit
Within s (Err w) = Unit

-- of a table that may be used
pub record IsAnchor (t : Table) (i : ℕ) (a : told.Context) : Type 0 where
  pub outcome : (base : List ℕ) → ContextOf t base i (context_out (length base) (Ok a))
  pub within : Within t.text (Ok a)

-- asked with the number n of an edition
pub record IsContext (n : ℕ) (t : Table) (i : ℕ) (a : Result told.Context Refusal) : Type 0 where
  pub outcome : (base : List ℕ) → Context n t base i (context_out (length base) a)
  pub within : Within t.text a

-- where the part of the text or of the base begins in memory: a block, and a place in it
abbrev pub begins_at : Bor (List ℕ) → Bor (List ℕ) → ContextOut → ℕ × ℕ
begins_at text base o =
    elim o.source [ of_text ↦ (text.ref_ptr.0, text.ref_ptr.1 + o.start) | of_base ↦ (base.ref_ptr.0, base.ref_ptr.1 + o.start) ]

-- what the reference r hands back: the octets of the outcome's part, where they stand in the text or in the base
pub record HandsBack (n : ℕ) (t : Table) (i : ℕ) (text base r : Bor (List ℕ)) : Type 0 where
  pub out : ContextOut
  pub outcome : Context n t base.now i out
  pub octets : r.now ≡ context_octets t.text base.now out
  pub place : r.ref_ptr ≡ begins_at text base out
