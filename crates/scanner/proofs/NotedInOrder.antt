-- Records noted one behind another: a link's kept parameters, and links with theirs.
use Prim.Native.Nat.{ℕ, ◌+◌, ◌*◌}
use native.Mathlib.Omega.{arith}
use mathlib.Core.Path.{◌≡◌, refl, sym, ap, subst, ◌∙◌}
use mathlib.Core.Bool.{Bool, true, false, cond}
use mathlib.Core.List.{List, [], ◌∷◌, ◌++◌, reverse}
use lib.ListN.{length}
use lib.Seq.{slice}
use Rattle.octets.specs.Fold.{folded}
use Rattle.grammar.specs.Link.{Param}
use Rattle.grammar.specs.Kept.{name_of, unless, keep_after, code_of}
use Rattle.grammar.specs.Records.{param_width, records_of}
use Rattle.tables.proofs.Filled.{records_length, records_append}
use Rattle.records.specs.declared.ParamParts.{ParamParts}
use Rattle.records.specs.Slots.{to_param, param_numbers}
use Rattle.notes.specs.Noted.{Noted}
use Rattle.notes.proofs.InOrder.{noted_none, noted_then}
use Rattle.scanner.proofs.KeptMore.{is_again, keep_more}

-- of a link's parameters qs, held last first, those kept were noted from number m on
abbrev pub KeptNoted : (s : List ℕ) (m : ℕ) (qs : List Param) (P P' : List ℕ) → Type 0
KeptNoted s m qs P P' = Noted P P' (param_width * m) (records_of s (keep_after s [] (reverse qs)))

pub none_noted : (s : List ℕ) (m : ℕ) (P : List ℕ) → KeptNoted s m [] P P
none_noted s m P = noted_none P (param_width * m)

-- the numbers of a record, with the code of its name
pub record_numbers : (s : List ℕ) {r : ParamParts} {c : ℕ} → c ≡ code_of (folded (slice r.name.from.0 r.name.to.0 s))
    → param_numbers (record { parts = r; code = c }) ≡ records_of s (to_param r ∷ [])
unfolding name_of
record_numbers s h = rw h

-- the records of what is kept, with one parameter more
pub records_more : (s : List ℕ) (p : Param) (qs : List Param) {b : Bool} → b ≡ is_again s p qs
    → records_of s (keep_after s [] (reverse qs)) ++ cond b [] (records_of s (p ∷ [])) ≡ records_of s (keep_after s [] (reverse (p ∷ qs)))
records_more s p qs {b} e =
    ap (λ (x : List ℕ). records_of s kept ++ x) (one b) ∙ sym (records_append s kept (unless b p []))
    ∙ ap (λ (x : Bool). records_of s (kept ++ unless x p [])) e ∙ ap (records_of s) (sym (keep_more s p qs))
  where
    kept : List Param
    kept = keep_after s [] (reverse qs)

    one : (b : Bool) → cond b [] (records_of s (p ∷ [])) ≡ records_of s (unless b p [])
    one true = refl
    one false = refl

-- one parameter more, of which n were kept
pub one_noted : (s : List ℕ) (m : ℕ) (qs : List Param) (r : ParamParts) {n k c : ℕ} {P P' P'' : List ℕ} {b : Bool} → KeptNoted s m qs P P'
    → n ≡ length (keep_after s [] (reverse qs)) → k ≡ m + n → c ≡ code_of (folded (slice r.name.from.0 r.name.to.0 s))
    → b ≡ is_again s (to_param r) qs → Noted P' P'' (param_width * k) (cond b [] (param_numbers (record { parts = r; code = c })))
    → KeptNoted s m (to_param r ∷ qs) P P''
one_noted s m qs r {n} {k} {c} {P} {P'} {P''} {b} g e l h t w =
    let kept = keep_after s [] (reverse qs) in
    let at : param_width * k ≡ param_width * m + length (records_of s kept) = omega (arith, e, l, records_length s kept) in
    subst (Noted P P'' (param_width * m)) (records_more s (to_param r) qs t)
    (noted_then (records_of s kept) (cond b [] (records_of s (to_param r ∷ []))) g at
    (subst (λ (x : List ℕ). Noted P' P'' (param_width * k) (cond b [] x)) (record_numbers s h) w))
