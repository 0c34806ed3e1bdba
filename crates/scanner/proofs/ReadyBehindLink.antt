-- Where the machine stands behind a link: it is whole. A link whose target or parameters are stuck is malformed there.
use Prim.Native.Nat.{ℕ, suc, ◌+◌, ◌*◌, ◌≤◌, ◌<◌}
use native.Mathlib.Omega.{arith}
use native.Mathlib.Numerals.{add-one}
use mathlib.Core.Path.{◌≡◌, subst, ◌∙◌}
use mathlib.Core.List.{List, [], ◌∷◌, reverse}
use lib.ListN.{length}
use Rattle.octets.specs.Sets.{is_target}
use Rattle.grammar.specs.Link.{Link}
use Rattle.grammar.specs.Grammar.{Extra, At, Target}
use Rattle.grammar.specs.Machine.{target, after, opened}
use Rattle.grammar.specs.Records.{link_width}
use Rattle.tables.proofs.Texts.{target_le}
use Rattle.kinds.specs.declared.Place.{Place}
use Rattle.kinds.specs.declared.Span.{Span}
use Rattle.cursor.specs.declared.Cursor.{Cursor}
use Rattle.scan_parts.specs.Stands.{Stands, Ready}
use Rattle.scan_parts.specs.Scanned.{ReferenceScanned, no_reference, a_reference}
use Rattle.scan_parts.proofs.Standing.{stands_on}
use Rattle.scan_parts.proofs.TargetSoFar.{target_stands}
use Rattle.scan_parts.proofs.ReadyBehindValue.{ready_after}
use Rattle.scan_parts.proofs.PassedIsParsed.{FromTo}
use Rattle.notes.specs.Noted.{Noted}
use Rattle.std.specs.Prelude.{Ok, Err}
use Rattle.scanner.specs.Linked.{ParamsScanned, no_params_here, all_params, WholeLink, LinkScanned, no_link, a_link}
use Rattle.scanner.proofs.ReadyBehindParams.{holding, params_forward, ready_blanks, chain_ready}

pub target_inside : {s : List ℕ} {a : ℕ} {c : Cursor} → ReferenceScanned s a (Ok c) → c.at.0 < length s
target_inside (a_reference t y q) = q.inside

pub target_forward : {s : List ℕ} {a : ℕ} {c : Cursor} → ReferenceScanned s a (Ok c) → a ≤ c.at.0
target_forward {s} (a_reference t y q) = target_le s t

module _ {extra : Extra} {s : List ℕ} where
  pub after_close : {a k : ℕ} (ls : List Link) → Target s a k → At s k 62 → Stands extra s (target ls a) a
      → Stands extra s (after (opened ls a k)) (suc k)
  unfolding is_target
  after_close {a} {k} ls t q p =
      stands_on (after (opened ls a k)) (target_stands ls a t p) q.inside (rw q.is)

  pub target_stuck : {a n m : ℕ} {L L' P P' : List ℕ} {p : Place} → ReferenceScanned s a (Err p)
      → LinkScanned extra s a n m L L' P P' (Err p)
  target_stuck (no_reference f) = no_link (λ ls p refs. f extra ls p refs)

  module _ {a j m : ℕ} {P P' : List ℕ} {c : Cursor} (t : ReferenceScanned s a (Ok c)) (k : j ≡ c.at.0 + 1) where
    -- the parameters are stuck
    pub params_stuck : {n : ℕ} {L L' : List ℕ} {q : Place} → ParamsScanned extra s j m P P' (Err q)
        → LinkScanned extra s a n m L L' P P' (Err q)
    params_stuck {q = q} p = go t (subst (λ (i : ℕ). ParamsScanned extra s i m P P' (Err q)) (k ∙ add-one c.at.0) p)
      where
        go : {c : Cursor} {n : ℕ} {L L' : List ℕ} {q : Place} → ReferenceScanned s a (Ok c) → ParamsScanned extra s (suc c.at.0) m P P' (Err q)
            → LinkScanned extra s a n m L L' P P' (Err q)
        go (a_reference {c = c} t y q) (no_params_here f) =
            no_link (λ ls p refs. f ls a c.at.0 (ready_after (after_close ls t q p)) y refs)

    -- the link is whole, and its record has been noted
    pub link_passed : (n : ℕ) {L L' : List ℕ} {d : Cursor} {x : ℕ} {b : Span} → ParamsScanned extra s j m P P' (Ok (d, x)) → FromTo b a c.at.0
        → Noted L L' (link_width * n) (b.from.0 ∷ b.to.0 ∷ m ∷ x ∷ []) → LinkScanned extra s a n m L L' P P' (Ok (d, x))
    link_passed n {d = d} {x = x} p f h =
        go t (subst (λ (i : ℕ). ParamsScanned extra s i m P P' (Ok (d, x))) (k ∙ add-one c.at.0) p) (rw (f.0, f.1) at h)
      where
        go : {c d : Cursor} {x n : ℕ} {L L' : List ℕ} → ReferenceScanned s a (Ok c) → ParamsScanned extra s (suc c.at.0) m P P' (Ok (d, x))
            → Noted L L' (link_width * n) (a ∷ c.at.0 ∷ m ∷ x ∷ []) → LinkScanned extra s a n m L L' P P' (Ok (d, x))
        go (a_reference t y q) (all_params w k) h =
            a_link (record { close = _; target = t; closed = q; rest = w }) y (record { link = h; params = k })

  -- the link, with all its parameters
  abbrev pub link_of : {a j n : ℕ} → WholeLink extra s a j n → Link
  link_of {a} w = record { target_from = a; target_to = w.close; params = reverse w.rest.params }

  pub link_ready : {a j n : ℕ} (ls : List Link) (w : WholeLink extra s a j n) → Stands extra s (target ls a) a
      → Ready extra s (holding ls a w.close w.rest.params) j
  link_ready {a} ls w p =
      ready_blanks
      (chain_ready ls a w.close w.rest.chain (ready_after (after_close ls w.target w.closed p)))
      w.rest.blanks.run

  pub link_forward : {a j n : ℕ} → WholeLink extra s a j n → (n + suc a ≤ j) × (j ≤ length s)
  link_forward w =
      let f = params_forward w.rest in
      (omega (arith, f.0, target_le s w.target), f.1)
