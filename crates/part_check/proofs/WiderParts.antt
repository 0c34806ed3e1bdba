-- A part is a wider value if the run of token octets from its start ends before it does, and the run of bare octets from there ends
-- where it does.
use Prim.Native.Nat.{ℕ, suc, ◌≤◌, ◌<◌}
use native.Mathlib.Omega.{arith}
use mathlib.Core.Path.{◌≡◌, sym, subst, ◌∙◌}
use mathlib.Core.Bool.{Bool, true, false, ◌&&◌, ◌||◌, false≢true, true≢false}
use mathlib.Core.List.{List}
use lib.Dec.{ltb, eqb}
use lib.ListN.{take, get_or}
use Rattle.octets.specs.Sets.{is_token}
use Rattle.octets.specs.Editions.{further}
use Rattle.octets.specs.declared.editions.Edition.{Edition}
use Rattle.grammar.specs.Grammar.{In, Run, run_more, is_bare, Wider, from_token}
use Rattle.grammar.proofs.Editions.{apart}
use Rattle.tables.specs.Good.{InText}
use Rattle.tables.proofs.Forms.{run_has}
use Rattle.tables.proofs.Texts.{run_le, or_true}
use Rattle.cursor.specs.Passed.{Passed}
use Rattle.part_check.specs.Decides.{Decides}
use Rattle.part_check.proofs.Deciding.{also, both, tests_lt, tests_eq}
use Rattle.part_check.proofs.Tokens.{uncut, split, stopped, reached}

or_else : {a b : Bool} → a ≡ false → (a || b) ≡ true → b ≡ true
or_else {a = false} q e = e
or_else {a = true} q e = absurd (true≢false q)

module _ (ed : Edition) (s : List ℕ) {a e k j : ℕ} (h : InText s a e) (p : Passed is_token (take e s) a k)
    (q : Passed (is_bare (further ed)) (take e s) k j) where
  -- the octet behind the token octets is a further one
  wider : k < e → Run s (is_bare (further ed)) k e → Wider (further ed) s a e
  wider l r =
      let b = split l r in
      from_token (uncut s h.inside p.run)
      (record { inside = b.first.inside; is = or_else (stopped s h.inside p l) b.first.is }) b.rest

  -- token octets end at the first further octet, as it is no token octet
  meets : {m : ℕ} → Run s is_token a m → In s (further ed) m → m < e → k ≡ m
  meets {m} t x l = omega (arith, not_before, not_behind)
    where
      not_before : (k < m) → ⊥
      not_before b = false≢true (sym (stopped s h.inside p (omega arith)) ∙ run_has s k t p.forward b)

      not_behind : (m < k) → ⊥
      not_behind b =
          false≢true
          (sym ((apart ed).token _ x.is) ∙ run_has s m (uncut s h.inside p.run) (run_le s t) b)

  ends : Wider (further ed) s a e → (k < e) × (j ≡ e)
  ends (from_token {k = m} t x r) =
      let l : suc m ≤ e = run_le s r in
      let at : k ≡ m = meets t x l in
      let bare = or_true (is_token (get_or s m 0)) x.is in
      let rest : Run s (is_bare (further ed)) m e = run_more (record { inside = x.inside; is = bare }) r in
      (omega arith, reached s h.inside q (subst (λ (n : ℕ). Run s (is_bare (further ed)) n e) (sym at) rest))

  pub wider_told : Decides (ltb k e && eqb j e) (Wider (further ed) s a e)
  wider_told =
      also (λ w. wider w.0 (subst (Run s (is_bare (further ed)) k) w.1 (uncut s h.inside q.run))) ends
      (both (tests_lt k e) (tests_eq j e))
