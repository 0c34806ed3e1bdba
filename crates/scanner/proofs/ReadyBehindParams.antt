-- Where the machine stands behind a link's parameters: its link is whole. Each parameter has an octet at least.
use Prim.Native.Nat.{ℕ, suc, ◌+◌, ◌≤◌, ◌<◌}
use native.Mathlib.Omega.{arith}
use mathlib.Core.Path.{◌≡◌, refl, subst, ◌∙◌}
use mathlib.Core.Bool.{Bool, true, false}
use mathlib.Core.List.{List, [], reverse}
use mathlib.Core.Option.{none, some}
use lib.Dec.{eqb}
use lib.ListN.{length, get_or, length-reverse}
use Rattle.octets.specs.Sets.{is_blank}
use Rattle.grammar.specs.Link.{Link, Param}
use Rattle.grammar.specs.Grammar.{Extra, At, Run, run_end, run_more}
use Rattle.grammar.specs.Targets.{ReferenceAt, References}
use Rattle.grammar.specs.Place.{MalformedAt}
use Rattle.grammar.specs.Machine.{State, gap, after, semi, Open, settle, close, opened}
use Rattle.grammar.proofs.Prefix.{is_dead, is_dead_lem}
use Rattle.grammar.proofs.TargetsHeld.{each_unsettled}
use Rattle.scan_parts.specs.Stands.{Stands, Ready}
use Rattle.scan_parts.proofs.Standing.{stands_on, stands_run, halts_at}
use Rattle.scan_parts.proofs.ReadyBehindValue.{ready_after}
use Rattle.scan_parts.proofs.ReadyBehindParam.{parsed_ready, parsed_forward}
use Rattle.scanner.specs.Linked.{Chain, no_params, one_more, Params}
use Rattle.scanner.proofs.KeptMore.{keep_fewer}

-- the open link with its parameters so far, the last first
abbrev pub holding : List Link → ℕ → ℕ → List Param → Open
holding ls b k qs = record { done = ls; target_from = b; target_to = k; params = qs }

settled_alive : (st : State) (i : ℕ) (ls : List Link) → settle st i ≡ some ls → is_dead st ≡ false
settled_alive st i ls e = go (is_dead st) refl
  where
    go : (b : Bool) → is_dead st ≡ b → is_dead st ≡ false
    go false q = q
    go true q =
        let none_there : none ≡ some ls = subst (λ (x : State). settle x i ≡ some ls) (is_dead_lem st q) e in
        let z : ◌≡◌ {A = ℕ} 0 1 = cc in
        absurd (omega arith)

module _ {extra : Extra} {s : List ℕ} where
  pub chain_forward : {a e : ℕ} {qs : List Param} → Chain extra s a qs e → length qs + a ≤ e
  chain_forward no_params = omega arith
  chain_forward (one_more c b q w p) =
      omega (arith, chain_forward c, b.forward, w.forward, (parsed_forward p).0)

  pub params_forward : {a j n : ℕ} → Params extra s a j n → (n + a ≤ j) × (j ≤ length s)
  params_forward p = (
    omega (
      arith,
      p.kept,
      keep_fewer s [] (reverse p.params),
      length-reverse p.params,
      chain_forward p.chain,
      p.blanks.forward,
    ),
    p.blanks.inside,
  )

  pub ready_blanks : {o : Open} {i j : ℕ} → Ready extra s o i → Run s is_blank i j → Ready extra s o j
  ready_blanks r run_end = r
  ready_blanks {o} r (run_more b t) =
      ready_after
      (stands_run (λ i c q. rw q) t (stands_on (after o) r.stands b.inside (r.steps b.inside ∙ rw b.is)))

  pub ready_semi : {o : Open} {j : ℕ} → Ready extra s o j → At s j 59 → Stands extra s (semi o) (suc j)
  unfolding is_blank
  ready_semi {o} r q = stands_on (semi o) r.stands q.inside (r.steps q.inside ∙ rw q.is)

  pub ready_comma : {o : Open} {j : ℕ} → Ready extra s o j → At s j 44 → Stands extra s (gap (close o)) (suc j)
  unfolding is_blank
  ready_comma {o} r q = stands_on (gap (close o)) r.stands q.inside (r.steps q.inside ∙ rw q.is)

  pub ready_halts : {o : Open} {j : ℕ} → Ready extra s o j → j < length s → is_blank (get_or s j 0) ≡ false → eqb (get_or s j 0) 59 ≡ false
      → eqb (get_or s j 0) 44 ≡ false → References s (close o) → MalformedAt extra s j
  ready_halts {o} {j} r h b x y refs =
      halts_at r.stands (settled_alive r.state j (close o) r.settles) h (r.steps h ∙ rw (b, x, y))
      (each_unsettled (ReferenceAt s) r.state j r.settles refs)

  pub chain_ready : {a i : ℕ} {qs : List Param} (ls : List Link) (b k : ℕ) → Chain extra s a qs i → Ready extra s (opened ls b k) a
      → Ready extra s (holding ls b k qs) i
  chain_ready ls b k no_params r = r
  chain_ready ls b k (one_more {qs = qs} c w q v p) r =
      parsed_ready (holding ls b k qs) p
      (stands_run (λ i x f. rw f) v.run (ready_semi (ready_blanks (chain_ready ls b k c r) w.run) q))
