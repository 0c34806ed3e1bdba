-- The machine is exact: a header is derived with the links R just if the machine, run over it, finishes with R.
use Prim.Native.Nat.{ℕ, suc, ◌<◌, ◌≤◌}
use native.Mathlib.Omega.{arith}
use mathlib.Core.Path.{◌≡◌, refl, sym, ap, subst}
use mathlib.Core.List.{List, [], ◌∷◌, reverse, reverse_aux}
use mathlib.Core.Option.{Option, none, some}
use lib.ListN.{length, get_or, drop, length-drop}
use lib.Seq.{drop-cons}
use Rattle.grammar.specs.Link.{Link, Param}
use Rattle.grammar.specs.Grammar.{
  Extra,
  Admissible,
  run_end,
  run_more,
  Blanks,
  inside_end,
  plain,
  pair,
  target_end,
  octet,
  triple,
}
use Rattle.grammar.specs.Grammar.{
  token,
  quoted,
  wider,
  from_token,
  valueless,
  valued,
  Parameters,
  no_more,
  and_one,
  link,
  empty,
  one,
  Items,
  last,
  comma,
  Field,
}
use Rattle.grammar.specs.Machine.{
  State,
  gap,
  target,
  percent,
  hex,
  after,
  semi,
  name,
  named,
  equals,
  bare,
  wide,
  quote,
  escape,
  dead,
  Open,
}
use Rattle.grammar.specs.Machine.{step, run, settle, links_in_order, finish, param, add, flag}
use Rattle.grammar.proofs.Rest.{
  whole,
  Gap,
  Ends,
  at_its_end,
  at_comma,
  After,
  NameRest,
  no_value,
  a_value,
  all_token,
  turns_wide,
  Rest,
}
use Rattle.grammar.proofs.Rest.{
  r_gap,
  r_target,
  r_percent,
  r_hex,
  r_after,
  r_semi,
  r_name,
  r_named,
  r_equals,
  r_bare,
  r_wide,
  r_quote,
  r_escape,
}
use Rattle.grammar.proofs.Forward.{forward}
use Rattle.grammar.proofs.Backward.{backward}

module _ (extra : Extra) (s : List ℕ) where
  -- nothing stands at the text's end
  over : {A : Type 0} {i : ℕ} → i ≡ length s → i < length s → A
  over w h = absurd (omega arith)

  after_end : (o : Open) {i : ℕ} {ps : List Param} {R : List Link} → i ≡ length s → After extra s i ps R
      → whole o [] [] ≡ whole o ps R
  after_end o w a = go w a.params a.ends
    where
      go : {i j : ℕ} {ps : List Param} {R : List Link} → i ≡ length s → Parameters extra s i j ps → Ends extra s j R
          → whole o [] [] ≡ whole o ps R
      go w no_more (at_its_end run_end e) = refl
      go w no_more (at_its_end (run_more b r) e) = over w b.inside
      go w no_more (at_comma run_end a g) = over w a.inside
      go w no_more (at_comma (run_more b r) a g) = over w b.inside
      go w (and_one run_end a bl p ps) en = over w a.inside
      go w (and_one (run_more b r) a bl p ps) en = over w b.inside

  name_end_lem : (o : Open) {n e i j : ℕ} {p : Param} {ps : List Param} {R : List Link} → i ≡ length s
      → NameRest extra s n e i j p → After extra s j ps R → whole (add (flag n e) o) [] [] ≡ whole o (p ∷ ps) R
  name_end_lem o {n} {e} w (no_value run_end) a = after_end (add (flag n e) o) w a
  name_end_lem o w (no_value (run_more b r)) a = over w b.inside
  name_end_lem o w (a_value run_end q bl v) a = over w q.inside
  name_end_lem o w (a_value (run_more b r) q bl v) a = over w b.inside

  gap_end : (ls : List Link) {i : ℕ} {R : List Link} → i ≡ length s → Gap extra s i R → reverse ls ≡ reverse_aux ls R
  gap_end ls w g = go w g.before g.items
    where
      go : {i a b : ℕ} {R : List Link} → i ≡ length s → Blanks s i a → Items extra s a b R → reverse ls ≡ reverse_aux ls R
      go w (run_more b r) it = over w b.inside
      go w run_end (last empty) = refl
      go w run_end (last (one (link q t k ps))) = over w q.inside
      go w run_end (comma empty run_end q bl it) = over w q.inside
      go w run_end (comma empty (run_more b r) q bl it) = over w b.inside
      go w run_end (comma (one (link q t k ps)) r c bl it) = over w q.inside

  -- what the grammar still asks at the text's end is nothing
  at_the_end : {st : State} {i : ℕ} {R : List Link} → i ≡ length s → Rest extra s st i R → finish st i ≡ some R
  at_the_end w (r_gap {ls = ls} g) = ap some (gap_end ls w g)
  at_the_end w (r_target target_end k a) = over w k.inside
  at_the_end w (r_target (octet c t) k a) = over w c.inside
  at_the_end w (r_target (triple p x y t) k a) = over w p.inside
  at_the_end w (r_percent x y t k a) = over w x.inside
  at_the_end w (r_hex y t k a) = over w y.inside
  at_the_end w (r_after {o = o} a) = ap some (after_end o w a)
  at_the_end w (r_semi (run_more b r) p a) = over w b.inside
  at_the_end w (r_semi run_end (valueless n bl) a) = over w n.first.inside
  at_the_end w (r_semi run_end (valued n bl q cl v) a) = over w n.first.inside
  at_the_end w (r_name (run_more c r) nr a) = over w c.inside
  at_the_end w (r_name {o = o} run_end nr a) = ap some (name_end_lem o w nr a)
  at_the_end w (r_named {o = o} nr a) = ap some (name_end_lem o w nr a)
  at_the_end w (r_equals (run_more b r) v a) = over w b.inside
  at_the_end w (r_equals run_end (token t) a) = over w t.first.inside
  at_the_end w (r_equals run_end (quoted q t k) a) = over w q.inside
  at_the_end w (r_equals run_end (wider (from_token run_end x r)) a) = over w x.inside
  at_the_end w (r_equals run_end (wider (from_token (run_more c t) x r)) a) = over w c.inside
  at_the_end w (r_bare (all_token (run_more c r)) a) = over w c.inside
  at_the_end w (r_bare {o = o} {n = n} {e = e} {v = v} {j = j} (all_token run_end) a) =
      ap some (after_end (add (param n e v j 1) o) w a)
  at_the_end w (r_bare (turns_wide (run_more c t) x r) a) = over w c.inside
  at_the_end w (r_bare (turns_wide run_end x r) a) = over w x.inside
  at_the_end w (r_wide (run_more c r) a) = over w c.inside
  at_the_end w (r_wide {o = o} {n = n} {e = e} {v = v} {j = j} run_end a) =
      ap some (after_end (add (param n e v j 3) o) w a)
  at_the_end w (r_quote inside_end k a) = over w k.inside
  at_the_end w (r_quote (plain c t) k a) = over w c.inside
  at_the_end w (r_quote (pair b x t) k a) = over w b.inside
  at_the_end w (r_escape x t k a) = over w x.inside

  no_after : {i : ℕ} → i ≡ length s → After extra s i [] []
  no_after w = record { stop = _; params = no_more; ends = at_its_end run_end w }

  finished : {ms ls : List Link} {i : ℕ} {st : State} → some ms ≡ some ls → Rest extra s st i (reverse ms)
      → Rest extra s st i (reverse ls)
  finished {ms} {ls} {i} {st} e r =
      let q : ms ≡ ls = cc in
      subst (λ (x : List Link). Rest extra s st i (reverse x)) q r

  never : {A : Type 0} {ls : List Link} → none ≡ some ls → A
  never e =
      let z : ◌≡◌ {A = ℕ} 0 1 = cc in
      absurd (omega arith)

  -- where the machine may finish, the grammar asks nothing more
  nothing_asked : (st : State) {i : ℕ} {ls : List Link} → i ≡ length s → settle st i ≡ some ls → Rest extra s st i (reverse ls)
  nothing_asked (gap ls) w e =
      finished e
      (r_gap (record { start = _; stop = _; end = _; before = run_end; items = last empty; after = run_end; complete = w }))
  nothing_asked (target ls a) w e = never e
  nothing_asked (percent ls a) w e = never e
  nothing_asked (hex ls a) w e = never e
  nothing_asked (after o) w e = finished e (r_after (no_after w))
  nothing_asked (semi o) w e = never e
  nothing_asked (name o n) w e = finished e (r_name run_end (no_value run_end) (no_after w))
  nothing_asked (named o n k) w e = finished e (r_named (no_value run_end) (no_after w))
  nothing_asked (equals o n k) w e = never e
  nothing_asked (bare o n k v) w e = finished e (r_bare (all_token run_end) (no_after w))
  nothing_asked (wide o n k v) w e = finished e (r_wide run_end (no_after w))
  nothing_asked (quote o n k v) w e = never e
  nothing_asked (escape o n k v) w e = never e
  nothing_asked dead w e = never e

  finishes : (st : State) {i : ℕ} {R : List Link} → i ≡ length s → finish st i ≡ some R → Rest extra s st i R
  finishes st {i} {R} w e = go (settle st i) refl e
    where
      go : (x : Option (List Link)) → settle st i ≡ x → links_in_order x ≡ some R → Rest extra s st i R
      go none q e = never e
      go (some ls) q e =
          let same : reverse ls ≡ R = cc in
          subst (λ (x : List Link). Rest extra s st i x) same (nothing_asked st w q)

-- where the text ends, and where an octet stands, told by what is left of it
pub left_none : (s : List ℕ) (i : ℕ) → i ≤ length s → drop i s ≡ [] → i ≡ length s
left_none s i h e = omega (arith, length-drop i s, ap length e)

pub left_some : (s : List ℕ) (i c : ℕ) (cs : List ℕ) → drop i s ≡ c ∷ cs
    → (i < length s) × (get_or s i 0 ≡ c) × (drop (suc i) s ≡ cs)
left_some s i c cs e =
    let h : i < length s = omega (arith, length-drop i s, ap length e) in
    let d : drop i s ≡ get_or s i 0 ∷ drop (suc i) s = drop-cons s i 0 h in
    (h, cc, cc)

module _ (extra : Extra) (apart : Admissible extra) (s : List ℕ) where
  runs_out : (t : List ℕ) {st : State} {i : ℕ} {R : List Link} → i ≤ length s → drop i s ≡ t → Rest extra s st i R
      → finish (run extra st i t) (length s) ≡ some R
  runs_out [] {st} {i} {R} h e r =
      let w : i ≡ length s = left_none s i h e in
      subst (λ (n : ℕ). finish st n ≡ some R) w (at_the_end extra s w r)
  runs_out (c ∷ cs) {st} {i} {R} h e r =
      let (k, is, rest) = left_some s i c cs e in
      runs_out cs k rest (subst (λ (x : ℕ). Rest extra s (step extra st i x) (suc i) R) is (forward extra apart s k r))

  runs_back : (t : List ℕ) (st : State) {i : ℕ} {R : List Link} → i ≤ length s → drop i s ≡ t
      → finish (run extra st i t) (length s) ≡ some R → Rest extra s st i R
  runs_back [] st {i} {R} h e f =
      let w : i ≡ length s = left_none s i h e in
      finishes extra s st w (subst (λ (n : ℕ). finish st n ≡ some R) (sym w) f)
  runs_back (c ∷ cs) st {i} {R} h e f =
      let (k, is, rest) = left_some s i c cs e in
      backward extra s st k
      (subst (λ (x : ℕ). Rest extra s (step extra st i x) (suc i) R) (sym is) (runs_back cs (step extra st i c) k rest f))

  -- the links that the machine reads in the whole text
  pub derived_read : {R : List Link} → Field extra s R → finish (run extra (gap []) 0 s) (length s) ≡ some R
  derived_read f =
      runs_out s (omega arith) refl
      (r_gap
      (record {
        start = f.start;
        stop = f.stop;
        end = f.end;
        before = f.before;
        items = f.items;
        after = f.after;
        complete = f.whole;
      }))

  pub read_derived : {R : List Link} → finish (run extra (gap []) 0 s) (length s) ≡ some R → Field extra s R
  read_derived e = go (runs_back s (gap []) (omega arith) refl e)
    where
      go : {R : List Link} → Rest extra s (gap []) 0 R → Field extra s R
      go (r_gap g) =
          record {
            start = g.start;
            stop = g.stop;
            end = g.end;
            before = g.before;
            items = g.items;
            after = g.after;
            whole = g.complete;
          }
