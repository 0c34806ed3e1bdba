-- The machine over a join: each padded header adds its links, raised, and a comma opens the next.
use Prim.Native.Nat.{ℕ, suc, ◌+◌}
use native.Mathlib.Omega.{arith}
use native.Mathlib.Nat.{add-zero}
use native.Mathlib.Numerals.{add-one}
use mathlib.Core.Path.{◌≡◌, refl, sym, ap, subst, ◌∙◌}
use mathlib.Core.Bool.{Bool, true, false, cond, ◌||◌, false≢true}
use mathlib.Core.List.{List, [], ◌∷◌, ◌++◌, map, reverse, append-nil, append_assoc, reverse-append}
use mathlib.Core.Option.{Option, none, some}
use lib.Dec.{eqb}
use lib.ListN.{length, length-append}
use borrow.Author.Tests.{eqb-true}
use Rattle.octets.specs.Sets.{all, is_blank, is_token, is_plain, is_escapable, is_target, is_hex}
use Rattle.octets.proofs.Octets.{both}
use Rattle.grammar.specs.Link.{Link}
use Rattle.grammar.specs.Grammar.{Extra, Admissible, Field}
use Rattle.grammar.specs.Targets.{ReferenceAt, References}
use Rattle.grammar.specs.Join.{Padded, padded, join, Readable}
use Rattle.grammar.specs.Laws.{JoinsMalformed}
use Rattle.grammar.specs.Machine.{
  State,
  gap,
  target,
  percent,
  hex,
  after,
  semi,
  name,
  named,
  equals,
  bare,
  wide,
  quote,
  escape,
  dead,
  step,
  run,
  settle,
}
use Rattle.grammar.specs.Machine.{links_in_order}
use Rattle.grammar.proofs.Exact.{derived_read, read_derived}
use Rattle.grammar.proofs.Prefix.{run_append}
use Rattle.grammar.proofs.TargetsHeld.{never}
use Rattle.grammar.proofs.Closing.{settled}
use Rattle.grammar.proofs.TargetsRaised.{each_second, targets_inside, references_lowered}
use Rattle.grammar.proofs.Raise.{raise_link, behind, behind_in, lift, run_lift, settle_lift, map_reverse_aux}

module _ (extra : Extra) (apart : Admissible extra) where
  -- SP and HTAB change nothing of where the header may end
  module _ (c : ℕ) (blank : is_blank c ≡ true) (no_target : is_target c ≡ false) (no-percent : eqb c 37 ≡ false)
      (no_close : eqb c 62 ≡ false) (no-hex : is_hex c ≡ false) (no_token : is_token c ≡ false) (no_extra : extra c ≡ false)
      (no_quote : eqb c 34 ≡ false) (no-escape : eqb c 92 ≡ false) where
    blank_by : (st : State) (i : ℕ) → settle (step extra st i c) (suc i) ≡ settle st i
    blank_by (gap ks) i = rw blank
    blank_by (target ks a) i = rw (no_target, no-percent, no_close)
    blank_by (percent ks a) i = rw no-hex
    blank_by (hex ks a) i = rw no-hex
    blank_by (after o) i = rw blank
    blank_by (semi o) i = rw blank
    blank_by (name o n) i = rw (no_token, blank)
    blank_by (named o n k) i = rw blank
    blank_by (equals o n k) i = rw blank
    blank_by (bare o n k v) i = rw (no_token, no_extra, blank)
    blank_by (wide o n k v) i = rw (no_token, no_extra, blank)
    blank_by (quote o n k v) i = rw (no_quote, no-escape) (either (is_plain c))
      where
        either : (b : Bool) → settle (cond b (quote o n k v) dead) (suc i) ≡ none
        either true = refl
        either false = refl
    blank_by (escape o n k v) i = either (is_escapable c)
      where
        either : (b : Bool) → settle (cond b (quote o n k v) dead) (suc i) ≡ none
        either true = refl
        either false = refl
    blank_by dead i = refl

  blank_step : (st : State) (i c : ℕ) → is_blank c ≡ true → settle (step extra st i c) (suc i) ≡ settle st i
  unfolding is_blank is_target is_hex is_token
  blank_step st i c b = go (eqb c 32) refl (eqb c 9) refl b
    where
      go : (x : Bool) → eqb c 32 ≡ x → (y : Bool) → eqb c 9 ≡ y → (x || (y || false)) ≡ true
          → settle (step extra st i c) (suc i) ≡ settle st i
      go true p y q r = rw (eqb-true c 32 p) (blank_by 32 refl refl refl refl refl refl apart.space refl refl st i)
      go false p true q r = rw (eqb-true c 9 q) (blank_by 9 refl refl refl refl refl refl apart.tab refl refl st i)
      go false p false q r = absurd (false≢true r)

  blanks_run : (t : List ℕ) (st : State) (i : ℕ) → all is_blank t ≡ true → settle (run extra st i t) (i + length t) ≡ settle st i
  blanks_run [] st i b = ap (settle st) (add-zero i)
  blanks_run (c ∷ t) st i b =
      let (x, y) = both (is_blank c) (all is_blank t) b in
      let moved : i + suc (length t) ≡ suc i + length t = omega arith in
      ap (settle (run extra (step extra st i c) (suc i) t)) moved
      ∙ blanks_run t (step extra st i c) (suc i) y
      ∙ blank_step st i c x

  pub gap_blanks : (t : List ℕ) (ls : List Link) (i : ℕ) → all is_blank t ≡ true → run extra (gap ls) i t ≡ gap ls
  gap_blanks [] ls i e = refl
  gap_blanks (c ∷ t) ls i e =
      let (b, r) = both (is_blank c) (all is_blank t) e in
      rw b (gap_blanks t ls (suc i) r)

  -- where the header may end, a comma opens the next place of the list
  comma_step : (st : State) (i : ℕ) (ls : List Link) → settle st i ≡ some ls → step extra st i 44 ≡ gap ls
  unfolding is_blank is_token
  comma_step (gap ks) i ls e = cc
  comma_step (target ks a) i ls e = never e
  comma_step (percent ks a) i ls e = never e
  comma_step (hex ks a) i ls e = never e
  comma_step (after o) i ls e = cc
  comma_step (semi o) i ls e = never e
  comma_step (name o n) i ls e = cc
  comma_step (named o n k) i ls e = cc
  comma_step (equals o n k) i ls e = never e
  comma_step (bare o n k v) i ls e = rw apart.comma (cc)
  comma_step (wide o n k v) i ls e = rw apart.comma (cc)
  comma_step (quote o n k v) i ls e = never e
  comma_step (escape o n k v) i ls e = never e
  comma_step dead i ls e = never e

  -- a text after which the header may end, with a comma and more behind it
  pub comma_run : (t rest : List ℕ) (st : State) (k : ℕ) (ls : List Link) → settle (run extra st k t) (k + length t) ≡ some ls
      → run extra st k (t ++ 44 ∷ rest) ≡ run extra (gap ls) (k + length t + 1) rest
  comma_run t rest st k ls e =
      run_append extra t (44 ∷ rest) st k
      ∙ ap (λ (x : State). run extra x (suc (k + length t)) rest) (comma_step (run extra st k t) (k + length t) ls e)
      ∙ ap (λ (n : ℕ). run extra (gap ls) n rest) (sym (add-one (k + length t)))

  -- a padded header, read from a gap, is the header alone, raised
  pub padded_settle : (p : Padded) (pre : List Link) (k : ℕ)
      → settle (run extra (gap pre) k (padded p)) (k + length (padded p))
      ≡ behind_in (k + length p.left) pre (settle (run extra (gap []) 0 p.header) (length p.header))
  padded_settle p pre k =
      let m = k + length p.left in
      let front : k + length (p.left ++ p.header) ≡ m + length p.header =
      omega (arith, length-append p.left p.header)
      in
      let end : k + length (padded p) ≡ k + length (p.left ++ p.header) + length p.right =
      omega (arith, length-append (p.left ++ p.header) p.right)
      in
      let raised : run extra (gap pre) k (p.left ++ p.header) ≡ lift m pre (run extra (gap []) 0 p.header) =
      run_append extra p.left p.header (gap pre) k
      ∙ ap (λ (x : State). run extra x m p.header) (gap_blanks p.left pre k p.left_blank)
      ∙ ap (λ (n : ℕ). run extra (gap pre) n p.header) (sym (add-zero m))
      ∙ run_lift m pre extra p.header (gap []) 0
      in
      rw (end, run_append extra (p.left ++ p.header) p.right (gap pre) k)
      (blanks_run p.right _ _ p.right_blank
      ∙ rw (raised, front) (settle_lift m pre (run extra (gap []) 0 p.header) (length p.header)))

  pub padded_run : (p : Padded) {R : List Link} → Field extra p.header R → (pre : List Link) (k : ℕ)
      → (ls : List Link) × (settle (run extra (gap pre) k (padded p)) (k + length (padded p)) ≡ some ls)
      × (reverse ls ≡ reverse pre ++ map (raise_link (k + length p.left)) R)
  padded_run p f pre k =
      let (ls, q, r) = settled extra apart p.header f in
      let m = k + length p.left in (
        behind m pre ls,
        padded_settle p pre k ∙ ap (behind_in m pre) q,
        reverse-append (map (raise_link m) ls) pre
            ∙ ap (λ (x : List Link). reverse pre ++ x) (map_reverse_aux (raise_link m) ls [] ∙ ap (map (raise_link m)) r),
      )

  -- the links of the join, before keeping
  abbrev pub joined_all : ℕ → List (Readable extra) → List Link
  joined_all k [] = []
  joined_all k (a ∷ hs) =
      map (raise_link (k + length a.pad.left)) a.reads.links ++ joined_all (k + length (padded a.pad) + 1) hs

  abbrev pub pads : List (Readable extra) → List Padded
  pads hs = map (λ (a : Readable extra). a.pad) hs

  joined_run : (hs : List (Readable extra)) (pre : List Link) (k : ℕ)
      → (ls : List Link) × (settle (run extra (gap pre) k (join (pads hs))) (k + length (join (pads hs))) ≡ some ls)
      × (reverse ls ≡ reverse pre ++ joined_all k hs)
  joined_run [] pre k = (pre, refl, sym (append-nil (reverse pre)))
  joined_run (a ∷ []) pre k =
      let (ls, q, r) = padded_run a.pad a.reads.derived pre k in
      (ls, q, r ∙ ap (λ (x : List Link). reverse pre ++ x) (sym (append-nil _)))
  joined_run (a ∷ b ∷ hs) pre k =
      let (ls, q, r) = padded_run a.pad a.reads.derived pre k in
      let n = k + length (padded a.pad) in
      let (ms, u, v) = joined_run (b ∷ hs) ls (n + 1) in
      let J = join (pads (b ∷ hs)) in
      let end : n + 1 + length J ≡ k + length (padded a.pad ++ 44 ∷ J) =
      omega (arith, length-append (padded a.pad) (44 ∷ J))
      in (
        ms,
        subst (λ (m : ℕ). settle (run extra (gap pre) k (padded a.pad ++ 44 ∷ J)) m ≡ some ms) end
            (ap (λ (x : State). settle x (n + 1 + length J)) (comma_run (padded a.pad) J (gap pre) k ls q) ∙ u),
        v ∙ ap (λ (x : List Link). x ++ joined_all (n + 1) (b ∷ hs)) r ∙ append_assoc (reverse pre) _ _,
      )

  -- the join of accepted headers is derived, with the links of each, raised
  pub joined_derived : (hs : List (Readable extra)) → Field extra (join (pads hs)) (joined_all 0 hs)
  joined_derived hs =
      let (ls, q, r) = joined_run hs [] 0 in
      let end : 0 + length (join (pads hs)) ≡ length (join (pads hs)) = omega arith in
      read_derived extra apart (join (pads hs))
      (ap links_in_order (subst (λ (n : ℕ). settle (run extra (gap []) 0 (join (pads hs))) n ≡ some ls) end q) ∙ ap some r)

pub joins_malformed : JoinsMalformed
joins_malformed extra apart p q K r bad R f refs =
    let (ls, e, _) = padded_run extra apart p r.derived [] 0 in
    let k = 0 + length (padded p) + 1 in
    let s = padded p ++ 44 ∷ padded q in
    let end : length s ≡ k + length (padded q) = omega (arith, length-append (padded p) (44 ∷ padded q)) in
    let alone = settle (run extra (gap []) 0 q.header) (length q.header) in
    let read : settle (run extra (gap []) 0 s) (length s) ≡ behind_in (k + length q.left) ls alone =
    rw (end, comma_run extra apart (padded p) (padded q) (gap []) 0 ls e) (padded_settle extra apart q ls k)
    in
    go ls alone refl (subst (λ (x : Option (List Link)). links_in_order x ≡ some R) read (derived_read extra apart s f))
  where
    go : (pre : List Link) (x : Option (List Link)) → settle (run extra (gap []) 0 q.header) (length q.header) ≡ x
        → links_in_order (behind_in (0 + length (padded p) + 1 + length q.left) pre x) ≡ some R → ⊥
    go pre none _ e = never e
    go pre (some ls) a e =
        let derived = read_derived extra apart q.header {R = reverse ls} (ap links_in_order a) in
        let n : 0 + length (padded p) + 1 + length q.left ≡ length (padded p ++ 44 ∷ q.left) =
        omega (arith, length-append (padded p) (44 ∷ q.left))
        in
        let w = (padded p ++ 44 ∷ q.left) ++ (q.header ++ q.right) in
        let parted : padded p ++ 44 ∷ padded q ≡ w = simp append_assoc in
        let raised = map (raise_link (length (padded p ++ 44 ∷ q.left))) (reverse ls) in
        let all : R ≡ reverse pre ++ raised = rest pre ls n e in
        bad (reverse ls) derived
        (references_lowered (padded p ++ 44 ∷ q.left) q.header q.right (reverse ls)
        (targets_inside extra apart q.header derived)
        (each_second (ReferenceAt w) (reverse pre) raised
        (subst (λ (x : List ℕ). References x (reverse pre ++ raised)) parted
        (subst (References (padded p ++ 44 ∷ padded q)) all refs))))
      where
        rest : (pre ls : List Link) {n k : ℕ} → n ≡ k → links_in_order (behind_in n pre (some ls)) ≡ some R
            → R ≡ reverse pre ++ map (raise_link k) (reverse ls)
        rest pre ls {n} {k} h e =
            let q : reverse (behind n pre ls) ≡ R = cc in
            sym q
            ∙ reverse-append (map (raise_link n) ls) pre
            ∙ ap (λ (x : List Link). reverse pre ++ x) (map_reverse_aux (raise_link n) ls [])
            ∙ ap (λ (x : ℕ). reverse pre ++ map (raise_link x) (reverse ls)) h
