-- A path in two texts, and the lengths of a result. Assumes nothing.
use Prim.Native.Nat.{ℕ, ◌+◌, ◌-◌, ◌≤◌}
use native.Mathlib.Omega.{arith}
use mathlib.Core.Path.{◌≡◌, sym, ap, ◌∙◌}
use mathlib.Core.List.{List, ◌++◌}
use lib.ListN.{length, length-append}
use lib.Seq.{sets, slice, length-slice}
use Rattle.kinds.specs.Put.{Put}
use Rattle.resolution.specs.Walking.{at_end, run, text}
use Rattle.resolution.specs.declared.Walk.{Walk}
use Rattle.resolution.proofs.Appended.{run_append, text_append, kept_text}
use Rattle.dot_walk.specs.Put.{Written}
use Rattle.dot_walk.proofs.Leftwards.{bounded, part_length}
use Rattle.dot_walk.proofs.StoredBefore.{sets_before}
use Rattle.routes.specs.Laid.{part, path_laid, laid, Lies}
use Rattle.routes.specs.declared.Route.{Route}

module _ (base s : List ℕ) (r : Route) (l : Lies base s r) where
  -- left of the reference's own path
  abbrev pub own_left : Walk
  own_left = run (part s r.own) at_end

  pub whole_run : run (part base r.folder) own_left ≡ run (part base r.folder ++ part s r.own) at_end
  whole_run = sym (run_append (part base r.folder) (part s r.own) at_end)

  pub path_text : path_laid base s r ≡ text (part base r.folder) own_left ++ text (part s r.own) at_end
  path_text = text_append (part base r.folder) (part s r.own) at_end

  pub own_kept : own_left.kept ≡ length (text (part s r.own) at_end)
  own_kept = omega (arith, kept_text (part s r.own) at_end)

  pub path_length : length (path_laid base s r) ≡ length (text (part base r.folder) own_left) + length (text (part s r.own) at_end)
  path_length = ap length path_text ∙ length-append (text (part base r.folder) own_left) (text (part s r.own) at_end)

  pub path_kept : (run (part base r.folder ++ part s r.own) at_end).kept ≡ length (path_laid base s r)
  path_kept = omega (arith, kept_text (part base r.folder ++ part s r.own) at_end)

  -- both walks' numbers are small
  module _ (hs : length s ≤ 8192) where
    pub own_kept_small : own_left.kept ≤ 24576
    own_kept_small = omega (arith, (bounded (part s r.own) at_end).0, part_length s r.own.from.0 r.own.to.0 l.own.inside, l.own.inside)

    pub own_pending_small : own_left.pending ≤ 8192
    own_pending_small =
        omega (arith, (bounded (part s r.own) at_end).1, part_length s r.own.from.0 r.own.to.0 l.own.inside, l.own.inside)

    pub path_small : length base ≤ 8192 → length (path_laid base s r) ≤ 49152
    path_small hb =
        let u = part base r.folder in
        omega (
          arith,
          path_kept,
          ap (λ (t : Walk). t.kept) whole_run,
          (bounded u own_left).0,
          own_kept_small,
          part_length base r.folder.from.0 r.folder.to.0 l.folder.inside,
          l.folder.inside,
        )

    pub front_small : length (part s r.front) ≤ 8192
    front_small = omega (arith, part_length s r.front.from.0 r.front.to.0 l.front.inside, l.front.inside)

    pub tail_small : length (part s r.tail) ≤ 8192
    tail_small = omega (arith, part_length s r.tail.from.0 r.tail.to.0 l.tail.inside, l.tail.inside)

  pub laid_length : length (laid base s r)
      ≡ r.head.0 + length (part s r.front) + length (path_laid base s r) + length (part s r.tail)
  laid_length =
      let h = slice 0 r.head.0 base in
      let f = part s r.front in
      let p = path_laid base s r in
      let t = part s r.tail in
      omega
      (arith, length-append h (f ++ (p ++ t)), length-append f (p ++ t), length-append p t, length-slice 0 r.head.0 base l.head)

  -- the own path, and the folder before it
  pub both_written : {old mid new : List ℕ} {end : ℕ} {a b : Walk} → length (path_laid base s r) ≤ end
      → Written old mid end (part s r.own) at_end a → Written mid new end (part base r.folder) a b
      → Put old new (end - length (path_laid base s r)) end (path_laid base s r)
  both_written {old} {mid} {new} {end} {a} {b} h f g =
      let u = text (part base r.folder) own_left in
      let v = text (part s r.own) at_end in
      let n = length (path_laid base s r) in
      let ka : a.kept ≡ length v = ap (λ (x : Walk). x.kept) f.state ∙ own_kept in
      let kb : b.kept ≡ n =
      ap (λ (x : Walk). x.kept) (g.state ∙ ap (run (part base r.folder)) f.state ∙ whole_run) ∙ path_kept in
      let z : end - a.kept ≡ end - n + length u = omega (arith, ka, path_length, h) in
      record {
        buffer =
            g.buffer
            ∙ ap (λ (k : ℕ). sets mid (end - k) (text (part base r.folder) a)) kb
            ∙ ap (λ (x : Walk). sets mid (end - n) (text (part base r.folder) x)) f.state
            ∙ ap (λ (x : List ℕ). sets x (end - n) u) f.buffer
            ∙ sets_before old (end - n) (end - a.kept) u v z
            ∙ ap (λ (x : List ℕ). sets old (end - n) x) (sym path_text);
        place = omega (arith, h);
      }

  -- there is room for the folder
  pub room_before : {end : ℕ} {a : Walk} → length (path_laid base s r) ≤ end → a ≡ own_left
      → a.kept + length (text (part base r.folder) a) ≤ end
  room_before {end} {a} h e = rw e (omega (arith, path_length, own_kept, h))
