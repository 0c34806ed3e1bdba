-- A link's parameters passed so far: what they are parsed as, how many are kept, and what each return of the scan says.
use Prim.Native.Nat.{ℕ, ◌+◌, ◌≤◌, ◌<◌}
use native.Mathlib.Omega.{arith}
use native.Mathlib.Numerals.{add-one}
use mathlib.Core.Path.{◌≡◌, refl, sym, subst, ◌∙◌}
use mathlib.Core.Logic.{◌⊎◌}
use mathlib.Core.Bool.{Bool, false, cond}
use mathlib.Core.List.{List, [], ◌∷◌, map, reverse}
use lib.ListN.{length, length-reverse}
use lib.Seq.{slice}
use Rattle.octets.specs.Sets.{is_blank}
use Rattle.octets.specs.Fold.{folded}
use Rattle.grammar.specs.Link.{Param}
use Rattle.grammar.specs.Grammar.{Extra, At}
use Rattle.grammar.specs.Kept.{name_of, keep_after, code_of}
use Rattle.grammar.specs.Machine.{semi}
use Rattle.tables.specs.Good.{InText}
use Rattle.kinds.specs.declared.Place.{Place}
use Rattle.records.specs.declared.ParamParts.{ParamParts}
use Rattle.records.specs.Slots.{to_param}
use Rattle.cursor.specs.Passed.{Passed, Looked}
use Rattle.cursor.specs.declared.Cursor.{Cursor}
use Rattle.names.specs.declared.Seen.{Seen}
use Rattle.names.specs.Remembers.{Remembers, none_seen, has_code, with_code}
use Rattle.names.proofs.Seeing.{nothing_seen, has_told, seen_with}
use Rattle.scan_parts.specs.Stands.{Stands}
use Rattle.scan_parts.specs.Scanned.{ParamScanned, no_param, a_param}
use Rattle.scan_parts.proofs.Standing.{stands_run}
use Rattle.scan_parts.proofs.ReadyBehindParam.{parsed_forward, parsed_name}
use Rattle.std.specs.Prelude.{Ok, Err}
use Rattle.scanner.specs.Linked.{Chain, no_params, one_more, ParamsScanned, no_params_here, all_params}
use Rattle.scanner.proofs.KeptMore.{is_again, kept_more, keep_fewer}
use Rattle.scanner.proofs.NotedInOrder.{KeptNoted}
use Rattle.scanner.proofs.ReadyBehindParams.{holding, chain_forward, ready_blanks, ready_semi, ready_halts, chain_ready}

-- how far a link's parameters have been passed, from place a: to i, with n of them kept and their names remembered
pub record ParamsSoFar (extra : Extra) (s : List ℕ) (a i n : ℕ) (x : Seen) (params : List Param) : Type 0 where
  pub chain : Chain extra s a params i
  pub inside : i ≤ length s
  pub kept : n ≡ length (keep_after s [] (reverse params))
  pub seen : Remembers x (map (name_of s) params)

module _ {extra : Extra} {s : List ℕ} where
  pub begin : {a : ℕ} {x : Seen} → a ≤ length s → x ≡ none_seen → ParamsSoFar extra s a a 0 x []
  begin h e = record { chain = no_params; inside = h; kept = refl; seen = nothing_seen e }

  -- n parameters take as many octets at least
  pub few_so_far : {a i n : ℕ} {x : Seen} {qs : List Param} → ParamsSoFar extra s a i n x qs → n + a ≤ i
  few_so_far {qs = qs} g =
      omega (arith, g.kept, keep_fewer s [] (reverse qs), length-reverse qs, chain_forward g.chain)

  -- what is remembered tells whether a name kept once stands again
  pub told : (r : ParamParts) {a i n c : ℕ} {x : Seen} {b : Bool} {qs : List Param} → ParamsSoFar extra s a i n x qs
      → c ≡ code_of (folded (slice r.name.from.0 r.name.to.0 s)) → b ≡ has_code x c → b ≡ is_again s (to_param r) qs
  unfolding name_of
  told r g c h = has_told g.seen (name_of s (to_param r)) c h

  pub more : {a i j k e n m c : ℕ} {x y : Seen} {b : Bool} {r : ParamParts} {d : Cursor} {qs : List Param}
      → ParamsSoFar extra s a i n x qs → Passed is_blank s i j → At s j 59 → k ≡ j + 1 → Passed is_blank s k e → ParamScanned extra s e (Ok (r, d))
      → c ≡ code_of (folded (slice r.name.from.0 r.name.to.0 s)) → b ≡ has_code x c → m ≡ n + cond b 0 1
      → y ≡ with_code x c → ParamsSoFar extra s a d.at.0 m y (to_param r ∷ qs)
  unfolding name_of
  more {j = j} {e = e} {r = r} {qs = qs} g w q l v (a_param p) c h f o =
      record {
        chain = one_more g.chain w q (subst (λ (t : ℕ). Passed is_blank s t e) (l ∙ add-one j) v) p;
        inside = (parsed_forward p).1;
        kept = kept_more s (to_param r) qs g.kept (told r g c h) f;
        seen = seen_with g.seen (name_of s (to_param r)) c o;
      }

  -- what was passed lies in the text, and the name too
  pub param_inside : {e : ℕ} {r : ParamParts} {d : Cursor} → ParamScanned extra s e (Ok (r, d))
      → (e < d.at.0) × (d.at.0 ≤ length s) × InText s r.name.from.0 r.name.to.0
  param_inside (a_param p) = ((parsed_forward p).0, (parsed_forward p).1, parsed_name p)

  pub params_ended : {a i n m : ℕ} {P P' : List ℕ} {x : Seen} {qs : List Param} {c : Cursor} → ParamsSoFar extra s a i n x qs → KeptNoted s m qs P P'
      → Passed is_blank s i c.at.0 → (length s ≤ c.at.0) ⊎ At s c.at.0 44 → ParamsScanned extra s a m P P' (Ok (c, n))
  params_ended g k b e =
      all_params
      (record { params = _; end = _; chain = g.chain; blanks = b; ends = e; kept = g.kept })
      k

  pub neither : {a i j n m : ℕ} {P P' : List ℕ} {x : Seen} {qs : List Param} → ParamsSoFar extra s a i n x qs → Passed is_blank s i j → j < length s → Looked s j 44 false
      → Looked s j 59 false → ParamsScanned extra s a m P P' (Err (record { 0 = j }))
  neither g b h l k =
      no_params_here
      (λ ls c d r x y.
      ready_halts (ready_blanks (chain_ready ls c d g.chain r) b.run) h (b.stops h) (k.not refl h)
      (l.not refl h) (x, y))

  pub param_stuck : {a i j k e n m : ℕ} {P P' : List ℕ} {x : Seen} {qs : List Param} {p : Place} → ParamsSoFar extra s a i n x qs → Passed is_blank s i j → At s j 59
      → k ≡ j + 1 → Passed is_blank s k e → ParamScanned extra s e (Err p) → ParamsScanned extra s a m P P' (Err p)
  param_stuck {j = j} {qs = qs} g w q l v (no_param f) =
      no_params_here
      (λ ls c d r x y.
      f (holding ls c d qs)
      (stands_run (λ i x y. rw y) v.run
      (subst (Stands extra s (semi (holding ls c d qs))) (sym (l ∙ add-one j))
      (ready_semi (ready_blanks (chain_ready ls c d g.chain r) w.run) q))) (x, y))
