-- A link's parameters written so far: one at each turn, in order, each behind those before.
use Prim.Native.Nat.{ℕ, ◌+◌, ◌*◌, ◌/◌, ◌≤◌, ◌<◌}
use native.Mathlib.Omega.{arith}
use native.Mathlib.Nat.{add-zero, add_assoc}
use native.Mathlib.Numerals.{add-one}
use mathlib.Core.Path.{◌≡◌, refl, sym, ap, ap₂, subst, ◌∙◌}
use mathlib.Core.Bool.{Bool, true, false, cond, not}
use mathlib.Core.List.{List, [], ◌∷◌, ◌++◌, reverse, append-nil}
use lib.ListN.{length}
use lib.Seq.{slice, sets, length-sets}
use borrow.Author.Tests.{not-true}
use Rattle.octets.specs.Sets.{is_blank}
use Rattle.octets.specs.Fold.{folded}
use Rattle.grammar.specs.Link.{Param}
use Rattle.grammar.specs.Grammar.{Extra, At}
use Rattle.grammar.specs.Kept.{keep_after, code_of}
use Rattle.grammar.specs.Records.{param_width, param_room_of, records_of}
use Rattle.grammar.specs.Machine.{semi}
use Rattle.kinds.proofs.Stores.{sets_append}
use Rattle.records.specs.declared.ParamParts.{ParamParts}
use Rattle.records.specs.Slots.{to_param}
use Rattle.cursor.specs.Passed.{Passed, Looked}
use Rattle.names.specs.declared.Seen.{Seen}
use Rattle.names.specs.Remembers.{none_seen, has_code, with_code}
use Rattle.scan_parts.specs.Stands.{Stands, Ready}
use Rattle.scan_parts.specs.Scanned.{a_param}
use Rattle.scan_parts.specs.Parsed.{Parsed}
use Rattle.scan_parts.proofs.Standing.{stands_run}
use Rattle.scanner.proofs.NotedInOrder.{record_numbers, records_more}
use Rattle.scanner.proofs.ReadyBehindParams.{holding, chain_ready, ready_blanks, ready_semi}
use Rattle.scanner.proofs.ParamsSoFar.{ParamsSoFar, begin, told, more}
use Rattle.known.specs.Known.{KnownParam}
use Rattle.tables.proofs.Filled.{records_length}
use Rattle.filling.specs.Filling.{KeptOnce, BeforeParams, ParamsFilled}
use Rattle.filling.proofs.PartOfReading.{part_params, ready_ends}

-- from place a, with the next number m and the table `old`: at place i the next number is n, and the table is `new`
pub record ParamsWritten (extra : Extra) (s : List ℕ) (a m : ℕ) (old : List ℕ) (i n : ℕ) (x : Seen) (new : List ℕ) : Type 0 where
  pub count : ℕ
  pub params : List Param
  pub along : ParamsSoFar extra s a i count x params
  pub number : n ≡ m + count
  pub written : new ≡ sets old (param_width * m) (records_of s (keep_after s [] (reverse params)))

module _ {extra : Extra} {s old : List ℕ} {a m : ℕ} (b : BeforeParams extra s old a m) where
  pub written_begin : {x : Seen} → a ≤ length s → x ≡ none_seen → ParamsWritten extra s a m old a m x old
  written_begin h e =
      record { count = 0; params = []; along = begin h e; number = sym (add-zero m); written = refl }

  -- where the machine stands behind the parameters so far
  ready_here : {i k : ℕ} {x : Seen} {qs : List Param} → ParamsSoFar extra s a i k x qs → Ready extra s (holding b.links b.from b.to qs) i
  ready_here g = chain_ready b.links b.from b.to g.chain b.ready

  -- there is room for what is kept so far
  room_here : {i k : ℕ} {x : Seen} {qs : List Param} → ParamsSoFar extra s a i k x qs → m + k ≤ param_room_of old
  room_here g = omega (arith, part_params b.derived (ready_here g), b.room, b.number, g.kept)

  -- no further parameter: what was written is all
  pub filled_ends : {i j n : ℕ} {x : Seen} {new : List ℕ} {q : Bool} → ParamsWritten extra s a m old i n x new → Passed is_blank s i j
      → Looked s j 59 q → not q ≡ true → ParamsFilled extra s a j m n old new
  filled_ends {q = q} w p l f =
      record {
        params = w.params;
        end = _;
        chain = w.along.chain;
        blanks = p;
        ends = ready_ends b.derived (ready_blanks (ready_here w.along) p.run) p.stops (l.not (not-true q f));
        next = w.number ∙ ap (λ (k : ℕ). m + k) w.along.kept;
        written = w.written;
      }

  -- behind a semicolon and blanks, a parameter is known to stand
  pub known_param : {i j k e n : ℕ} {x : Seen} {new : List ℕ} → ParamsWritten extra s a m old i n x new → Passed is_blank s i j → At s j 59
      → k ≡ j + 1 → Passed is_blank s k e → KnownParam extra s e
  known_param {j = j} w p q l r =
      let o = holding b.links b.from b.to w.params in
      record {
        link = o;
        known =
            record {
              all = b.all;
              derived = b.derived;
              stands =
                  stands_run (λ i x y. rw y) r.run
                  (subst (Stands extra s (semi o)) (sym (l ∙ add-one j)) (ready_semi (ready_blanks (ready_here w.along) p.run) q));
            };
        clear = record { inside = r.inside; clear = r.stops };
      }

  pub written_length : {i n : ℕ} {x : Seen} {new : List ℕ} (w : ParamsWritten extra s a m old i n x new) → length new ≡ length old
  written_length w =
      ap length w.written ∙ length-sets old (param_width * m) (records_of s (keep_after s [] (reverse w.params)))

  -- one parameter more
  module _ {i j k e n c d : ℕ} {x : Seen} {new : List ℕ} {r : ParamParts} {z : Bool} (w : ParamsWritten extra s a m old i n x new)
      (p : Passed is_blank s i j) (q : At s j 59) (l : k ≡ j + 1) (v : Passed is_blank s k e) (f : Parsed extra s e (to_param r) d)
      (h : c ≡ code_of (folded (slice r.name.from.0 r.name.to.0 s))) (o : z ≡ has_code x c) where
    along_more : ParamsSoFar extra s a d (w.count + cond z 0 1) (with_code x c) (to_param r ∷ w.params)
    along_more = more {d = record { at = record { 0 = d } }} w.along p q l v (a_param f) h o refl refl

    pub keep_room : z ≡ false → n < param_room_of new
    keep_room y =
        let one : ◌≡◌ {A = ℕ} (cond z 0 1) 1 = ap (λ (b : Bool). cond b 0 1) y in
        let rooms : param_room_of new ≡ param_room_of old = ap (λ (k : ℕ). k / param_width) (written_length w) in
        omega (arith, room_here along_more, one, w.number, rooms)

    abbrev kept : List ℕ
    kept = records_of s (keep_after s [] (reverse w.params))

    abbrev numbers : List ℕ
    numbers = records_of s (to_param r ∷ [])

    -- its record is stored behind those before, or left out
    stored : (b : Bool) → cond b new (sets new (param_width * n) numbers) ≡ sets old (param_width * m) (kept ++ cond b [] numbers)
    stored true = w.written ∙ ap (sets old (param_width * m)) (sym (append-nil kept))
    stored false =
        let at : param_width * n ≡ param_width * m + length kept =
        omega (arith, w.number, w.along.kept, records_length s (keep_after s [] (reverse w.params)))
        in
        ap₂ (λ (t : List ℕ) (g : ℕ). sets t g numbers) w.written at ∙ sym (sets_append old (param_width * m) kept numbers)

    pub written_on : {n' : ℕ} {y : Seen} {new' : List ℕ} → KeptOnce z (record { parts = r; code = c }) n n' new new' → y ≡ with_code x c
        → ParamsWritten extra s a m old d n' y new'
    written_on t y =
        record {
          count = w.count + cond z 0 1;
          params = to_param r ∷ w.params;
          along = subst (λ (g : Seen). ParamsSoFar extra s a d (w.count + cond z 0 1) g (to_param r ∷ w.params)) (sym y) along_more;
          number = t.next ∙ ap (λ (g : ℕ). g + cond z 0 1) w.number ∙ add_assoc m w.count (cond z 0 1);
          written =
              t.written ∙ ap (λ (ns : List ℕ). cond z new (sets new (param_width * n) ns)) (record_numbers s h) ∙ stored z
              ∙ ap (sets old (param_width * m)) (records_more s (to_param r) w.params (told r w.along h o));
        }
