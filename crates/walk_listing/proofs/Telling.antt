-- The line of a walk's answer tells its outcome. Assumes nothing.
use Prim.Native.Nat.{ℕ, ◌<◌}
use mathlib.Core.Path.{◌≡◌, refl, sym, ap, subst}
use mathlib.Core.List.{List}
use lib.ListN.{length}
use lib.IntN.{ℤ, nat_abs}
use borrow.Author.Tests.{eqb-false}
use Rattle.std.specs.Prelude.{Result, Ok, Err}
use Rattle.kinds.specs.Put.{Put}
use Rattle.kinds.specs.declared.PackNumber.{PackNumber}
use Rattle.catalogues.specs.Packs.{Pack, Room, Catalogue}
use Rattle.catalogues.specs.Walks.{relation_of}
use Rattle.catalogues.specs.Outcome.{WalkOut, Walk}
use Rattle.catalogues.proofs.Arrivals.{Walked, done_walked}
use Rattle.catalogues.proofs.WalkEnds.{walk_ends}
use Rattle.catalogues.proofs.Packing.{pack_there}
use Rattle.answers.specs.Walk.{end_of, walk_numbers}
use Rattle.answers.specs.Refusal.{refusal_number}
use Rattle.answers.specs.declared.walk_answer.End.{End}
use Rattle.answers.specs.declared.Refusal.{Refusal}
use Rattle.answers.specs.declared.walk_answer.Ended.{Ended}
use Rattle.answers.proofs.Refusals.{no_refusal_is_done}
use Rattle.pack_walk.specs.Walked.{walk_out}
use Rattle.walk_lines.specs.Line.{ended_line, refused_line}
use Rattle.walk_lines.specs.Line as line
use Rattle.walk_lines.specs.Put.{UriOf, PutLine, refusal, ended}
use Rattle.walk_listing.specs.Told.{WalkTold}

-- what is asked for, written another way
pub asked : {text : List ℕ} {room : Room} {i j : ℕ} {m n : ℤ} {o : WalkOut} → i ≡ j → m ≡ n → Walk text room i m o → Walk text room j n o
asked {text} {room} {j = j} {m = m} {o = o} e f w =
    subst (λ (z : ℤ). Walk text room j z o) f (subst (λ (k : ℕ). Walk text room k m o) e w)

module _ {text : List ℕ} {room : Room} {start : ℕ} {z : ℤ} where
  -- a walk ends at a pack
  last_below : {o : WalkOut} (w : Walked text room start z o) → o.pack < length w.packs
  last_below w =
      subst (λ (x : WalkOut). x.pack < length w.packs) (sym w.is)
      (walk_ends w.packs (relation_of z) (nat_abs z) start w.there).pack

  module _ {old new : List ℕ} {to : ℕ} where
    ended_told : (e : End) (p : PackNumber) (n : ℕ) (u : List ℕ) → Walk text room start z (walk_out (walk_numbers (Ok (record { end = e; pack = p; steps = n }))))
        → UriOf text p.0 u → Put old new 0 to (ended_line (end_of e) p.0 u n) → WalkTold text room start z old new to
    ended_told e p n u walk is put =
        let w = done_walked walk refl in
        let there = pack_there w.packs p.0 (last_below w) in
        let uri = is room w.packs there.0 w.catalogue there.1 in
        record {
          outcome = walk_out (walk_numbers (Ok (record { end = e; pack = p; steps = n })));
          walk = walk;
          line = ended_line (end_of e) p.0 there.0.uri n;
          tells = line.ended refl w.catalogue there.1;
          put = subst (λ (v : List ℕ). Put old new 0 to (ended_line (end_of e) p.0 v n)) uri put;
        }

    pub told : {r : Result Ended Refusal} → Walk text room start z (walk_out (walk_numbers r)) → PutLine text old new to r
        → WalkTold text room start z old new to
    told walk (refusal {why} put) =
        record {
          outcome = walk_out (walk_numbers (Err why));
          walk = walk;
          line = refused_line (refusal_number why);
          tells = line.refusal (eqb-false _ _ (no_refusal_is_done why));
          put = put;
        }
    told walk (ended {e} {p} {n} u is put) = ended_told e p n u walk is put
