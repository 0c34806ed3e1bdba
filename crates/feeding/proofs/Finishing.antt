-- What the finish answers, of each state.
use Prim.Native.Nat.{ℕ, ◌≤◌, ◌<◌}
use native.Mathlib.Omega.{arith}
use mathlib.Core.Path.{sym, subst}
use mathlib.Core.List.{List, [], append-nil}
use lib.ListN.{length, take}
use Rattle.octets.specs.declared.editions.Edition.{Edition}
use Rattle.grammar.specs.Grammar.{Extra, Admissible, Field}
use Rattle.grammar.specs.Place.{Begun, Malformed}
use Rattle.outcomes.specs.Number.{limit, too_long_number, malformed_header_number, no_output_room_number}
use Rattle.outcomes.specs.Read as reading
use Rattle.outcomes.specs.Read.{ReadOut, refused, ReadIn}
use Rattle.outcomes.specs.Feed.{no_buffer, as_read}
use Rattle.outcomes.specs.Feeding as any
use Rattle.outcomes.specs.Feeding.{Feeding, Holds, over, stuck, begun, FinishesIn}
use Rattle.grammar.proofs.Editions.{apart}
use Rattle.grammar.proofs.Places.{faulty_shut, faulty_malformed}
use Rattle.grammar.proofs.Growing.{before_end}

-- octets of which something is wrong are no header themselves
begins_none : {extra : Extra} → Admissible extra → (u : List ℕ) → (Begun extra u → ⊥) → Malformed extra u
begins_none {extra} apart u n R f refs =
    n
    (record {
      begins = record { rest = []; links = R; derived = subst (λ (x : List ℕ). Field extra x R) (sym (append-nil u)) f };
      references = λ a k x. faulty_malformed extra apart (faulty_shut extra apart x) x.no_reference R f refs;
    })

module _ (ed : Edition) {st : Feeding} {buffer L P : List ℕ} where
  pub too_small : length buffer < limit → FinishesIn st buffer L P ed (refused L P no_output_room_number 0)
  too_small l = record { answers = λ octets h. no_buffer l; any = any.no_buffer l }

  module _ (large : limit ≤ length buffer) where
    pub too_long : limit < st.total → FinishesIn st buffer L P ed (refused L P too_long_number 0)
    too_long l =
        record { answers = λ octets h. as_read large (reading.too_long (long l h)); any = any.too_long large l }
      where
        long : {octets : List ℕ} {su : Feeding} → limit < su.total → Holds ed octets buffer su → limit < length octets
        long l (over h) = h
        long l (stuck s n p) = absurd (omega arith)
        long l (begun s b t) = absurd (omega arith)

    module _ (short : st.total ≤ limit) where
      pub faulty : st.place < st.total → FinishesIn st buffer L P ed (refused L P malformed_header_number st.place)
      faulty l =
          record { answers = λ octets h. as_read large (told short l h); any = any.remembered large short l }
        where
          told : {octets : List ℕ} {su : Feeding} → su.total ≤ limit → su.place < su.total → Holds ed octets buffer su
              → ReadIn ed octets L P (refused L P malformed_header_number su.place)
          told s l (over h) = absurd (omega arith)
          told {octets} s l (stuck h n p) =
              reading.not_derived h (record { malformed = begins_none (apart ed) octets n; place = p })
          told s l (begun h b t) = absurd (omega arith)

      pub reads : {o : ReadOut} → st.total ≤ st.place → ReadIn ed (take st.total buffer) L P o → FinishesIn st buffer L P ed o
      reads {o} l r = record { answers = λ octets h. as_read large (told short l r h); any = any.reads large short l r }
        where
          told : {octets : List ℕ} {su : Feeding} → su.total ≤ limit → su.total ≤ su.place
              → ReadIn ed (take su.total buffer) L P o → Holds ed octets buffer su → ReadIn ed octets L P o
          told s l r (over h) = absurd (omega arith)
          told s l r (stuck h n p) = absurd (omega (arith, before_end (apart ed) n p))
          told s l r (begun h b t) = subst (λ (x : List ℕ). ReadIn ed x L P o) t r
