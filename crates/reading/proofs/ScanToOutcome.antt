-- The outcome that a header's scan and the rooms lead to.
use Prim.Native.Nat.{ℕ, ◌≤◌, ◌<◌}
use native.Mathlib.Omega.{arith}
use mathlib.Core.Path.{◌≡◌, ap, ◌∙◌}
use mathlib.Core.List.{List}
use lib.ListN.{length}
use Rattle.octets.specs.Editions.{further}
use Rattle.octets.specs.declared.editions.Edition.{Edition}
use Rattle.grammar.specs.Records.{count_params, link_room_of, param_room_of}
use Rattle.grammar.proofs.Editions.{apart}
use Rattle.grammar.proofs.Readings.{one_reading}
use Rattle.outcomes.specs.Number.{limit}
use Rattle.outcomes.specs.Read.{ReadIn, ReadOut, not_derived, no_link_room, no_param_room, reads}
use Rattle.kinds.specs.declared.Counts.{Counts}
use Rattle.kinds.specs.declared.Place.{Place}
use Rattle.answers.specs.declared.Refusal.TheVariants.{NoLinkRoom, NoParamRoom}
use Rattle.answers.specs.declared.read_answer.ReadError.{ReadError}
use Rattle.answers.specs.declared.read_answer.ReadError.TheVariants.{Malformed, Refused}
use Rattle.answers.specs.Read.{read_numbers, read_out}
use Rattle.std.specs.Prelude.{Result, Ok, Err}
use Rattle.scanner.specs.Linked.{CountsOf, HeaderScanned, malformed_at, counted}
use Rattle.filling.specs.Filling.{ReadingFits, TablesFilled}
use Rattle.noted_fill.specs.HeaderNoted.{HeaderNoted}

-- an answer, with what both tables hold afterwards
abbrev out : Result Counts ReadError → List ℕ → List ℕ → ReadOut
out r L P = read_out (read_numbers r) L P

module _ (ed : Edition) {s N N' M M' : List ℕ} (L P : List ℕ) (short : length s ≤ limit) where
  pub is_malformed : {p : Place} → HeaderScanned (further ed) s N N' M M' (Err p) → ReadIn ed s L P (out (Err (Malformed p)) L P)
  is_malformed (malformed_at h) = not_derived short h

  module _ {n : Counts} (c : HeaderScanned (further ed) s N N' M M' (Ok n)) where
    -- what the scan noted
    pub noted : HeaderNoted (further ed) s n N' M'
    noted = go c
      where
        go : {n : Counts} → HeaderScanned (further ed) s N N' M M' (Ok n) → HeaderNoted (further ed) s n N' M'
        go (counted k h) = record { counts = k; links_before = N; params_before = M; noted = h }

    abbrev counts : CountsOf (further ed) s n
    counts = noted.counts

    -- the rooms, as the code asks for them
    module _ {x : ℕ} (a : x ≡ link_room_of L) where
      pub few_link_slots : x < n.links → ReadIn ed s L P (out (Err (Refused NoLinkRoom)) L P)
      few_link_slots h = no_link_room short counts.reads (omega (arith, counts.links))

      module _ {y : ℕ} (b : y ≡ param_room_of P) (h : n.links ≤ x) where
        pub few_param_slots : y < n.params → ReadIn ed s L P (out (Err (Refused NoParamRoom)) L P)
        few_param_slots k =
            no_param_room short counts.reads (omega (arith, counts.links)) (omega (arith, counts.params))

        pub fits : n.params ≤ y → ReadingFits (further ed) s L P
        fits k =
            record {
              reading = counts.reading;
              reads = counts.reads;
              link_room = omega (arith, counts.links);
              param_room = omega (arith, counts.params);
            }

        pub is_done : {L' P' : List ℕ} → n.params ≤ y → TablesFilled (further ed) s L L' P P' → ReadIn ed s L P (out (Ok n) L' P')
        is_done k f =
            let same = one_reading (further ed) (apart ed) s counts.reading f.reading counts.reads f.reads in
            let u : n.links ≡ length f.reading = counts.links ∙ ap length same in
            let v : n.params ≡ count_params f.reading = counts.params ∙ ap count_params same in
            rw (u, v, f.links, f.params) (reads short f.reads (omega arith) (omega arith))
