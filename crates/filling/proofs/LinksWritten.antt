-- The links written so far: between two of them both tables hold the records of those read.
use Prim.Native.Nat.{ℕ, suc, ◌+◌, ◌*◌, ◌/◌, ◌≤◌, ◌<◌}
use native.Mathlib.Omega.{arith}
use native.Mathlib.Numerals.{add-one}
use mathlib.Core.Path.{◌≡◌, refl, sym, ap, ap₂, subst, ◌∙◌}
use mathlib.Core.Bool.{Bool, true, false, true≢false}
use mathlib.Core.List.{List, [], ◌∷◌, ◌++◌, map, reverse}
use lib.Dec.{eqb}
use lib.ListN.{length, drop, get_or, length-map}
use lib.Seq.{sets, length-sets}
use borrow.Author.Tests.{eqb-true}
use Rattle.octets.specs.Sets.{is_blank}
use Rattle.grammar.specs.Link.{Link}
use Rattle.grammar.specs.Grammar.{Extra, Admissible, At, Field}
use Rattle.grammar.specs.Targets.{References}
use Rattle.grammar.specs.Kept.{kept_link, keep_after, Reading}
use Rattle.grammar.specs.Records.{
  link_width,
  param_width,
  link_room_of,
  param_room_of,
  count_params,
  records_of,
  link_records,
  param_records,
}
use Rattle.grammar.specs.Machine.{State, gap, target, step, dead}
use Rattle.grammar.proofs.Rest.{Rest}
use Rattle.grammar.proofs.Readings.{one_derived, one_reading}
use Rattle.tables.proofs.Filled.{link_records_length, param_records_length}
use Rattle.kinds.proofs.Stores.{sets_append, sets_front}
use Rattle.cursor.specs.Passed.{Passed}
use Rattle.scan_parts.specs.Stands.{Stands}
use Rattle.scan_parts.proofs.Standing.{stands_start, stands_step, finishes}
use Rattle.scanner.proofs.ReadyBehindLink.{link_of, link_ready, link_forward}
use Rattle.scanner.proofs.BetweenLinks.{ordered, gap_blanks, gap_comma, target_begins, link_last, link_comma, kept_with}
use Rattle.scanner.proofs.LinksInOrder.{link_slot, param_slot, links_more, params_more}
use Rattle.filling.specs.Filling.{ReadingFits, BeforeLink, LinkFilled, TablesFilled}
use Rattle.filling.proofs.PartOfReading.{stands_rest, rest_alive, part_links}

-- both tables hold the records of the links ls, held last first
pub record LinksHeld (s L₀ P₀ : List ℕ) (ls : List Link) (L P : List ℕ) : Type 0 where
  pub link_slots : L ≡ sets L₀ 0 (link_records 0 (ordered s ls))
  pub param_slots : P ≡ sets P₀ 0 (param_records s (ordered s ls))

held_lengths : {s L₀ P₀ L P : List ℕ} {ls : List Link} → LinksHeld s L₀ P₀ ls L P → (length L ≡ length L₀) × (length P ≡ length P₀)
held_lengths {s} {L₀} {P₀} {ls = ls} h = (
  ap length h.link_slots ∙ length-sets L₀ 0 (link_records 0 (ordered s ls)),
  ap length h.param_slots ∙ length-sets P₀ 0 (param_records s (ordered s ls)),
)

-- n slots stored from the first on
front : (l vs : List ℕ) (n : ℕ) → length vs ≡ n → n ≤ length l → sets l 0 vs ≡ vs ++ drop n l
front l vs n e h = sets_front l vs (omega arith) ∙ ap (λ (k : ℕ). vs ++ drop k l) e

-- at place i, between links: those held have been read and written, and the next numbers are n and m
pub record LinksWritten (extra : Extra) (s L₀ P₀ : List ℕ) (i n m : ℕ) (L P : List ℕ) : Type 0 where
  pub links : List Link
  pub stands : Stands extra s (gap links) i
  pub link_number : n ≡ length links
  pub param_number : m ≡ count_params (map (kept_link s) links)
  pub held : LinksHeld s L₀ P₀ links L P

module _ {extra : Extra} {s L₀ P₀ : List ℕ} (fits : ReadingFits extra s L₀ P₀) where
  -- a header that ends with these links read has their reading
  held_filled : {L P : List ℕ} → Admissible extra → (ls : List Link) → Field extra s (reverse ls) → LinksHeld s L₀ P₀ ls L P → TablesFilled extra s L₀ L P₀ P
  held_filled a ls f h =
      let K = ordered s ls in
      let read = fits.reads in
      let reads : Reading extra s K =
      record {
        links = reverse ls;
        derived = f;
        references = subst (References s) (one_derived extra a s read.derived f) read.references;
        kept = refl;
      }
      in
      let same : fits.reading ≡ K = one_reading extra a s fits.reading K fits.reads reads in
      record {
        reading = K;
        reads = reads;
        links =
            h.link_slots
            ∙ front L₀ (link_records 0 K) (link_width * length K) (link_records_length 0 K)
            (omega (arith, fits.link_room, ap length same));
        params =
            h.param_slots
            ∙ front P₀ (param_records s K) (param_width * count_params K) (param_records_length s K)
            (omega (arith, fits.param_room, ap count_params same));
      }

  pub filling_start : {i n m : ℕ} → Admissible extra → i ≡ 0 → n ≡ 0 → m ≡ 0 → LinksWritten extra s L₀ P₀ i n m L₀ P₀
  filling_start a e f g =
      record {
        links = [];
        stands = subst (Stands extra s (gap [])) (sym e) (stands_start a s);
        link_number = f;
        param_number = g;
        held = record { link_slots = refl; param_slots = refl };
      }

  module _ {i n m : ℕ} {L P : List ℕ} (w : LinksWritten extra s L₀ P₀ i n m L P) where
    pub filling_lengths : (length L ≡ length L₀) × (length P ≡ length P₀)
    filling_lengths = held_lengths w.held

    module _ {j : ℕ} (p : Passed is_blank s i j) where
      here : Stands extra s (gap w.links) j
      here = gap_blanks w.stands p

      pub filled_at_end : length s ≤ j → TablesFilled extra s L₀ L P₀ P
      filled_at_end h = held_filled w.stands.apart w.links (finishes here h refl) w.held

      pub comma_on : {k : ℕ} → At s j 44 → k ≡ j + 1 → LinksWritten extra s L₀ P₀ k n m L P
      comma_on q e =
          record {
            links = w.links;
            stands = gap_comma here q e;
            link_number = w.link_number;
            param_number = w.param_number;
            held = w.held;
          }

      -- where neither blank nor comma stands, a link begins
      link_begins : j < length s → eqb (get_or s j 0) 44 ≡ false → At s j 60
      link_begins h e = go (eqb (get_or s j 0) 60) refl
        where
          go : (b : Bool) → eqb (get_or s j 0) 60 ≡ b → At s j 60
          go true f = record { inside = h; is = eqb-true (get_or s j 0) 60 f }
          go false f =
              let died : step extra (gap w.links) j (get_or s j 0) ≡ dead = rw (p.stops h, e, f) in
              absurd
              (true≢false
              (rest_alive
              (subst (λ (x : State). Rest extra s x (suc j) fits.reads.links) died
              (stands_rest fits.reads.derived (stands_step here h)))))

      module _ {k : ℕ} (h : j < length s) (c : eqb (get_or s j 0) 44 ≡ false) (q : k ≡ j + 1) where
        begun : Stands extra s (target w.links k) k
        begun = target_begins here (link_begins h c) q

        pub before_link : BeforeLink extra s L P k n m
        before_link =
            let all = fits.reads.links in
            let links : length fits.reading ≡ length all = ap length fits.reads.kept ∙ length-map all (kept_link s) in
            let params : count_params fits.reading ≡ count_params (map (kept_link s) all) = ap count_params fits.reads.kept in
            let more_links : link_room_of L ≡ link_room_of L₀ = ap (λ (x : ℕ). x / link_width) filling_lengths.0 in
            let more_params : param_room_of P ≡ param_room_of P₀ = ap (λ (x : ℕ). x / param_width) filling_lengths.1 in
            record {
              all = all;
              derived = fits.reads.derived;
              link_room = omega (arith, fits.link_room);
              param_room = omega (arith, fits.param_room);
              links = w.links;
              stands = begun;
              link_number = w.link_number;
              param_number = w.param_number;
            }

        module _ {d x : ℕ} {L' P' : List ℕ} (f : LinkFilled extra s k d n m x L L' P P') where
          held_more : LinksHeld s L₀ P₀ (link_of f.link ∷ w.links) L' P'
          held_more =
              let K = ordered s w.links in
              let kept = records_of s (keep_after s [] (reverse f.link.rest.params)) in
              let numbers = k ∷ f.link.close ∷ m ∷ f.count ∷ [] in
              let at = link_slot f.link w.links w.link_number w.param_number in
              let to = param_slot f.link w.links w.link_number w.param_number in
              record {
                link_slots =
                    f.links_written ∙ ap₂ (λ (t : List ℕ) (g : ℕ). sets t g numbers) w.held.link_slots at
                    ∙ sym (sets_append L₀ 0 (link_records 0 K) numbers)
                    ∙ ap (sets L₀ 0) (links_more f.link w.links w.link_number w.param_number);
                param_slots =
                    f.params_written ∙ ap₂ (λ (t : List ℕ) (g : ℕ). sets t g kept) w.held.param_slots to
                    ∙ sym (sets_append P₀ 0 (param_records s K) kept)
                    ∙ ap (sets P₀ 0) (params_more f.link w.links w.link_number w.param_number);
              }

          pub filled_behind : length s ≤ d → TablesFilled extra s L₀ L' P₀ P'
          filled_behind e = held_filled w.stands.apart (link_of f.link ∷ w.links) (link_last f.link begun e) held_more

          pub link_on : {v u : ℕ} → d < length s → v ≡ d + 1 → u ≡ n + 1 → LinksWritten extra s L₀ P₀ v u x L' P'
          link_on e y z =
              record {
                links = link_of f.link ∷ w.links;
                stands = link_comma f.link begun e y;
                link_number = z ∙ add-one n ∙ ap suc w.link_number;
                param_number = f.next ∙ kept_with f.link begun w.param_number;
                held = held_more;
              }

          -- this link is one of the header's, so that its number fits
          pub links_few : n < link_room_of L₀
          links_few =
              let all = fits.reads.links in
              let links : length fits.reading ≡ length all = ap length fits.reads.kept ∙ length-map all (kept_link s) in
              omega (
                arith,
                part_links fits.reads.derived (link_ready w.links f.link begun),
                fits.link_room,
                w.link_number,
              )

          pub behind_inside : (k < d) × (d ≤ length s)
          behind_inside = let g = link_forward f.link in (omega (arith, g.0), g.1)

          pub lengths_kept : (length L' ≡ length L₀) × (length P' ≡ length P₀)
          lengths_kept = held_lengths held_more
