-- The finish asked again reads the same records into the tables that hold them already.
use Prim.Native.Nat.{ℕ, ◌*◌, ◌≤◌, ◌/◌}
use native.Mathlib.Omega.{arith}
use mathlib.Core.Path.{◌≡◌, refl, sym, ap, ◌∙◌}
use mathlib.Core.List.{List, ◌++◌}
use lib.ListN.{length, drop, length-append, length-drop}
use lib.Seq.{drop_at}
use Rattle.octets.specs.declared.editions.Edition.{Edition}
use Rattle.grammar.specs.Link.{Link}
use Rattle.grammar.specs.Records.{link_width, param_width, link_room_of, param_room_of, count_params, link_records, param_records}
use Rattle.tables.proofs.Filled.{link_records_length, param_records_length}
use Rattle.outcomes.specs.Number.{limit}
use Rattle.outcomes.specs.Read.{ReadOut, filled, ReadIn, too_long, not_derived, no_link_room, no_param_room, reads}
use Rattle.outcomes.specs.Feed.{FinishIn, no_buffer, as_read}
use Rattle.outcomes.proofs.ReadSettled.{read_in}
use Rattle.outcomes.proofs.FeedSettled.{finish_in}
use Rattle.laws.specs.Feedings.{FinishAgain}
use Rattle.laws.proofs.HandedRight.{finishes_in}

-- records in front of what the slots held keep the count of slots
same_slots : (rs slots : List ℕ) (n : ℕ) → length rs ≡ n → n ≤ length slots → length (rs ++ drop n slots) ≡ length slots
same_slots rs slots n e h = omega (arith, length-append rs (drop n slots), length-drop n slots)

-- and behind them stands what stood there
same_behind : (rs slots : List ℕ) (n : ℕ) → length rs ≡ n → rs ++ drop n (rs ++ drop n slots) ≡ rs ++ drop n slots
same_behind rs slots n e = ap (λ (u : List ℕ). rs ++ u) (drop_at rs (drop n slots) n e)

module _ (h L P : List ℕ) (K : List Link) (f : length K ≤ link_room_of L) (g : count_params K ≤ param_room_of P) where
  abbrev links_then : List ℕ
  links_then = link_records 0 K ++ drop (link_width * length K) L

  abbrev params_then : List ℕ
  params_then = param_records h K ++ drop (param_width * count_params K) P

  same_link_room : link_room_of links_then ≡ link_room_of L
  same_link_room =
      ap (λ (n : ℕ). n / link_width)
      (same_slots (link_records 0 K) L (link_width * length K) (link_records_length 0 K) (omega arith))

  same_param_room : param_room_of params_then ≡ param_room_of P
  same_param_room =
      ap (λ (n : ℕ). n / param_width)
      (same_slots (param_records h K) P (param_width * count_params K) (param_records_length h K) (omega arith))

  filled_again : filled h links_then params_then K ≡ filled h L P K
  filled_again =
      rw (
        same_behind (link_records 0 K) L (link_width * length K) (link_records_length 0 K),
        same_behind (param_records h K) P (param_width * count_params K) (param_records_length h K),
      ) refl

read_again : (e : Edition) {h L P : List ℕ} {o q : ReadOut} → ReadIn e h L P o → ReadIn e h o.link_slots o.param_slots q → q ≡ o
read_again e {h} {L} {P} {q = q} (too_long l) r = (read_in e h L P).2 q r ∙ sym ((read_in e h L P).2 _ (too_long l))
read_again e {h} {L} {P} {q = q} (not_derived s m) r =
    (read_in e h L P).2 q r ∙ sym ((read_in e h L P).2 _ (not_derived s m))
read_again e {h} {L} {P} {q = q} (no_link_room s k l) r =
    (read_in e h L P).2 q r ∙ sym ((read_in e h L P).2 _ (no_link_room s k l))
read_again e {h} {L} {P} {q = q} (no_param_room s k l m) r =
    (read_in e h L P).2 q r ∙ sym ((read_in e h L P).2 _ (no_param_room s k l m))
read_again e {h} {L} {P} {q = q} (reads {K = K} s k f g) r =
    let one = (read_in e h (links_then h L P K f g) (params_then h L P K f g)).2 in
    let again : ReadIn e h (links_then h L P K f g) (params_then h L P K f g) (filled h (links_then h L P K f g) (params_then h L P K f g) K) =
    reads s k (rw (same_link_room h L P K f g) f) (rw (same_param_room h L P K f g) g)
    in
    one q r ∙ sym (one _ again) ∙ filled_again h L P K f g

-- with a buffer that is large enough the finish reads
has_read : {e : Edition} {octets buffer L P : List ℕ} {q : ReadOut} → limit ≤ length buffer → FinishIn e octets buffer L P q
    → ReadIn e octets L P q
has_read l (no_buffer m) = absurd (omega arith)
has_read l (as_read m b) = b

pub finish_again : FinishAgain
finish_again e octets buffer L P st o q h f g =
    go ((finishes_in e h f).answers octets h) ((finishes_in e h g).answers octets h)
  where
    go : {o : ReadOut} → FinishIn e octets buffer L P o → FinishIn e octets buffer o.link_slots o.param_slots q → q ≡ o
    go (no_buffer l) r = (finish_in e octets buffer L P).2 q r ∙ sym ((finish_in e octets buffer L P).2 _ (no_buffer l))
    go (as_read l a) r = read_again e a (has_read l r)
