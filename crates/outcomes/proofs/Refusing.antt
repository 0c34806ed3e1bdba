-- Refusals change nothing, and success leaves what stands behind.
use Prim.Native.Nat.{ℕ, ◌*◌}
use native.Mathlib.Omega.{arith}
use mathlib.Core.Path.{◌≡◌, refl, ap}
use mathlib.Core.List.{List}
use lib.ListN.{length, drop}
use lib.Seq.{drop_at, drop-append_seam}
use Rattle.octets.specs.declared.editions.Edition.{Edition}
use Rattle.grammar.specs.Records.{link_width, param_width, link_records, param_records, count_params}
use Rattle.resolution.specs.Resolve.{resolved, unfragmented}
use Rattle.tables.specs.Table.{Table}
use Rattle.tables.specs.Meaning.{value_of}
use Rattle.tables.proofs.Filled.{link_records_length, param_records_length}
use Rattle.outcomes.specs.Number.{done}
use Rattle.outcomes.specs.Read as Reading
use Rattle.outcomes.specs.Search as Searching
use Rattle.outcomes.specs.Context as Contexts
use Rattle.outcomes.specs.Copy as Copying
use Rattle.outcomes.specs.Write as Writing
use Rattle.outcomes.specs.Title as Titles
use Rattle.outcomes.specs.Decode as Decoding
use Rattle.outcomes.specs.Resolve as Resolving
use Rattle.outcomes.specs.ResolvedContext as OnBase
use Rattle.outcomes.specs.Feed as Feeds
use Rattle.outcomes.specs.Laws.{ReadKeeps, CopyKeeps, FeedKeeps, Refusals, UnknownRefused}
use Rattle.outcomes.proofs.InEdition.{in_any, in_unknown}
use Rattle.outcomes.proofs.Usable.{table_any, over_any}

-- a refusal whose number is no 0 and no 2
plainly : (L P : List ℕ) (n : ℕ) → (n ≡ 0 → ⊥) → ReadKeeps L P (Reading.refused L P n 0)
plainly L P n z =
    record {
      refused = λ _. (refl, refl, refl, refl);
      place = λ _. refl;
      behind_links = λ e. absurd (z e);
      behind_params = λ e. absurd (z e);
    }

read_in : (e : Edition) (h L P : List ℕ) (o : Reading.ReadOut) → Reading.ReadIn e h L P o → ReadKeeps L P o
read_in e h L P _ (Reading.too_long l) = plainly L P 1 (λ e. omega arith)
read_in e h L P _ (Reading.not_derived s m) =
    record {
      refused = λ _. (refl, refl, refl, refl);
      place = λ n. absurd (n refl);
      behind_links = λ e. absurd (omega arith);
      behind_params = λ e. absurd (omega arith);
    }
read_in e h L P _ (Reading.no_link_room s r l) = plainly L P 3 (λ e. omega arith)
read_in e h L P _ (Reading.no_param_room s r l m) = plainly L P 4 (λ e. omega arith)
read_in e h L P _ (Reading.reads {K = K} s r l m) =
    record {
      refused = λ n. absurd (n refl);
      place = λ _. refl;
      behind_links = λ _. drop_at (link_records 0 K) (drop (link_width * length K) L) (link_width * length K) (link_records_length 0 K);
      behind_params = λ _. drop_at (param_records h K) (drop (param_width * count_params K) P) (param_width * count_params K) (param_records_length h K);
    }

unknown : (L P : List ℕ) → ReadKeeps L P (Reading.refused L P 10 0)
unknown L P = plainly L P 10 (λ e. omega arith)

untouched : (out : List ℕ) (n : ℕ) → (n ≡ done → ⊥) → CopyKeeps out (Copying.untouched out n)
untouched out n z = record { refused = λ _. (refl, refl); behind = λ e. absurd (z e) }

holding : (out v : List ℕ) → CopyKeeps out (Copying.holding out v)
holding out v = record { refused = λ n. absurd (n refl); behind = λ _. drop-append_seam v (drop (length v) out) }

searched : (t : Table) (q : List ℕ) (o : Searching.SearchOut) → Searching.Searched t q o → (o.number ≡ done → ⊥) → o.link ≡ 0
searched t q _ (Searching.no_link f) n = refl
searched t q _ (Searching.found h e f) n = absurd (n refl)

found : (t : Table) (base : List ℕ) (i : ℕ) (o : Contexts.ContextOut) → Contexts.ContextOf t base i o → (o.number ≡ done → ⊥)
    → o ≡ Contexts.nothing o.number
found t base i _ (Contexts.no_such_link h) n = refl
found t base i _ (Contexts.anchored h e) n = absurd (n refl)
found t base i _ (Contexts.unanchored h e) n = absurd (n refl)

copied : (t : Table) (i j : ℕ) (out : List ℕ) (o : Copying.CopyOut) → Copying.Copied t i j out o → CopyKeeps out o
copied t i j out _ (Copying.no_such_link h) = untouched out 8 (λ e. omega arith)
copied t i j out _ (Copying.no_such_param h k) = untouched out 9 (λ e. omega arith)
copied t i j out _ (Copying.no_room h k l) = untouched out 7 (λ e. omega arith)
copied t i j out _ (Copying.copied h k l) = holding out (Copying.meant t i j)

wrote : (t : Table) (out : List ℕ) (o : Copying.CopyOut) → Writing.Wrote t out o → CopyKeeps out o
wrote t out _ (Writing.no_relation h e) = untouched out 6 (λ e. omega arith)
wrote t out _ (Writing.long_form r l) = untouched out 1 (λ e. omega arith)
wrote t out _ (Writing.no_room r h l) = untouched out 7 (λ e. omega arith)
wrote t out _ (Writing.wrote r h k) = holding out (Writing.written_form t)

titled : (t : Table) (i : ℕ) (out : List ℕ) (o : Copying.CopyOut) → Titles.Titled t i out o → CopyKeeps out o
titled t i out _ (Titles.no_such_link h) = untouched out 8 (λ e. omega arith)
titled t i out _ (Titles.untitled h u) = untouched out 9 (λ e. omega arith)
titled t i out _ (Titles.no_room h x l) = untouched out 7 (λ e. omega arith)
titled t i out _ (Titles.titled {v = v} h x l) = holding out v

decoded : (w out : List ℕ) (o : Copying.CopyOut) → Decoding.Decode w out o → CopyKeeps out o
decoded w out _ (Decoding.too_long l) = untouched out 1 (λ e. omega arith)
decoded w out _ (Decoding.wrong h n) = untouched out 11 (λ e. omega arith)
decoded w out _ (Decoding.no_room h x l) = untouched out 7 (λ e. omega arith)
decoded w out _ (Decoding.gives {v = v} h x l) = holding out v

fitted : (out v : List ℕ) (o : Copying.CopyOut) → Resolving.Fitted out v o → CopyKeeps out o
fitted out v _ (Resolving.too_long l) = untouched out 1 (λ e. omega arith)
fitted out v _ (Resolving.no_room h l) = untouched out 7 (λ e. omega arith)
fitted out v _ (Resolving.fits h l) = holding out v

resolve : (w base out : List ℕ) (o : Copying.CopyOut) → Resolving.Resolve w base out o → CopyKeeps out o
resolve w base out _ (Resolving.too_long l) = untouched out 1 (λ e. omega arith)
resolve w base out _ (Resolving.bad_base h k n) = untouched out 12 (λ e. omega arith)
resolve w base out _ (Resolving.bad_reference h k u n) = untouched out 13 (λ e. omega arith)
resolve w base out o (Resolving.resolves h k u r f) = fitted out (resolved base w) o f

context_on : (t : Table) (base : List ℕ) (i : ℕ) (out : List ℕ) (o : Copying.CopyOut)
    → OnBase.ContextOn t base i out o → CopyKeeps out o
context_on t base i out _ (OnBase.no_such_link h) = untouched out 8 (λ e. omega arith)
context_on t base i out _ (OnBase.bad_base h n) = untouched out 12 (λ e. omega arith)
context_on t base i out _ (OnBase.bad_reference h u a n) = untouched out 13 (λ e. omega arith)
context_on t base i out o (OnBase.anchored {p = p} h u a r f) = fitted out (resolved base (value_of t.text p)) o f
context_on t base i out o (OnBase.unanchored h u a f) = fitted out (unfragmented base) o f

context_in : (e : Edition) (t : Table) (base : List ℕ) (i : ℕ) (out : List ℕ) (o : Copying.CopyOut)
    → OnBase.ContextIn t base i out e o → CopyKeeps out o
context_in e t base i out _ (OnBase.long_base l) = untouched out 1 (λ e. omega arith)
context_in e t base i out o (OnBase.over_table h x) = table_any (CopyKeeps out) (untouched out) (context_on t base i out) e o x

-- a feed that is refused with a number that is no 2
unstored : (buffer : List ℕ) (n : ℕ) → (n ≡ done → ⊥) → FeedKeeps buffer (Feeds.unstored buffer n 0)
unstored buffer n z = record { refused = λ _. refl; place = λ _. refl }

feed_in : (e : Edition) (fed part buffer : List ℕ) (o : Feeds.FeedOut) → Feeds.FeedIn e fed part buffer o → FeedKeeps buffer o
feed_in e fed part buffer _ (Feeds.small_buffer l) = unstored buffer 7 (λ e. omega arith)
feed_in e fed part buffer _ (Feeds.too_long h l) = unstored buffer 1 (λ e. omega arith)
feed_in e fed part buffer _ (Feeds.wrong_so_far h s n p) = record { refused = λ _. refl; place = λ n. absurd (n refl) }
feed_in e fed part buffer _ (Feeds.right_so_far h s b) = record { refused = λ n. absurd (n refl); place = λ _. refl }

finish_in : (e : Edition) (fed buffer L P : List ℕ) (o : Reading.ReadOut) → Feeds.FinishIn e fed buffer L P o → ReadKeeps L P o
finish_in e fed buffer L P _ (Feeds.no_buffer l) = plainly L P 7 (λ e. omega arith)
finish_in e fed buffer L P o (Feeds.as_read h r) = read_in e fed L P o r

pub refusals : Refusals
refusals =
    record {
      read = λ n h L P. in_any (ReadKeeps L P) (unknown L P) (λ e. read_in e h L P);
      search = λ n t q. over_any (λ o. (o.number ≡ done → ⊥) → o.link ≡ 0) (λ k z n. refl) (searched t q);
      context = λ n t base i. over_any (λ o. (o.number ≡ done → ⊥) → o ≡ Contexts.nothing o.number) (λ k z n. refl) (found t base i);
      copy = λ n t i j out. over_any (CopyKeeps out) (untouched out) (copied t i j out);
      write = λ n t out. over_any (CopyKeeps out) (untouched out) (wrote t out);
      title = λ n t i out. over_any (CopyKeeps out) (untouched out) (titled t i out);
      decode = decoded;
      resolve = resolve;
      resolved_context =
          λ n t base i out.
          in_any (CopyKeeps out) (untouched out 10 (λ e. omega arith)) (λ e. context_in e t base i out);
      feed = λ n fed part buffer. in_any (FeedKeeps buffer) (unstored buffer 10 (λ e. omega arith)) (λ e. feed_in e fed part buffer);
      finish = λ n fed buffer L P. in_any (ReadKeeps L P) (unknown L P) (λ e. finish_in e fed buffer L P);
    }

pub unknown_refused : UnknownRefused
unknown_refused =
    record {
      read = λ n z h L P o d. in_unknown z d;
      search = λ n z t q o d. in_unknown z d;
      context = λ n z t base i o d. in_unknown z d;
      copy = λ n z t i j out o d. in_unknown z d;
      write = λ n z t out o d. in_unknown z d;
      title = λ n z t i out o d. in_unknown z d;
      resolved_context = λ n z t base i out o d. in_unknown z d;
      feed = λ st next z part buffer o d. (ap (λ w. w.0) (in_unknown z d), ap (λ w. w.1) (in_unknown z d));
      finish = λ st z buffer L P o d. in_unknown z d;
    }
