-- Tables filled from notes that hold all records.
use Prim.Native.Nat.{ℕ, ◌*◌, ◌/◌, ◌≤◌, ◌<◌}
use native.Mathlib.Omega.{arith}
use mathlib.Core.Path.{◌≡◌, sym, ap, ◌∙◌}
use mathlib.Core.List.{List, ◌++◌}
use lib.ListN.{length, take, drop}
use lib.Seq.{sets}
use Rattle.octets.specs.Editions.{further}
use Rattle.octets.specs.declared.editions.Edition.{Edition}
use Rattle.grammar.specs.Link.{Link}
use Rattle.grammar.specs.Records.{link_width, param_width, count_params, link_records, param_records}
use Rattle.grammar.proofs.Editions.{apart}
use Rattle.grammar.proofs.Readings.{one_reading}
use Rattle.tables.proofs.Filled.{link_records_length, param_records_length}
use Rattle.kinds.specs.declared.Counts.{Counts}
use Rattle.notes.proofs.Copied.{copied}
use Rattle.filling.specs.Filling.{ReadingFits, TablesFilled}
use Rattle.noted_fill.specs.HeaderNoted.{HeaderNoted}
use Rattle.noted_fill.proofs.SmallRecords.{small_links, small_params}

module _ (ed : Edition) {s : List ℕ} {n : Counts} {L P A B : List ℕ} (fits : ReadingFits (further ed) s A B)
    (h : HeaderNoted (further ed) s n L P) where
  abbrev K : List Link
  K = h.counts.reading

  same : fits.reading ≡ K
  same = one_reading (further ed) (apart ed) s fits.reading K fits.reads h.counts.reads

  -- there is room for what is copied
  pub link_fits : link_width * n.links ≤ length A
  link_fits = omega (arith, fits.link_room, ap length same, h.counts.links)

  pub param_fits : param_width * n.params ≤ length B
  param_fits = omega (arith, fits.param_room, ap count_params same, h.counts.params)

  pub filled_from_notes : {A' B' : List ℕ} → length s < 65536 → n.links ≤ length L / link_width → n.params ≤ length P / param_width
      → A' ≡ sets A 0 (take (link_width * n.links) L) → B' ≡ sets B 0 (take (param_width * n.params) P) → TablesFilled (further ed) s A A' B B'
  filled_from_notes short l p a b =
      let few : count_params K ≤ length s = omega (arith, h.counts.few_params, h.counts.params) in
      let links : link_width * n.links ≡ link_width * length K = ap (λ (k : ℕ). link_width * k) h.counts.links in
      let params : param_width * n.params ≡ param_width * count_params K = ap (λ (k : ℕ). param_width * k) h.counts.params in
      record {
        reading = K;
        reads = h.counts.reads;
        links =
            copied A (link_records 0 K) h.noted.links (small_links short h.counts.reads few)
            (link_records_length 0 K ∙ sym links) (omega arith) link_fits a
            ∙ ap (λ (k : ℕ). link_records 0 K ++ drop k A) links;
        params =
            copied B (param_records s K) h.noted.params (small_params short h.counts.reads)
            (param_records_length s K ∙ sym params) (omega arith) param_fits b
            ∙ ap (λ (k : ℕ). param_records s K ++ drop k B) params;
      }
